-- Structures that were laid aside hold the first rows, whatever is edited.
use Rattle.std.proofs.Common.{◌≡◌, ◌⊎◌, ℕ, zero, suc, ◌≤◌, if◌then◌else◌, Bool, true, false, List, [], ◌∷◌, take, map, get_or, position, sym, subst, ap, ◌∙◌, Option, Some, inl, inr}
use Rattle.std.specs.List.{insert, AllByRecursion}
use Rattle.std.proofs.lemmas.Bool.{leb-true}
use Rattle.std.proofs.lemmas.List.Quantifiers.{position-Some}
use Rattle.retro_base.specs.declared.row.Row.{Row}
use Rattle.retro_base.specs.Edits.{add, cut}
use Rattle.retro_base.specs.Timeline.{Structure}
use Rattle.checkpoint_full.specs.Checkpoints.{after, first_of, place_of, stands_within, with_row, without_row, HoldsFirstRows}
use Rattle.checkpoint_full.proofs.FirstRows.{first_of-first_of}
use Rattle.checkpoint_full.proofs.Followed.{all_first_with, all_first_without}
use Rattle.checkpoint_full.proofs.Mapped.{all_of}

pub all_with_one : {X : Type 0} (P : X → Type 0) (laid : Bool) (xs more : List X) (x : X) → more ≡ (if laid then insert xs 0 x else xs) → P x → AllByRecursion P xs
    → AllByRecursion P more
all_with_one P true xs more x put here all = rw put (here, all)
all_with_one P false xs more x put here all = rw put all

pub all_taken : {X : Type 0} (P : X → Type 0) (count : ℕ) (xs : List X) → AllByRecursion P xs → AllByRecursion P (take count xs)
all_taken P zero xs all = tt
all_taken P (suc count) [] all = tt
all_taken P (suc count) (x ∷ xs) all = (all.0, all_taken P count xs all.1)

both : (one other : Bool) → (if one then other else false) ≡ true → other ≡ true
both true other are = are
both false other are = absurd (cc)

-- one that was found between two places
pub one_stands : (from to : ℕ) (now : Structure) (spares found : List Structure) (at : Option ℕ) (index : ℕ) (spare : Structure)
    → at ≡ position (λ s. stands_within from to s) found → found ≡ spares → at ≡ Some index → spare ≡ get_or spares index spare
    → AllByRecursion (HoldsFirstRows now) spares → HoldsFirstRows now spare × (place_of spare ≤ to)
one_stands from to now spares found at index spare first of_all one here all =
    let there = position-Some (λ s. stands_within from to s) spares index spare (ap (λ cs. position (λ s. stands_within from to s) cs) (sym of_all) ∙ sym first ∙ one) in
    let up_to : place_of (get_or spares index spare) ≤ to = leb-true _ _ (both _ _ there.1) in
    (all_of (HoldsFirstRows now) spares index spare spare all there.0 here, subst (λ s. place_of s ≤ to) (sym here) up_to)

-- it holds the first rows of every later one
pub holds_of_later : (now later spare : Structure) → HoldsFirstRows now later → HoldsFirstRows now spare → place_of spare ≤ place_of later → HoldsFirstRows later spare
holds_of_later now later spare first holds within =
    holds ∙ sym (ap (λ s. first_of (place_of spare) s) first ∙ first_of-first_of (place_of spare) (place_of later) now within)

-- all follow an edit
pub all_follow : (now later : Structure) (place : ℕ) (row : Row) (spares followed : List Structure) → AllByRecursion (HoldsFirstRows now) spares
    → later ≡ after now (add place row) → (followed ≡ map (with_row place row) spares) ⊎ (followed ≡ []) → AllByRecursion (HoldsFirstRows later) followed
all_follow now later place row spares followed all put (inl each) = rw (put, each) (all_first_with now place row spares all)
all_follow now later place row spares followed all put (inr none) = rw none tt

pub all_lose : (now later : Structure) (place : ℕ) (row : Row) (spares left : List Structure) → AllByRecursion (HoldsFirstRows now) spares
    → later ≡ after now (cut place row) → left ≡ map (without_row place) spares → AllByRecursion (HoldsFirstRows later) left
all_lose now later place row spares left all gone each = rw (gone, each) (all_first_without now place row spares all)
