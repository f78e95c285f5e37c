-- The checkpoints are kept by every edit.
use Rattle.std.proofs.Common.{◌≡◌, ℕ, ◌+◌, ◌<◌, ◌≤◌, List, [], ◌∷◌, ◌++◌, length, take, map, refl, sym, subst, ap, ◌∙◌}
use Rattle.std.specs.List.{AllByRecursion}
use Rattle.std.proofs.lemmas.List.Edits.{length-insert, length-remove}
use Rattle.retro_base.specs.declared.row.Row.{Row}
use Rattle.retro_base.specs.Edits.{add, cut}
use Rattle.retro_base.specs.Timeline.{Structure}
use Rattle.checkpoint_full.specs.Checkpoints.{after, place_of, were_made, with_row, without_row, FitsBetween, HoldsFirstRows, KeepsCheckpoints}
use Rattle.checkpoint_full.proofs.Followed.{all_first_with, all_first_without}
use Rattle.checkpoint_full.proofs.Places.{close_with, close_without}

pub made_as_before : (f : Structure → Structure) (checkpoints changed : List Structure) → changed ≡ map f checkpoints → were_made changed ≡ were_made checkpoints
made_as_before f [] changed same = rw same refl
made_as_before f (checkpoint ∷ checkpoints) changed same = rw same refl

pub kept_with : (most : ℕ) (now later : Structure) (checkpoints changed : List Structure) (place : ℕ) (row : Row) → KeepsCheckpoints most now checkpoints → place ≤ place_of now
    → FitsBetween most place (place_of now) (map place_of checkpoints) → later ≡ after now (add place row) → changed ≡ map (with_row place row) checkpoints
    → KeepsCheckpoints most later changed
kept_with most now later [] changed place row keeps within room put each = rw each (λ made. absurd (cc))
kept_with most now later (checkpoint ∷ checkpoints) changed place row keeps within room put each =
    let are = keeps refl in
    let one : place_of later ≡ place_of now + 1 = rw put (length-insert now.rows place row within) in
    rw each (λ _. record {
      first_rows = subst (λ s. AllByRecursion (HoldsFirstRows s) (map (with_row place row) (checkpoint ∷ checkpoints))) (sym put)
          (all_first_with now place row (checkpoint ∷ checkpoints) are.first_rows);
      close = close_with most (place_of now) (place_of later) place row checkpoint checkpoints one are.close room;
    })

pub kept_without : (most : ℕ) (now later : Structure) (checkpoints changed : List Structure) (place : ℕ) (row : Row) → KeepsCheckpoints most now checkpoints → place < place_of now
    → later ≡ after now (cut place row) → changed ≡ map (without_row place) checkpoints → KeepsCheckpoints most later changed
kept_without most now later checkpoints changed place row keeps below gone each =
    let one : place_of now ≡ place_of later + 1 = rw gone (sym (length-remove now.rows place below)) in
    rw each (λ made.
    let are = keeps (sym (made_as_before (without_row place) checkpoints _ refl) ∙ made) in
    record {
      first_rows = subst (λ s. AllByRecursion (HoldsFirstRows s) (map (without_row place) checkpoints)) (sym gone) (all_first_without now place row checkpoints are.first_rows);
      close = close_without most (place_of now) (place_of later) place checkpoints one below are.close;
    })

-- what a list holds after all of it was written anew
pub written : {X : Type 0} (count : ℕ) (all rest : List X) → count ≡ length all → take count (all ++ rest) ≡ all
written count all rest same = rw same (whole all rest)
  where
    whole : {X : Type 0} (xs ys : List X) → take (length xs) (xs ++ ys) ≡ xs
    whole [] ys = refl
    whole (x ∷ xs) ys = ap (λ zs. x ∷ zs) (whole xs ys)
