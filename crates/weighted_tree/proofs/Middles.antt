-- Lists around a middle item: where a place falls before it, at it, or after it.
use Rattle.std.proofs.Common.{◌≡◌, ℕ, zero, suc, ◌+◌, ◌-◌, ◌<◌, ◌≤◌, List, [], ◌∷◌, ◌++◌, length, refl, sym, ap, ◌∙◌, arith}
use Rattle.std.specs.Prelude.{Some, slice_get, slice_set}
use Rattle.std.specs.List.{insert, remove}
use Rattle.std.proofs.lemmas.List.{set-append_left, set-append_right}
use Rattle.std.proofs.Math.Seq.{set-append_seam}
use Rattle.std.proofs.lemmas.Option.{slice_get_within, get_or_from_slice_get}
use Rattle.std.proofs.lemmas.List.Edits.{insert-append_left, insert-append_right, remove-append_left, remove-append_right}

module _ {A : Type 0} (before after : List A) (middle : A) where
  pub insert-before : (place : ℕ) (item : A) → place ≤ length before → insert (before ++ middle ∷ after) place item ≡ insert before place item ++ middle ∷ after
  insert-before place item within = insert-append_left before (middle ∷ after) place item within

  insert_next : (k : ℕ) (item : A) → insert (middle ∷ after) (suc k) item ≡ middle ∷ insert after k item
  insert_next k item = refl

  one_less : (place : ℕ) → length before < place → place - length before ≡ suc (place - length before - 1)
  one_less place beyond = omega arith

  pub insert-after : (place : ℕ) (item : A) → length before < place → insert (before ++ middle ∷ after) place item ≡ before ++ middle ∷ insert after (place - length before - 1) item
  insert-after place item beyond =
      insert-append_right before (middle ∷ after) (length before) place item refl (omega arith)
      ∙ ap (λ k. before ++ insert (middle ∷ after) k item) (one_less place beyond)

  pub remove-before : (place : ℕ) → place < length before → remove (before ++ middle ∷ after) place ≡ remove before place ++ middle ∷ after
  remove-before place within = remove-append_left before (middle ∷ after) place within

  pub remove-middle : remove (before ++ middle ∷ after) (length before) ≡ before ++ after
  remove-middle =
      remove-append_right before (middle ∷ after) (length before) (length before) refl (omega arith)
      ∙ ap (λ k. before ++ remove (middle ∷ after) k) (let none : length before - length before ≡ 0 = omega arith in none)

  pub remove-after : (place : ℕ) → length before < place → remove (before ++ middle ∷ after) place ≡ before ++ middle ∷ remove after (place - length before - 1)
  remove-after place beyond =
      remove-append_right before (middle ∷ after) (length before) place refl (omega arith)
      ∙ ap (λ k. before ++ remove (middle ∷ after) k) (one_less place beyond)

  -- another item at a place
  pub set-before : (place : ℕ) (item : A) → place < length before → slice_set (before ++ middle ∷ after) place item ≡ slice_set before place item ++ middle ∷ after
  set-before place item within = set-append_left before (middle ∷ after) place item within

  pub set-middle : (item : A) → slice_set (before ++ middle ∷ after) (length before) item ≡ before ++ item ∷ after
  set-middle item = set-append_seam before middle after item

  pub set-after : (place : ℕ) (item : A) → length before < place → slice_set (before ++ middle ∷ after) place item ≡ before ++ middle ∷ slice_set after (place - length before - 1) item
  set-after place item beyond =
      set-append_right before (middle ∷ after) (length before) place item refl (omega arith)
      ∙ ap (λ k. before ++ slice_set (middle ∷ after) k item) (one_less place beyond)

-- what is at a place
pub get_shift : {A : Type 0} (before rest : List A) (k : ℕ) → slice_get (before ++ rest) (length before + k) ≡ slice_get rest k
get_shift [] rest k = ap (slice_get rest) (omega arith)
get_shift (x ∷ before) rest k = ap (slice_get (x ∷ (before ++ rest))) (let s : length (x ∷ before) + k ≡ suc (length before + k) = omega arith in s) ∙ get_shift before rest k

pub get-before : {A : Type 0} (before rest : List A) (place : ℕ) → place < length before → slice_get (before ++ rest) place ≡ slice_get before place
get-before [] rest place within = absurd (omega arith)
get-before (x ∷ before) rest zero within = refl
get-before (x ∷ before) rest (suc place) within = get-before before rest place (omega arith)

pub get-middle : {A : Type 0} (before after : List A) (middle : A) → slice_get (before ++ middle ∷ after) (length before) ≡ Some middle
get-middle [] after middle = refl
get-middle (x ∷ before) after middle = get-middle before after middle

pub get-after : {A : Type 0} (before after : List A) (middle : A) (place : ℕ) → length before < place → slice_get (before ++ middle ∷ after) place ≡ slice_get after (place - length before - 1)
get-after before after middle place beyond =
    ap (slice_get (before ++ middle ∷ after)) (let s : place ≡ length before + suc (place - length before - 1) = omega arith in s)
    ∙ get_shift before (middle ∷ after) (suc (place - length before - 1))

-- the first item, in front of the others
pub next-then-rest : {A : Type 0} (after : List A) (next : A) → slice_get after 0 ≡ Some next → next ∷ remove after 0 ≡ after
next-then-rest [] next is = absurd (omega (arith, slice_get_within [] 0 next is))
next-then-rest (x ∷ after) next is = ap (λ y. y ∷ after) (sym (get_or_from_slice_get (x ∷ after) 0 next next is))
