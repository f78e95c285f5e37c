-- The edits of a step, made and taken back, and those of a row that is replaced.
use Rattle.std.proofs.Common.{◌≡◌, ℕ, zero, suc, ◌<◌, ◌≤◌, true, false, List, [], ◌∷◌, length, map, slice_get, Some, refl, ◌∙◌, ap, arith}
use Rattle.std.specs.Prelude.{nat_le}
use Rattle.std.specs.List.{insert, remove}
use Rattle.std.proofs.lemmas.Bool.{leb-true, leb-false}
use Rattle.std.proofs.lemmas.List.{reverse-append}
use Rattle.std.proofs.lemmas.List.Sums.{fold-append, count_by-le-length}
use Rattle.retro_base.specs.declared.row.Row.{Row}
use Rattle.retro_base.specs.Edits.{Step, cut, edited, edited_by, inverse, inverse_step}
use Rattle.retro_base.specs.EditedLists.{can_go_back, there_and_back}
use Rattle.retro_base.specs.Kind.{adds}
use Rattle.retro_base.specs.declared.target.Target.{Target}
use Rattle.retro_base.specs.declared.target.Target.TheVariants.{At, Into}
use Rattle.timeline_undo.specs.Back.{CanBeMade}
use Rattle.retro_base.specs.Shift.{index_after, place_for, replacing, shift_of}

-- a step that was made and taken back leads to the rows from before it
pub step_and_back : (rows : List Row) (step : Step) → CanBeMade rows step → edited_by (edited_by rows step) (inverse_step step) ≡ rows
step_and_back rows [] made = refl
step_and_back rows (edit ∷ more) made =
    ap (edited_by (edited_by (edited rows edit) more)) (reverse-append (inverse edit ∷ []) (map inverse more))
    ∙ fold-append edited (edited_by (edited rows edit) more) (inverse_step more) (inverse edit ∷ [])
    ∙ ap (λ rs. edited rs (inverse edit)) (step_and_back (edited rows edit) more made.1)
    ∙ there_and_back rows edit made.0

-- a place of time is within the rows, and so is an index
pub place_within : (target : Target) (index : ℕ) (rows : List Row) → index ≤ length rows → place_for target index rows ≤ length rows
place_within (At time) index rows within = count_by-le-length _ rows
place_within (Into op) index rows within = within

-- a row before one that is put in stays where it was, and the others come one place later
stays_before : {X : Type 0} (xs : List X) (put i : ℕ) (new x : X) → i < put → slice_get xs i ≡ Some x → slice_get (insert xs put new) i ≡ Some x
stays_before [] put i new x before there = absurd (cc)
stays_before (y ∷ ys) zero i new x before there = absurd (omega arith)
stays_before (y ∷ ys) (suc put) zero new x before there = there
stays_before (y ∷ ys) (suc put) (suc i) new x before there = stays_before ys put i new x (omega arith) there

comes_later : {X : Type 0} (xs : List X) (put i : ℕ) (new x : X) → put ≤ i → slice_get xs i ≡ Some x → slice_get (insert xs put new) (suc i) ≡ Some x
comes_later [] put i new x after there = absurd (cc)
comes_later (y ∷ ys) zero i new x after there = there
comes_later (y ∷ ys) (suc put) zero new x after there = absurd (omega arith)
comes_later (y ∷ ys) (suc put) (suc i) new x after there = comes_later ys put i new x (omega arith) there

pub stands_after_put : (rows : List Row) (put index : ℕ) (new old : Row) → slice_get rows index ≡ Some old
    → slice_get (insert rows put new) (index_after put index) ≡ Some old
stands_after_put rows put index new old there =
    elim (nat_le put index) as (λ b. nat_le put index ≡ b → slice_get (insert rows put new) (index_after put index) ≡ Some old) [
      | true ↦ λ e. let later : index_after put index ≡ suc index = rw e (omega arith) in rw later (comes_later rows put index new old (leb-true _ _ e) there)
      | false ↦ λ e. let here : index_after put index ≡ index = rw e refl in rw here (stays_before rows put index new old (leb-false _ _ e) there)
    ] refl

pub within_of : {X : Type 0} (xs : List X) (i : ℕ) (x : X) → slice_get xs i ≡ Some x → i ≤ length xs
within_of [] i x there = absurd (cc)
within_of (y ∷ ys) zero x there = omega arith
within_of (y ∷ ys) (suc i) x there = omega (arith, within_of ys i x there)

-- the edits of a row that is replaced can be made
pub shift_can_be_made : (rows : List Row) (target : Target) (number index : ℕ) (old : Row) → slice_get rows index ≡ Some old
    → CanBeMade rows (shift_of rows target number index old)
shift_can_be_made rows target number index old there =
    elim (adds (replacing target number old).op) as (λ b. adds (replacing target number old).op ≡ b → CanBeMade rows (shift_of rows target number index old)) [
      | true ↦ λ e. rw e (
        place_within target index rows (within_of rows index old there),
        (stands_after_put rows (place_for target index rows) index (replacing target number old) old there, tt),
      )
      | false ↦ λ e. rw e (there, (place_within target index (remove rows index) (can_go_back rows (cut index old) there), tt))
    ] refl
