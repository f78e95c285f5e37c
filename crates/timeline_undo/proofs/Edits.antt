-- An edit that leaves a timeline could be made, and the edit that takes it back leads to the rows before it.
use Rattle.std.proofs.Common.{◌≡◌, ℕ, zero, suc, ◌<◌, ◌≤◌, List, [], ◌∷◌, slice_get, Some, Result, Ok, Err, IfOk, refl, ◌∙◌, ap, arith}
use Rattle.std.specs.List.{insert, remove}
use Rattle.retro_base.specs.declared.row.Row.{Row}
use Rattle.retro_base.specs.Edits.{Edit, add, cut, inverse}
use Rattle.retro_base.specs.MadeEdits.{all_inserted}
use Rattle.retro_base.specs.Order.{Fits}
use Rattle.retro_base.specs.Timeline.{TimesNeverFall}
use Rattle.timeline_undo.specs.declared.turn.Turn.{Turn}
use Rattle.timeline_undo.specs.Session.{edit_reported}

-- the time of a row that came did fit
pub did_fit : (rows : List Row) (place : ℕ) (row : Row) → TimesNeverFall (insert rows place row) → Fits rows place row.time
did_fit rows zero row never = never.0
did_fit [] (suc place) row never = tt
did_fit (first ∷ rows) (suc place) row never =
    (all_inserted (λ r. first.time ≤ r.time) rows place row never.0, did_fit rows place row never.1)

pub inverse_twice : (edit : Edit) → inverse (inverse edit) ≡ edit
inverse_twice (add place row) = refl
inverse_twice (cut place row) = refl

-- what is left when one is taken out: those before it where they stood, and those after it one place earlier
pub left_before : {X : Type 0} (xs : List X) (place i : ℕ) (x : X) → i < place → slice_get xs i ≡ Some x → slice_get (remove xs place) i ≡ Some x
left_before [] place i x before there = absurd (cc)
left_before (y ∷ ys) zero i x before there = absurd (omega arith)
left_before (y ∷ ys) (suc place) zero x before there = there
left_before (y ∷ ys) (suc place) (suc i) x before there = left_before ys place i x (omega arith) there

pub left_after : {X : Type 0} (xs : List X) (place i : ℕ) (x : X) → place ≤ i → slice_get xs (suc i) ≡ Some x → slice_get (remove xs place) i ≡ Some x
left_after [] place i x after there = absurd (cc)
left_after (y ∷ ys) zero i x after there = there
left_after (y ∷ ys) (suc place) zero x after there = absurd (omega arith)
left_after (y ∷ ys) (suc place) (suc i) x after there = left_after ys place i x (omega arith) there

-- the row that was taken out is the one that stood there
pub told_as_cut : {E : Type 0} (rows : List Row) (place : ℕ) (row : Row) (result : Result Turn E) → slice_get rows place ≡ Some row
    → IfOk result (λ turn. slice_get rows place ≡ Some turn.row) → IfOk result (λ turn. edit_reported turn ≡ cut place turn.row)
    → IfOk result (λ turn. edit_reported turn ≡ cut place row)
told_as_cut rows place row (Ok turn) there taken told = let same : turn.row ≡ row = cc in told ∙ ap (cut place) same
told_as_cut rows place row (Err error) there taken told = tt
