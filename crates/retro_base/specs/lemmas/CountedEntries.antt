-- Of a priority queue the number of entries decides which row fails first.
use Rattle.std.proofs.Common.{◌≡◌, ℕ, suc, ◌≤◌, true, false, cond, List, [], ◌∷◌, length, refl, ap, Ok}
use Rattle.std.specs.Result.{result_err}
use Rattle.retro_base.specs.declared.counting.Quantity.TheVariants.{Items}
use Rattle.retro_base.specs.declared.kind.Kind.TheVariants.{Pq}
use Rattle.retro_base.specs.declared.op.Op.{Op}
use Rattle.retro_base.specs.declared.op.Op.TheVariants.{Ins, DelMin}
use Rattle.retro_base.specs.declared.row.Entry.{Entry}
use Rattle.retro_base.specs.declared.row.Row.{Row}
use Rattle.retro_base.specs.Kind.{kind_of}
use Rattle.retro_base.specs.State.{State, entries, perform, comes_before, with_entry}
use Rattle.retro_base.specs.Replay.{run}
use Rattle.retro_base.specs.Timeline.{AreOfKind}
use Rattle.retro_base.specs.Counting.{size_after, counted}
use Rattle.retro_base.specs.lemmas.CountedSizes.{Has, first_taken, failure_counted, few_made}
use Rattle.retro_base.specs.lemmas.Folds.{BothOrNeither}

pub with_length : (e : Entry) (es : List Entry) → length (with_entry e es) ≡ suc (length es)
with_length e [] = refl
with_length e (x ∷ xs) = elim (comes_before e x) as (λ b. length (cond b (e ∷ x ∷ xs) (x ∷ with_entry e xs)) ≡ suc (suc (length xs))) [
  | true ↦ refl
  | false ↦ ap suc (with_length e xs)
]

pq_keeps_pace : (op : Op) (number : ℕ) (es : List Entry) → kind_of op ≡ Pq → BothOrNeither (Has entries) (perform op number (entries es)) (size_after op (length es))
unfolding perform
pq_keeps_pace (Ins k) n es h = (with_entry (record { key = k; number = n }) es, refl, with_length (record { key = k; number = n }) es)
pq_keeps_pace DelMin n es h = first_taken entries es
pq_keeps_pace op n es h = absurd (cc)

-- which row fails first is found by counting
pub pq_failure : (rows : List Row) → AreOfKind Pq rows → result_err (run rows (entries [])) ≡ result_err (counted Items rows 0)
pq_failure rows all = failure_counted entries (λ op. kind_of op ≡ Pq) pq_keeps_pace rows all

-- each row adds at most one entry
pub pq_few : (rows : List Row) (state : State) → AreOfKind Pq rows → run rows (entries []) ≡ Ok state
    → (es : List Entry) × (state ≡ entries es) × (length es ≤ length rows)
pq_few rows state all e = few_made entries (λ op. kind_of op ≡ Pq) pq_keeps_pace rows state all e
