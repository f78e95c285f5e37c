-- Counting along rows: each row adds at most one. Where a state is a list of items or of entries, their number decides which row fails first.
use Rattle.std.proofs.Common.{◌≡◌, ℕ, ℤ, zero, suc, ◌+◌, ◌≤◌, Bool, true, false, List, [], ◌∷◌, length, drop, IsSome, sym, ap, refl, arith, Option, Some, None, Result, Ok, Err, ◌∙◌}
use Rattle.std.specs.Prelude.{if◌then◌else◌}
use Rattle.std.specs.List.{AllByRecursion}
use Rattle.std.specs.Option.{option_map}
use Rattle.std.specs.Ordering.{int_eq}
use Rattle.std.specs.Result.{result_err}
use Rattle.retro_base.specs.declared.counting.Quantity.{Quantity}
use Rattle.retro_base.specs.declared.counting.Quantity.TheVariants.{Items, Key}
use Rattle.retro_base.specs.declared.op.Op.{Op}
use Rattle.retro_base.specs.declared.op.Op.TheVariants.{Enq, Put, Del}
use Rattle.retro_base.specs.declared.row.Row.{Row}
use Rattle.retro_base.specs.Kind.{adds}
use Rattle.retro_base.specs.State.{State, perform, step, without_first}
use Rattle.retro_base.specs.Replay.{run}
use Rattle.retro_base.specs.Counting.{size_after, pair_after, one_fewer, quantity_after, counted}
use Rattle.retro_base.specs.lemmas.Folds.{not_both, ok_same, fold_rows-nil, fold_rows-some, fold_rows-none, BothOrNeither, Agree, folds_agree, same_failure}
use Rattle.retro_base.specs.Outcomes.{later_ok}

shrunk : (size next : ℕ) → one_fewer size ≡ Some next → next ≤ suc size
shrunk zero next e = absurd (cc)
shrunk (suc n) next e = let same : n ≡ next = cc in omega arith

same_size : (size next : ℕ) → ◌≡◌ {A = Option ℕ} (Some size) (Some next) → next ≤ suc size
same_size size next e = let same : size ≡ next = cc in omega arith

set_to_one : (b : Bool) (size next : ℕ) → (if b then Some 1 else Some size) ≡ Some next → next ≤ suc size
set_to_one true size next e = let same : 1 ≡ next = cc in omega arith
set_to_one false size next e = same_size size next e

taken_where : (b : Bool) (size next : ℕ) → (if b then one_fewer size else Some size) ≡ Some next → next ≤ suc size
taken_where true size next e = shrunk size next e
taken_where false size next e = same_size size next e

-- an operation that adds counts one more, and any other one takes
pub size_by : (op : Op) (size : ℕ) → size_after op size ≡ (if adds op then Some (suc size) else one_fewer size)
size_by (Enq v) size = refl
size_by op size = refl

grown_or_shrunk : (b : Bool) (size next : ℕ) → (if b then Some (suc size) else one_fewer size) ≡ Some next → next ≤ suc size
grown_or_shrunk true size next e = let same : suc size ≡ next = cc in omega arith
grown_or_shrunk false size next e = shrunk size next e

pub size_after-le : (op : Op) (size next : ℕ) → size_after op size ≡ Some next → next ≤ suc size
size_after-le op size next e = grown_or_shrunk (adds op) size next (sym (size_by op size) ∙ e)

pair_after-le : (key : ℤ) (op : Op) (size next : ℕ) → pair_after key op size ≡ Some next → next ≤ suc size
pair_after-le key (Put k v) size next e = set_to_one (int_eq key k) size next e
pair_after-le key (Del k) size next e = taken_where (int_eq key k) size next e
pair_after-le key op size next e = same_size size next e

pub quantity_after-le : (quantity : Quantity) (op : Op) (size next : ℕ) → quantity_after quantity op size ≡ Some next → next ≤ size + 1
quantity_after-le Items op size next e = omega (arith, size_after-le op size next e)
quantity_after-le (Key key) op size next e = omega (arith, pair_after-le key op size next e)

-- so many rows add at most so many
pub counted-le : (quantity : Quantity) (rows : List Row) (size final : ℕ) → counted quantity rows size ≡ Ok final → final ≤ size + length rows
counted-le quantity [] size final e = let same : size ≡ final = ok_same _ (fold_rows-nil (λ row n. quantity_after quantity row.op n) size) e in omega arith
counted-le quantity (row ∷ rows) size final e =
    elim (quantity_after quantity row.op size) as (λ o. quantity_after quantity row.op size ≡ o → final ≤ size + suc (length rows)) [
      | None ↦ λ stops. absurd (not_both _ (fold_rows-none (λ r n. quantity_after quantity r.op n) row rows size stops) e)
      | Some next ↦ λ goes.
          let rest = counted-le quantity rows next final (later_ok _ final (sym (fold_rows-some (λ r n. quantity_after quantity r.op n) row rows size next goes) ∙ e)) in
          omega (arith, rest, quantity_after-le quantity row.op size next goes)
    ] refl

-- the state is a list of so many items, or of so many entries
abbrev pub Has : {X : Type 0} → (List X → State) → State → ℕ → Type 0
Has {X} made state size = (xs : List X) × (state ≡ made xs) × (length xs ≡ size)

pub first_taken : {X : Type 0} (made : List X → State) (xs : List X) → BothOrNeither (Has made) (option_map made (without_first xs)) (one_fewer (length xs))
first_taken made [] = tt
first_taken made (x ∷ xs) = (xs, refl, refl)

-- taking the first one leaves the others
pub first_out : {X : Type 0} (made : List X → State) (xs ys : List X) → IsSome (option_map made (without_first xs)) → ys ≡ drop 1 xs
    → option_map made (without_first xs) ≡ Some (made ys)
first_out made [] ys some e = absurd (cc)
first_out made (x ∷ xs) ys some e = ap (λ zs. Some (made zs)) (sym e)

-- operations that keep pace with counting
module _ {X : Type 0} (made : List X → State) (P : Op → Type 0)
    (pace : (op : Op) (number : ℕ) (xs : List X) → P op → BothOrNeither (Has made) (perform op number (made xs)) (size_after op (length xs))) where
  row_keeps_pace : (row : Row) (state : State) (size : ℕ) → P row.op → Has made state size → BothOrNeither (Has made) (step row state) (quantity_after Items row.op size)
  row_keeps_pace row state size fits has = rw (has.1, ← has.2) (pace row.op row.number has.0 fits)

  counts_agree : (rows : List Row) → AllByRecursion (λ row. P row.op) rows → Agree (Has made) (run rows (made [])) (counted Items rows 0)
  counts_agree rows all =
      folds_agree (Has made) (λ row. P row.op) step (λ row n. quantity_after Items row.op n) row_keeps_pace rows (made []) 0 all ([], refl, refl)

  -- which row fails first is found by counting
  pub failure_counted : (rows : List Row) → AllByRecursion (λ row. P row.op) rows → result_err (run rows (made [])) ≡ result_err (counted Items rows 0)
  failure_counted rows all = same_failure (Has made) (run rows (made [])) (counted Items rows 0) (counts_agree rows all)

  few_by : (rows : List Row) (r : Result State ℕ) (q : Result ℕ ℕ) (state : State) → Agree (Has made) r q → counted Items rows 0 ≡ q → r ≡ Ok state
      → (xs : List X) × (state ≡ made xs) × (length xs ≤ length rows)
  few_by rows (Ok s) (Ok n) state both counts e =
      let same : state ≡ s = cc in (both.0, same ∙ both.1, omega (arith, both.2, counted-le Items rows 0 n counts))
  few_by rows (Ok s) (Err j) state both counts e = absurd both
  few_by rows (Err i) q state both counts e = absurd (cc)

  -- each row adds at most one
  pub few_made : (rows : List Row) (state : State) → AllByRecursion (λ row. P row.op) rows → run rows (made []) ≡ Ok state
      → (xs : List X) × (state ≡ made xs) × (length xs ≤ length rows)
  few_made rows state all e = few_by rows (run rows (made [])) (counted Items rows 0) state (counts_agree rows all) refl e
