-- Rows replay whatever their values are: which row fails first is a matter of their number and their keys.
use Rattle.std.proofs.Common.{◌≡◌, ℕ, ℤ, pos, List, [], ◌∷◌, map, refl, sym, ap, ◌∙◌, Some, None}
use Rattle.std.specs.Result.{result_err}
use Rattle.retro_base.specs.declared.counting.Quantity.{Quantity}
use Rattle.retro_base.specs.declared.counting.Quantity.TheVariants.{Items, Key}
use Rattle.retro_base.specs.declared.kind.Kind.{Kind}
use Rattle.retro_base.specs.declared.kind.Kind.TheVariants.{Dict}
use Rattle.retro_base.specs.declared.op.Op.{Op}
use Rattle.retro_base.specs.declared.op.Op.TheVariants.{Enq}
use Rattle.retro_base.specs.declared.row.Row.{Row}
use Rattle.retro_base.specs.Counting.{quantity_after, counted}
use Rattle.retro_base.specs.Kind.{kind_of}
use Rattle.retro_base.specs.Replay.{one_later, IsValid}
use Rattle.retro_base.specs.Timeline.{AreOfKind}
use Rattle.retro_base.specs.Values.{with_value, with_row_value}
use Rattle.retro_base.specs.lemmas.Counted.{items_failure}
use Rattle.retro_base.specs.lemmas.CountedKeys.{all_keys, one_key}
use Rattle.retro_base.specs.lemmas.Folds.{fold_rows-nil, fold_rows-some, fold_rows-none}
use Rattle.retro_base.specs.lemmas.SortedPairs.{sorted_nil}

valued_quantity : (quantity : Quantity) (op : Op) (value : ℤ) (n : ℕ) → quantity_after quantity (with_value value op) n ≡ quantity_after quantity op n
valued_quantity Items (Enq v) value n = refl
valued_quantity (Key key) (Enq v) value n = refl
valued_quantity quantity op value n = refl

pub valued_kind : (op : Op) (value : ℤ) → kind_of (with_value value op) ≡ kind_of op
valued_kind (Enq v) value = refl
valued_kind op value = refl

module _ (value_of : Row → ℤ) where
  pub valued_of_kind : (kind : Kind) (rows : List Row) → AreOfKind kind rows → AreOfKind kind (map (with_row_value value_of) rows)
  valued_of_kind kind [] all = tt
  valued_of_kind kind (row ∷ rows) all = (valued_kind row.op (value_of row) ∙ all.0, valued_of_kind kind rows all.1)

  -- counting along them comes to the same
  counted_alike : (quantity : Quantity) (rows : List Row) (n : ℕ) → counted quantity (map (with_row_value value_of) rows) n ≡ counted quantity rows n
  counted_alike quantity [] n = fold_rows-nil (λ row m. quantity_after quantity row.op m) n ∙ sym (fold_rows-nil (λ row m. quantity_after quantity row.op m) n)
  counted_alike quantity (row ∷ rows) n =
      elim (quantity_after quantity row.op n) as (λ o. quantity_after quantity row.op n ≡ o → counted quantity (map (with_row_value value_of) (row ∷ rows)) n ≡ counted quantity (row ∷ rows) n) [
        | None ↦ λ stops.
            fold_rows-none (λ r m. quantity_after quantity r.op m) (with_row_value value_of row) (map (with_row_value value_of) rows) n (valued_quantity quantity row.op (value_of row) n ∙ stops)
            ∙ sym (fold_rows-none (λ r m. quantity_after quantity r.op m) row rows n stops)
        | Some next ↦ λ goes.
            fold_rows-some (λ r m. quantity_after quantity r.op m) (with_row_value value_of row) (map (with_row_value value_of) rows) n next (valued_quantity quantity row.op (value_of row) n ∙ goes)
            ∙ ap one_later (counted_alike quantity rows next) ∙ sym (fold_rows-some (λ r m. quantity_after quantity r.op m) row rows n next goes)
      ] refl

  pub valued_valid : (kind : Kind) (rows : List Row) → AreOfKind kind rows → IsValid kind rows → IsValid kind (map (with_row_value value_of) rows)
  valued_valid Dict rows all valid =
      let each : (q : ℤ) → result_err (counted (Key q) (map (with_row_value value_of) rows) 0) ≡ None = λ q. ap result_err (counted_alike (Key q) rows 0) ∙ all_keys rows [] all sorted_nil valid q in
      one_key (pos 0) (map (with_row_value value_of) rows) [] (valued_of_kind Dict rows all) sorted_nil (λ q apart. each q) ∙ each (pos 0)
  valued_valid kind rows all valid =
      items_failure kind (map (with_row_value value_of) rows) (λ same. cc) (valued_of_kind kind rows all)
      ∙ ap result_err (counted_alike Items rows 0) ∙ sym (items_failure kind rows (λ same. cc) all) ∙ valid
