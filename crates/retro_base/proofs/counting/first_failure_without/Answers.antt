use Rattle.std.proofs.Common.{◌≡◌, ℕ, suc, ◌+◌, sym, ◌∙◌, ap, arith, length, take, drop, length-take, add-one, get_or, List, Some, Ok, Err}
use Rattle.std.specs.List.{slice_get}
use Rattle.std.specs.Result.{result_err}
use Rattle.std.proofs.lemmas.Option.{get_or_from_slice_get}
use Rattle.retro_base.specs.declared.counting.Quantity.{Quantity}
use Rattle.retro_base.specs.declared.row.Row.{Row}
use Rattle.retro_base.specs.Counting.{quantity_of, counted}
use Rattle.retro_base.specs.lemmas.Folds.{no_row, later, fold_rows-append, fold_rows-append_err, err_within}
use Rattle.retro_base.specs.lemmas.CountedSizes.{counted-le}
use Rattle.retro_base.proofs.counting.first_failure_without.Goals as goal

same_quantity : (rows : List Row) (place : ℕ) (row d : Row) (quantity : Quantity) → quantity ≡ quantity_of (get_or rows place d).op → slice_get rows place ≡ Some row
    → quantity ≡ quantity_of row.op
same_quantity rows place row d quantity e at = e ∙ ap (λ (r : Row). quantity_of r.op) (get_or_from_slice_get rows place row d at)

pub returns-in-Err-clause-first : goal.returns-in-Err-clause-first
returns-in-Err-clause-first c = λ row at.
    let quantity = same_quantity c.args.rows.now c.args.place row no_row _ c.quantity_of-quantity.ensures at in
    let e : counted (quantity_of row.op) (take c.args.place c.args.rows.now) 0 ≡ Err c.in-Err.index =
    rw (← c.split_at.ensures.front, ← quantity) (sym c.count.ensures ∙ c.in-Err.is) in
    sym (ap result_err (fold_rows-append_err _ _ (drop (suc c.args.place) c.args.rows.now) 0 _ e))

pub count-requires-2 : goal.count-requires-2
count-requires-2 c =
    let e : counted c.quantity_of-quantity.result c.split_at.result.0.now 0 ≡ Ok c.in-Ok.size = sym c.count.ensures ∙ c.in-Ok.is in
    omega (arith, counted-le _ _ _ _ e, c.split_at.ensures.front_len, c.split_at-2.ensures.back_len)

pub overflow_add-result : goal.overflow_add-result
overflow_add-result c =
    let e : counted c.quantity_of-quantity.result c.split_at-2.result.1.now c.in-Ok.size ≡ Err c.in-Err-count.index = sym c.count-2.ensures ∙ c.in-Err-count.is in
    omega (arith, err_within _ _ _ _ e, c.split_at-2.ensures.back_len)

pub returns-in-Ok-count-clause-first : goal.returns-in-Ok-count-clause-first
returns-in-Ok-count-clause-first c = λ row at.
    let quantity = same_quantity c.args.rows.now c.args.place row no_row _ c.quantity_of-quantity.ensures at in
    let e : counted (quantity_of row.op) (take c.args.place c.args.rows.now) 0 ≡ Ok c.in-Ok.size =
    rw (← c.split_at.ensures.front, ← quantity) (sym c.count.ensures ∙ c.in-Ok.is) in
    let rest : counted (quantity_of row.op) (drop (suc c.args.place) c.args.rows.now) c.in-Ok.size ≡ Ok c.in-Ok-count.field-0 =
    rw (← add-one c.args.place, ← c.split_at-2.ensures.back, ← quantity) (sym c.count-2.ensures ∙ c.in-Ok-count.is) in
    sym (ap result_err (fold_rows-append _ _ _ 0 _ e ∙ ap (later (length (take c.args.place c.args.rows.now))) rest))

pub returns-in-Err-count-clause-first : goal.returns-in-Err-count-clause-first
returns-in-Err-count-clause-first c = λ row at.
    let quantity = same_quantity c.args.rows.now c.args.place row no_row _ c.quantity_of-quantity.ensures at in
    let e : counted (quantity_of row.op) (take c.args.place c.args.rows.now) 0 ≡ Ok c.in-Ok.size =
    rw (← c.split_at.ensures.front, ← quantity) (sym c.count.ensures ∙ c.in-Ok.is) in
    let rest : counted (quantity_of row.op) (drop (suc c.args.place) c.args.rows.now) c.in-Ok.size ≡ Err c.in-Err-count.index =
    rw (← add-one c.args.place, ← c.split_at-2.ensures.back, ← quantity) (sym c.count-2.ensures ∙ c.in-Err-count.is) in
    let at_place : length (take c.args.place c.args.rows.now) ≡ c.args.place = omega (arith, length-take c.args.place c.args.rows.now) in
    ap (λ i. Some (i + c.in-Err-count.index)) (sym at_place)
    ∙ sym (ap result_err (fold_rows-append _ _ _ 0 _ e ∙ ap (later (length (take c.args.place c.args.rows.now))) rest))

pub returns-in-Err-clause-index : goal.returns-in-Err-clause-index
returns-in-Err-clause-index c =
    let e : counted c.quantity_of-quantity.result c.split_at.result.0.now 0 ≡ Err c.in-Err.index = sym c.count.ensures ∙ c.in-Err.is in
    omega (arith, err_within _ _ _ _ e, c.split_at.ensures.front_len)

pub returns-in-Err-count-clause-index : goal.returns-in-Err-count-clause-index
returns-in-Err-count-clause-index c =
    let e : counted c.quantity_of-quantity.result c.split_at-2.result.1.now c.in-Ok.size ≡ Err c.in-Err-count.index = sym c.count-2.ensures ∙ c.in-Err-count.is in
    omega (arith, err_within _ _ _ _ e, c.split_at-2.ensures.back_len)
