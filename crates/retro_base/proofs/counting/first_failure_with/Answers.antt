use Rattle.std.proofs.Common.{◌≡◌, ◌+◌, ◌≤◌, sym, ◌∙◌, ap, arith, length, take, drop, length-take, Some, None, Ok, Err}
use Rattle.std.specs.Result.{result_err}
use Rattle.retro_base.specs.Counting.{quantity_of, quantity_after, counted}
use Rattle.retro_base.specs.lemmas.Folds.{later, between_err, between_stops, between_goes, err_within}
use Rattle.retro_base.specs.lemmas.CountedSizes.{counted-le, quantity_after-le}
use Rattle.retro_base.proofs.counting.first_failure_with.Goals as goal

pub returns-in-Err-clause-first : goal.returns-in-Err-clause-first
returns-in-Err-clause-first c = λ row same.
    let e : counted (quantity_of c.args.op) (take c.args.place c.args.rows.now) 0 ≡ Err c.in-Err.index = rw (← c.split_at.ensures.front, ← c.quantity_of-quantity.ensures) (sym c.count.ensures ∙ c.in-Err.is) in
    sym (ap result_err (between_err (λ r n. quantity_after (quantity_of c.args.op) r.op n) _ (drop c.args.place c.args.rows.now) row 0 _ e))

pub counted_after-requires : goal.counted_after-requires
counted_after-requires c =
    let e : counted c.quantity_of-quantity.result c.split_at.result.0.now 0 ≡ Ok c.in-Ok.size = sym c.count.ensures ∙ c.in-Ok.is in
    omega (arith, counted-le _ _ _ _ e, c.split_at.ensures.front_len)

pub returns-in_default-clause-first : goal.returns-in_default-clause-first
returns-in_default-clause-first c = λ row same.
    let e : counted (quantity_of c.args.op) (take c.args.place c.args.rows.now) 0 ≡ Ok c.in-Ok.size = rw (← c.split_at.ensures.front, ← c.quantity_of-quantity.ensures) (sym c.count.ensures ∙ c.in-Ok.is) in
    let stops : quantity_after (quantity_of c.args.op) row.op c.in-Ok.size ≡ None = rw (same, ← c.quantity_of-quantity.ensures) (sym c.counted_after.ensures ∙ c.in_default.is) in
    let at_place : length (take c.args.place c.args.rows.now) ≡ c.args.place = omega (arith, length-take c.args.place c.args.rows.now) in
    ap (λ i. Some i) (sym at_place)
    ∙ sym (ap result_err (between_stops (λ r n. quantity_after (quantity_of c.args.op) r.op n) _ (drop c.args.place c.args.rows.now) row 0 _ e stops))

pub count-requires-2 : goal.count-requires-2
count-requires-2 c =
    let e : counted c.quantity_of-quantity.result c.split_at.result.0.now 0 ≡ Ok c.in-Ok.size = sym c.count.ensures ∙ c.in-Ok.is in
    let one_more : c.in-Some.next ≤ c.in-Ok.size + 1 = quantity_after-le c.quantity_of-quantity.result c.args.op _ _ (sym c.counted_after.ensures ∙ c.in-Some.is) in
    omega (arith, one_more, counted-le _ _ _ _ e, c.split_at.ensures.front_len, c.split_at.ensures.back_len)

pub overflow_add-result-in-Err-count : goal.overflow_add-result-in-Err-count
overflow_add-result-in-Err-count c =
    let e : counted c.quantity_of-quantity.result c.split_at.result.1.now c.in-Some.next ≡ Err c.in-Err-count.index = sym c.count-2.ensures ∙ c.in-Err-count.is in
    omega (arith, err_within _ _ _ _ e, c.split_at.ensures.back_len)

pub returns-in-Ok-count-clause-first : goal.returns-in-Ok-count-clause-first
returns-in-Ok-count-clause-first c = λ row same.
    let e : counted (quantity_of c.args.op) (take c.args.place c.args.rows.now) 0 ≡ Ok c.in-Ok.size = rw (← c.split_at.ensures.front, ← c.quantity_of-quantity.ensures) (sym c.count.ensures ∙ c.in-Ok.is) in
    let goes : quantity_after (quantity_of c.args.op) row.op c.in-Ok.size ≡ Some c.in-Some.next = rw (same, ← c.quantity_of-quantity.ensures) (sym c.counted_after.ensures ∙ c.in-Some.is) in
    let rest : counted (quantity_of c.args.op) (drop c.args.place c.args.rows.now) c.in-Some.next ≡ Ok c.in-Ok-count.field-0 =
    rw (← c.split_at.ensures.back, ← c.quantity_of-quantity.ensures) (sym c.count-2.ensures ∙ c.in-Ok-count.is) in
    sym (ap result_err (between_goes (λ r n. quantity_after (quantity_of c.args.op) r.op n) _ _ row 0 _ _ e goes ∙ ap (later (length (take c.args.place c.args.rows.now) + 1)) rest))

pub returns-in-Err-count-clause-first : goal.returns-in-Err-count-clause-first
returns-in-Err-count-clause-first c = λ row same.
    let e : counted (quantity_of c.args.op) (take c.args.place c.args.rows.now) 0 ≡ Ok c.in-Ok.size = rw (← c.split_at.ensures.front, ← c.quantity_of-quantity.ensures) (sym c.count.ensures ∙ c.in-Ok.is) in
    let goes : quantity_after (quantity_of c.args.op) row.op c.in-Ok.size ≡ Some c.in-Some.next = rw (same, ← c.quantity_of-quantity.ensures) (sym c.counted_after.ensures ∙ c.in-Some.is) in
    let rest : counted (quantity_of c.args.op) (drop c.args.place c.args.rows.now) c.in-Some.next ≡ Err c.in-Err-count.index =
    rw (← c.split_at.ensures.back, ← c.quantity_of-quantity.ensures) (sym c.count-2.ensures ∙ c.in-Err-count.is) in
    let at_place : length (take c.args.place c.args.rows.now) ≡ c.args.place = omega (arith, length-take c.args.place c.args.rows.now) in
    ap (λ i. Some (i + 1 + c.in-Err-count.index)) (sym at_place)
    ∙ sym (ap result_err (between_goes (λ r n. quantity_after (quantity_of c.args.op) r.op n) _ _ row 0 _ _ e goes ∙ ap (later (length (take c.args.place c.args.rows.now) + 1)) rest))

pub returns-in-Err-clause-index : goal.returns-in-Err-clause-index
returns-in-Err-clause-index c =
    let e : counted c.quantity_of-quantity.result c.split_at.result.0.now 0 ≡ Err c.in-Err.index = sym c.count.ensures ∙ c.in-Err.is in
    omega (arith, err_within _ _ _ _ e, c.split_at.ensures.front_len)

pub returns-in-Err-count-clause-index : goal.returns-in-Err-count-clause-index
returns-in-Err-count-clause-index c =
    let e : counted c.quantity_of-quantity.result c.split_at.result.1.now c.in-Some.next ≡ Err c.in-Err-count.index = sym c.count-2.ensures ∙ c.in-Err-count.is in
    omega (arith, err_within _ _ _ _ e, c.split_at.ensures.back_len)
