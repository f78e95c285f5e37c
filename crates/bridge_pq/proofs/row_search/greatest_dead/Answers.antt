use Rattle.std.proofs.Common.{◌≡◌, ◌+◌, ◌<◌, length, ap, ◌∙◌, subst, arith, Fits, w32, rules, Some, None}
use Rattle.std.specs.List.{slice_range}
use Rattle.std.proofs.lemmas.List.{length-map}
use Rattle.monoid_laws.specs.Extreme.{NoElement, IsFirstGreatest}
use Rattle.bridge_pq.specs.MarkedRows.{rows_of}
use Rattle.bridge_pq.specs.EntryOrder.{entry_order}
use Rattle.bridge_pq.proofs.RowMeasures.{dead_of, dead-part}
use Rattle.bridge_pq.proofs.RowExtremes.{found-greatest, range-after, adds-within}
use Rattle.bridge_pq.proofs.row_search.greatest_dead.Goals as goal

pub returns-in_err-offset-clause-dead : goal.returns-in_err-offset-clause-dead
returns-in_err-offset-clause-dead g c =
    let items = c.args.rows.now in
    let is = ap (λ m. m.1.0) c.measure-range.ensures.value ∙ dead-part entry_order (slice_range items c.args.bridge c.len.result) in
    let none : NoElement (dead_of (slice_range items c.args.bridge c.len.result)) = c.in_err-offset.ensures (dead_of (slice_range items c.args.bridge c.len.result)) is in
    rw c.from_residual.ensures (found-greatest items c.requires.marked c.args.bridge None
    (subst (λ l. NoElement (dead_of l)) (ap (slice_range items c.args.bridge) c.len.ensures ∙ range-after items c.args.bridge c.requires.within) none))

pub returns-clause-dead : goal.returns-clause-dead
returns-clause-dead g c =
    let items = c.args.rows.now in
    let is = ap (λ m. m.1.0) c.measure-range.ensures.value ∙ dead-part entry_order (slice_range items c.args.bridge c.len.result) in
    let one = c.in_ok-offset.ensures (dead_of (slice_range items c.args.bridge c.len.result)) is in
    found-greatest items c.requires.marked c.args.bridge (Some c.in_ok-offset.offset)
    (one.0, subst (λ l. IsFirstGreatest entry_order (dead_of l) one.0 c.in_ok-offset.offset) (ap (slice_range items c.args.bridge) c.len.ensures ∙ range-after items c.args.bridge c.requires.within) one.1)

pub overflow_add-result : goal.overflow_add-result
overflow_add-result g c =
    let items = c.args.rows.now in
    let is = ap (λ m. m.1.0) c.measure-range.ensures.value ∙ dead-part entry_order (slice_range items c.args.bridge c.len.result) in
    let one = c.in_ok-offset.ensures (dead_of (slice_range items c.args.bridge c.len.result)) is in
    let found = found-greatest items c.requires.marked c.args.bridge (Some c.in_ok-offset.offset)
    (one.0, subst (λ l. IsFirstGreatest entry_order (dead_of l) one.0 c.in_ok-offset.offset) (ap (slice_range items c.args.bridge) c.len.ensures ∙ range-after items c.args.bridge c.requires.within) one.1) in
    let inside : c.args.bridge + c.in_ok-offset.offset < length (rows_of items) = adds-within (rows_of items) (c.args.bridge + c.in_ok-offset.offset) found.0 found.2 in
    let few : Fits w32 c.len.result = search rules in
    let same : length (rows_of items) ≡ length items = simp length-map in
    omega (arith, inside, same, few, c.len.ensures)
