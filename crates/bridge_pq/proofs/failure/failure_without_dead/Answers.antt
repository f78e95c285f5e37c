use Rattle.std.proofs.Common.{◌+◌, ◌-◌, ◌≤◌, length, sym, ap, ◌∙◌, Some, None, arith}
use Rattle.retro_base.specs.Bridges.{first_bridge}
use Rattle.retro_base.specs.MarkedChange.{least_survivor}
use Rattle.retro_base.specs.lemmas.bridges.StatedBridges.{first_found}
use Rattle.bridge_pq.specs.MarkedRows.{rows_of}
use Rattle.bridge_pq.proofs.Edited.{rows-length}
use Rattle.bridge_pq.proofs.Failures.{least-later, cut-failure}
use Rattle.bridge_pq.proofs.Present.{fails-without}
use Rattle.bridge_pq.proofs.RowExtremes.{adds-within}
use Rattle.bridge_pq.proofs.failure.failure_without_dead.Goals as goal

pub returns-then-is_some-clause-first : goal.returns-then-is_some-clause-first
returns-then-is_some-clause-first g c =
    let rows = rows_of c.args.rows.now in
    let next : c.args.place + 1 ≤ length rows = omega (arith, adds-within rows c.args.place c.args.own c.requires.adds) in
    let some = least-later rows c.args.place (first_bridge rows (c.args.place + 1)) (omega (arith, (first_found rows (c.args.place + 1) next).from)) c.least_survivor.result
    (sym c.is_some.ensures ∙ c.if-is_some.true) c.least_survivor.ensures.survivor in
    sym (cut-failure rows c.args.place c.requires.adds.0 c.args.own c.requires.history c.requires.adds.1 c.requires.adds.2 (Some some.0) c.requires.dead some.1)

pub overflow_add-place : goal.overflow_add-place
overflow_add-place g c = omega (arith, adds-within (rows_of c.args.rows.now) c.args.place c.args.own c.requires.adds, rows-length c.args.rows.now, c.requires.few)

pub first_bridge-bridge-requires-clause-within : goal.first_bridge-bridge-requires-clause-within
first_bridge-bridge-requires-clause-within g c = omega (arith, adds-within (rows_of c.args.rows.now) c.args.place c.args.own c.requires.adds, rows-length c.args.rows.now)

pub returns-in-Some-clause-first : goal.returns-in-Some-clause-first
returns-in-Some-clause-first g c =
    sym (cut-failure (rows_of c.args.rows.now) c.args.place c.requires.adds.0 c.args.own c.requires.history c.requires.adds.1 c.requires.adds.2
    (Some c.in-Some.ensures.survivor.0) c.requires.dead (ap (least_survivor (rows_of c.args.rows.now)) (sym c.first_bridge-bridge.ensures.bridge) ∙ c.in-Some.ensures.survivor.1))

pub returns-in-None-clause-first : goal.returns-in-None-clause-first
returns-in-None-clause-first g c =
    ap (λ n. Some n) (c.saturating_sub.ensures ∙ ap (λ n. n - 2) c.first_bridge-bridge.ensures.bridge)
    ∙ sym (cut-failure (rows_of c.args.rows.now) c.args.place c.requires.adds.0 c.args.own c.requires.history c.requires.adds.1 c.requires.adds.2 None c.requires.dead
    (ap (least_survivor (rows_of c.args.rows.now)) (sym c.first_bridge-bridge.ensures.bridge) ∙ c.in-None.ensures.survivor))

pub returns-in-None-clause-index : goal.returns-in-None-clause-index
returns-in-None-clause-index g c =
    let index = fails-without (rows_of c.args.rows.now) c.args.place c.saturating_sub.result (adds-within (rows_of c.args.rows.now) c.args.place c.args.own c.requires.adds)
    (sym (returns-in-None-clause-first g c)) in
    omega (arith, index, rows-length c.args.rows.now)
