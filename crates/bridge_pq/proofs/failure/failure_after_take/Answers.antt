use Rattle.std.proofs.Common.{◌≤◌, length, sym, ap, ◌∙◌, arith, Some, None}
use Rattle.retro_base.specs.Bridges.{first_bridge}
use Rattle.retro_base.specs.MarkedChange.{least_survivor}
use Rattle.retro_base.specs.lemmas.bridges.StatedBridges.{first_found}
use Rattle.bridge_pq.specs.MarkedRows.{rows_of}
use Rattle.bridge_pq.proofs.Edited.{rows-length}
use Rattle.bridge_pq.proofs.Failures.{least-later, take-failure}
use Rattle.bridge_pq.proofs.failure.failure_after_take.Goals as goal

pub returns-then-is_some-clause-first : goal.returns-then-is_some-clause-first
returns-then-is_some-clause-first g c = λ row of_kind takes.
    let rows = rows_of c.args.rows.now in
    let within : c.args.place ≤ length rows = omega (arith, c.requires.within, rows-length c.args.rows.now) in
    let some = least-later rows c.args.place (first_bridge rows c.args.place) (first_found rows c.args.place within).from c.least_survivor.result (sym c.is_some.ensures ∙ c.if-is_some.true)
    c.least_survivor.ensures.survivor in
    sym (take-failure rows c.args.place row c.requires.history within of_kind (Some some.0) takes some.1)

pub returns-in-Some-clause-first : goal.returns-in-Some-clause-first
returns-in-Some-clause-first g c = λ row of_kind takes.
    sym (take-failure (rows_of c.args.rows.now) c.args.place row c.requires.history (omega (arith, c.requires.within, rows-length c.args.rows.now)) of_kind
    (Some c.in-Some.ensures.survivor.0) takes (ap (least_survivor (rows_of c.args.rows.now)) (sym c.first_bridge-bridge.ensures.bridge) ∙ c.in-Some.ensures.survivor.1))

pub returns-in-None-clause-first : goal.returns-in-None-clause-first
returns-in-None-clause-first g c = λ row of_kind takes.
    ap (λ n. Some n) c.first_bridge-bridge.ensures.bridge
    ∙ sym (take-failure (rows_of c.args.rows.now) c.args.place row c.requires.history (omega (arith, c.requires.within, rows-length c.args.rows.now)) of_kind
    None takes (ap (least_survivor (rows_of c.args.rows.now)) (sym c.first_bridge-bridge.ensures.bridge) ∙ c.in-None.ensures.survivor))
