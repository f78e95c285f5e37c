use Rattle.std.proofs.Common.{arith}
use Rattle.bridge_pq.specs.MarkedRows.{rows_of}
use Rattle.retro_base.specs.lemmas.bridges.StatedBridges.{last_found, one_last}
use Rattle.bridge_pq.proofs.FoundBridges.{last-found, last-there, last-end}
use Rattle.bridge_pq.proofs.row_search.last_bridge.Goals as goal

pub unreachable-requires : goal.unreachable-requires
unreachable-requires g c = last-there c.args.rows.now c.requires.history c.requires.marked c.args.place c.requires.within c.in-None.ensures.last

pub returns-then-place-len-clause-bridge : goal.returns-then-place-len-clause-bridge
returns-then-place-len-clause-bridge g c =
    one_last (rows_of c.args.rows.now) c.args.place _ _
    (last-end c.args.rows.now c.requires.history c.requires.marked c.args.place (omega (arith, c.if-place-len.true, c.len.ensures))) (last_found (rows_of c.args.rows.now) c.args.place)

pub returns-clause-bridge : goal.returns-clause-bridge
returns-clause-bridge g c =
    one_last (rows_of c.args.rows.now) c.args.place _ _
    (last-found c.args.rows.now c.requires.history c.requires.marked c.args.place c.requires.within c.in-Some.bridge c.in-Some.ensures.last) (last_found (rows_of c.args.rows.now) c.args.place)
