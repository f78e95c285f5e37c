use Rattle.std.proofs.Common.{Some, None}
use Rattle.retro_base.specs.Edits.{cut}
use Rattle.bridge_pq.specs.MarkedRows.{rows_of}
use Rattle.bridge_pq.proofs.Failures.{cut-take-goes}
use Rattle.bridge_pq.proofs.FoundFlips.{found-at, cut-gain, flips-gain, never-none, adds-without, takes-not}
use Rattle.bridge_pq.proofs.changes.gained_without.Goals as goal

pub unreachable-requires : goal.unreachable-requires
unreachable-requires g c =
    let rows = rows_of c.args.rows.now in
    never-none rows (cut c.args.place c.args.row) c.requires.possible
    (cut-take-goes rows c.args.place c.args.row c.requires.possible.history c.requires.possible.within c.requires.takes)
    (cut-gain rows c.args.place c.args.row c.last_bridge-bridge.result None c.requires.takes c.last_bridge-bridge.ensures.bridge c.in_default.ensures.dead)

pub returns-clause-flips : goal.returns-clause-flips
returns-clause-flips g c =
    let rows = rows_of c.args.rows.now in
    let at = c.entry_at-entry.ensures.entry in
    rw c.place_without.ensures (flips-gain rows (cut c.args.place c.args.row) c.requires.possible c.last_bridge-bridge.result _ c.entry_at-entry.result
    (cut-gain rows c.args.place c.args.row c.last_bridge-bridge.result (Some c.entry_at-entry.result) c.requires.takes c.last_bridge-bridge.ensures.bridge
    (found-at rows c.in-Some.dead _ c.entry_at-entry.result c.in-Some.ensures.dead at))
    (adds-without rows c.args.place c.in-Some.dead c.entry_at-entry.result
    (takes-not rows c.args.place c.in-Some.dead c.args.row c.entry_at-entry.result c.requires.possible.within c.requires.takes at) at))
