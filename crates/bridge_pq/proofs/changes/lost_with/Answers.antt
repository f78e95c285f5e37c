use Rattle.std.proofs.Common.{◌≡◌, length, arith, Some, None}
use Rattle.std.proofs.lemmas.List.{length-map}
use Rattle.retro_base.specs.Edits.{add}
use Rattle.bridge_pq.specs.MarkedRows.{rows_of}
use Rattle.bridge_pq.proofs.FoundFlips.{found-at, added-loss, flips-loss, never-none, adds-with}
use Rattle.bridge_pq.proofs.RowExtremes.{adds-within}
use Rattle.bridge_pq.proofs.changes.lost_with.Goals as goal

pub unreachable-requires : goal.unreachable-requires
unreachable-requires g c =
    never-none (rows_of c.args.rows.now) (add c.args.place c.args.row) c.requires.possible c.requires.accepted
    (added-loss (rows_of c.args.rows.now) c.args.place c.args.row c.first_bridge-bridge.result None c.requires.takes c.first_bridge-bridge.ensures.bridge c.in_default.ensures.survivor)

pub place_with-requires : goal.place_with-requires
place_with-requires g c =
    let same : length (rows_of c.args.rows.now) ≡ length c.args.rows.now = simp length-map in
    omega (arith, same, adds-within (rows_of c.args.rows.now) c.in-Some.least c.entry_at-entry.result c.entry_at-entry.ensures.entry)

pub returns-clause-flips : goal.returns-clause-flips
returns-clause-flips g c =
    let rows = rows_of c.args.rows.now in
    let found = found-at rows c.in-Some.least _ c.entry_at-entry.result c.in-Some.ensures.survivor c.entry_at-entry.ensures.entry in
    rw c.place_with.ensures (flips-loss rows (add c.args.place c.args.row) c.requires.possible c.first_bridge-bridge.result _ c.entry_at-entry.result
    (added-loss rows c.args.place c.args.row c.first_bridge-bridge.result (Some c.entry_at-entry.result) c.requires.takes c.first_bridge-bridge.ensures.bridge found)
    (adds-with rows c.args.place c.in-Some.least c.args.row c.entry_at-entry.result c.requires.possible.within c.entry_at-entry.ensures.entry))
