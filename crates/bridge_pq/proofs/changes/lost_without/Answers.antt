use Rattle.std.proofs.Common.{◌≡◌, length, arith, Some, None}
use Rattle.std.proofs.lemmas.List.{length-map}
use Rattle.std.proofs.lemmas.Option.{slice_get_within}
use Rattle.retro_base.specs.Edits.{cut}
use Rattle.bridge_pq.specs.MarkedRows.{rows_of}
use Rattle.bridge_pq.proofs.FoundFlips.{found-at, cut-loss, flips-loss, never-none, adds-without, dead-not}
use Rattle.bridge_pq.proofs.changes.lost_without.Goals as goal

pub overflow_add-place : goal.overflow_add-place
overflow_add-place g c =
    let same : length (rows_of c.args.rows.now) ≡ length c.args.rows.now = simp length-map in
    omega (arith, same, slice_get_within (rows_of c.args.rows.now) c.args.place c.args.row c.requires.possible.within)

pub first_bridge-bridge-requires-clause-within : goal.first_bridge-bridge-requires-clause-within
first_bridge-bridge-requires-clause-within g c =
    let same : length (rows_of c.args.rows.now) ≡ length c.args.rows.now = simp length-map in
    omega (arith, same, slice_get_within (rows_of c.args.rows.now) c.args.place c.args.row c.requires.possible.within)

pub unreachable-requires : goal.unreachable-requires
unreachable-requires g c =
    let rows = rows_of c.args.rows.now in
    never-none rows (cut c.args.place c.args.row) c.requires.possible c.requires.accepted
    (cut-loss rows c.args.place c.args.row c.first_bridge-bridge.result None c.args.own c.requires.adds c.requires.dead c.first_bridge-bridge.ensures.bridge c.in_default.ensures.survivor)

pub place_without-requires : goal.place_without-requires
place_without-requires g c =
    let rows = rows_of c.args.rows.now in
    let at = c.entry_at-entry.ensures.entry in
    dead-not rows c.args.place c.first_bridge-bridge.result c.in-Some.least c.args.row c.args.own c.entry_at-entry.result c.requires.possible.within c.requires.adds c.requires.dead at
    (found-at rows c.in-Some.least _ c.entry_at-entry.result c.in-Some.ensures.survivor at)

pub returns-clause-flips : goal.returns-clause-flips
returns-clause-flips g c =
    let rows = rows_of c.args.rows.now in
    let at = c.entry_at-entry.ensures.entry in
    let found = found-at rows c.in-Some.least _ c.entry_at-entry.result c.in-Some.ensures.survivor at in
    rw c.place_without.ensures (flips-loss rows (cut c.args.place c.args.row) c.requires.possible c.first_bridge-bridge.result _ c.entry_at-entry.result
    (cut-loss rows c.args.place c.args.row c.first_bridge-bridge.result (Some c.entry_at-entry.result) c.args.own c.requires.adds c.requires.dead c.first_bridge-bridge.ensures.bridge found)
    (adds-without rows c.args.place c.in-Some.least c.entry_at-entry.result
    (dead-not rows c.args.place c.first_bridge-bridge.result c.in-Some.least c.args.row c.args.own c.entry_at-entry.result c.requires.possible.within c.requires.adds c.requires.dead at found) at))
