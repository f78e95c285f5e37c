use Rattle.std.proofs.Common.{◌≡◌, length, cond, sym, ap, ◌∙◌, arith, Some, None}
use Rattle.std.proofs.lemmas.List.{length-map}
use Rattle.retro_base.specs.declared.row.Change.TheVariants.{Gain}
use Rattle.retro_base.specs.Edits.{add}
use Rattle.bridge_pq.specs.MarkedRows.{rows_of}
use Rattle.bridge_pq.proofs.FoundFlips.{found-at, added-gain, flips-gain, new-there, adds-with}
use Rattle.bridge_pq.proofs.RowExtremes.{adds-within}
use Rattle.bridge_pq.proofs.changes.gained_with.Goals as goal

pub place_with-requires : goal.place_with-requires
place_with-requires g c =
    let same : length (rows_of c.args.rows.now) ≡ length c.args.rows.now = simp length-map in
    omega (arith, same, adds-within (rows_of c.args.rows.now) c.in-Some.dead c.entry_at-entry.result c.entry_at-entry.ensures.entry)

pub returns-then-comes_before-clause-flips : goal.returns-then-comes_before-clause-flips
returns-then-comes_before-clause-flips g c =
    let rows = rows_of c.args.rows.now in
    let found = found-at rows c.in-Some.dead _ c.entry_at-entry.result c.in-Some.ensures.dead c.entry_at-entry.ensures.entry in
    rw c.place_with.ensures (flips-gain rows (add c.args.place c.args.row) c.requires.possible c.last_bridge-bridge.result _ c.entry_at-entry.result
    (added-gain rows c.args.place c.args.row c.last_bridge-bridge.result (Some c.entry_at-entry.result) c.args.new c.requires.adds c.last_bridge-bridge.ensures.bridge found
    ∙ ap (λ b. Some (Gain c.last_bridge-bridge.result (cond b c.entry_at-entry.result c.args.new))) (sym c.comes_before.ensures ∙ c.if-comes_before.true))
    (adds-with rows c.args.place c.in-Some.dead c.args.row c.entry_at-entry.result c.requires.possible.within c.entry_at-entry.ensures.entry))

pub returns-else-comes_before-clause-flips : goal.returns-else-comes_before-clause-flips
returns-else-comes_before-clause-flips g c =
    let rows = rows_of c.args.rows.now in
    let found = found-at rows c.in-Some.dead _ c.entry_at-entry.result c.in-Some.ensures.dead c.entry_at-entry.ensures.entry in
    flips-gain rows (add c.args.place c.args.row) c.requires.possible c.last_bridge-bridge.result c.args.place c.args.new
    (added-gain rows c.args.place c.args.row c.last_bridge-bridge.result (Some c.entry_at-entry.result) c.args.new c.requires.adds c.last_bridge-bridge.ensures.bridge found
    ∙ ap (λ b. Some (Gain c.last_bridge-bridge.result (cond b c.entry_at-entry.result c.args.new))) (sym c.comes_before.ensures ∙ c.if-comes_before.false))
    (new-there rows c.args.place c.args.row c.args.new c.requires.possible c.requires.adds)

pub returns-in_default-clause-flips : goal.returns-in_default-clause-flips
returns-in_default-clause-flips g c =
    let rows = rows_of c.args.rows.now in
    flips-gain rows (add c.args.place c.args.row) c.requires.possible c.last_bridge-bridge.result c.args.place c.args.new
    (added-gain rows c.args.place c.args.row c.last_bridge-bridge.result None c.args.new c.requires.adds c.last_bridge-bridge.ensures.bridge c.in_default.ensures.dead)
    (new-there rows c.args.place c.args.row c.args.new c.requires.possible c.requires.adds)
