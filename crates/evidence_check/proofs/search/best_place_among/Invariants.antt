use Rattle.std.proofs.Common.{◌≡◌, length, take, false}
use Rattle.std.specs.List.{flat_map}
use Rattle.evidence_check.specs.Parts.{is_entry}
use Rattle.evidence_check.specs.Sought.{best_beside}
use Rattle.evidence_check.proofs.search.best_place_among.Given as goal

abbrev pub invariant-loop-part : goal.invariant-loop-part
invariant-loop-part g l =
    let first = flat_map g.P.Part.rows (take l.part-index l.parts) in (l.passed ≡ length first) × (is_entry (best_beside l.sought l.place first) l.entry ≡ false)
