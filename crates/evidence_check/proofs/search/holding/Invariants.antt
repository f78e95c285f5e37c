use Rattle.std.proofs.Common.{◌≡◌, ◌≤◌, length, take}
use Rattle.std.specs.List.{flat_map}
use Rattle.evidence_check.proofs.search.holding.Given as goal

abbrev pub invariant-loop-index : goal.invariant-loop-index
invariant-loop-index g l = (l.before ≡ length (flat_map g.P.Part.rows (take l.index l.parts))) × (l.before ≤ l.place)
