use Rattle.std.proofs.Common.{◌≡◌, take}
use Rattle.std.specs.List.{flat_map}
use Rattle.evidence_check.specs.Sums.{sums_of}
use Rattle.evidence_check.proofs.search.sums_among.Given as goal

abbrev pub invariant-loop-part : goal.invariant-loop-part
invariant-loop-part g l = l.sums ≡ sums_of (flat_map g.P.Part.rows (take l.part-index l.parts))
