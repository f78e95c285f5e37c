use Rattle.std.proofs.Common.{take}
use Rattle.std.specs.List.{flat_map}
use Rattle.evidence_check.proofs.Zeros.{NoneBefore}
use Rattle.evidence_check.proofs.search.first_zero_among.Given as goal

abbrev pub invariant-loop-part : goal.invariant-loop-part
invariant-loop-part g l = NoneBefore l.fn.before (flat_map g.P.Part.rows (take l.part-index l.parts)) l.from l.passed l.sum
