use Rattle.std.proofs.Common.{take}
use Rattle.std.specs.List.{flat_map}
use Rattle.evidence_check.proofs.Zeros.{NoneAfter}
use Rattle.evidence_check.proofs.search.last_zero_among.Given as goal

abbrev pub invariant-loop-index : goal.invariant-loop-index
invariant-loop-index g l = NoneAfter l.fn.before (flat_map g.P.Part.rows l.parts) (flat_map g.P.Part.rows (take l.index l.parts)) l.to l.passed l.sum
