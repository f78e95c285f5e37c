use Rattle.std.proofs.Common.{◌≡◌, ◌++◌, take}
use Rattle.reactions.specs.Outcome.{evidence_lines}
use Rattle.reactions.proofs.evidence_lines.EvidenceLines.print.Given as goal

abbrev pub invariant-loop-evidence : goal.invariant-loop-evidence
invariant-loop-evidence l = l.out ≡ l.fn.out ++ evidence_lines (take l.evidence-index l.self)
