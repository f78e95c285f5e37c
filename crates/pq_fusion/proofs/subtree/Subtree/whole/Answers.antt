use Rattle.std.proofs.Common.{ap, sym, ◌∙◌}
use Rattle.pq_fusion.specs.Pieces.{no_parts, tolerant}
use Rattle.pq_fusion.proofs.FromRows.{no_more}
use Rattle.pq_fusion.proofs.subtree.Subtree.whole.Goals as goal

pub returns-in-None : goal.returns-in-None
returns-in-None c = c.empty.ensures ∙ sym (ap tolerant c.in-None.ensures ∙ no_more no_parts)
