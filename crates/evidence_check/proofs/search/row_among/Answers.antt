use Rattle.std.proofs.Common.{◌∙◌, arith}
use Rattle.evidence_check.proofs.Held.{held_row}
use Rattle.evidence_check.proofs.search.row_among.Goals as goal

pub returns : goal.returns
returns g c = c.row.ensures ∙ held_row g.P.Part.rows c.args.parts.now 1 c.args.place c.holding-held.result c.holding-held.ensures c.index-parts-held.result c.index-parts-held.is (omega arith)
