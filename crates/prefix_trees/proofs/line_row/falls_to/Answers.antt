use Rattle.std.proofs.Common.{rules}
use Rattle.prefix_trees.proofs.line_row.falls_to.Goals as goal

pub returns : goal.returns
returns c = search rules
