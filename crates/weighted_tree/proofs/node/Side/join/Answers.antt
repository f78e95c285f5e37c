use Rattle.std.proofs.Common.{ap, ◌∙◌, arith}
use Rattle.weighted_tree.proofs.node.Side.join.Goals as goal

pub returns-in-Left-clause-items : goal.returns-in-Left-clause-items
returns-in-Left-clause-items g c = ap g.M.Monoid.items_of c.join.ensures ∙ g.met.M.Monoid.laws.join_items c.args.near c.args.far

pub returns-in-Right-clause-items : goal.returns-in-Right-clause-items
returns-in-Right-clause-items g c = omega (arith, ap g.M.Monoid.items_of c.join-in-Right.ensures, g.met.M.Monoid.laws.join_items c.args.far c.args.near)
