use Rattle.std.proofs.Common.{subst}
use Rattle.weighted_tree.specs.Search.{FindsPartition}
use Rattle.weighted_tree.proofs.subtree.Subtree.partition_in_leaf.Goals as goal

pub returns-in-Some-clause-partition : goal.returns-in-Some-clause-partition
returns-in-Some-clause-partition g c = subst (λ items. FindsPartition g.F.Fn c.args.test.now items c.partition_in.result) c.in-Some.ensures.0 c.partition_in.ensures.partition
