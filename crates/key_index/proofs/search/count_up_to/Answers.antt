use Rattle.std.proofs.Common.{rules}
use Rattle.weighted_tree.specs.PartitionLaws.{Divides, divides_found}
use Rattle.key_index.specs.Ordered.{reaches}
use Rattle.key_index.proofs.InOrder.{key_falls}
use Rattle.key_index.proofs.search.count_up_to.Goals as goal
use Rattle.key_index.proofs.search.count_up_to.Goals.{After-partition_point}

divided : (c : After-partition_point) → Divides (reaches c.args.key c.args.label) c.args.by_key.now c.partition_point.result
divided c =
    divides_found (reaches c.args.key c.args.label) _ _ c.args.by_key.now _ c.partition_point.ensures.partition (λ row answer call. search rules)
    (key_falls c.args.key c.args.label c.args.by_key.now c.requires) c.partition_point.ensures.within

pub returns-clause-front : goal.returns-clause-front
returns-clause-front c = (divided (goal.at.returns-clause-front c).After-partition_point).front

pub returns-clause-back : goal.returns-clause-back
returns-clause-back c = (divided (goal.at.returns-clause-back c).After-partition_point).back
