use Rattle.std.proofs.Common.{rules}
use Rattle.weighted_tree.specs.PartitionLaws.{Divides, divides_found}
use Rattle.retro_dictionary.specs.Bounds.{reaches}
use Rattle.retro_dictionary.proofs.RangeOfPairs.{reaches-falls}
use Rattle.retro_dictionary.proofs.search.count_up_to.Goals as goal

pub returns-clause-up_to : goal.returns-clause-up_to
returns-clause-up_to c =
    let divided : Divides (reaches c.args.bound) c.args.items.now c.partition_point.result =
    divides_found (reaches c.args.bound) _ _ c.args.items.now _ c.partition_point.ensures.partition (λ pair answer call. search rules)
    (reaches-falls c.args.bound c.args.items.now c.requires.ordered) c.partition_point.ensures.within in
    record { front = divided.front; back = divided.back }
