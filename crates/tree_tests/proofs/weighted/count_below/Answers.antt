use Rattle.std.proofs.Common.{nat_lt, rules}
use Rattle.std.proofs.lemmas.List.Sorted.{IsPartitionedBy-ltb}
use Rattle.tree_tests.proofs.weighted.count_below.Goals as goal

pub returns : goal.returns
returns g c =
    let parts = IsPartitionedBy-ltb (λ piece. piece.size) c.args.tree.now c.args.limit c.requires in
    let point = c.partition_point.ensures.partition (λ piece. nat_lt piece.size c.args.limit) (λ piece answer call. search rules) parts in
    record { below = point.0; above = point.1 }
