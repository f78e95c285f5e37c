use Rattle.std.proofs.Common.{rules}
use Rattle.weighted_tree.specs.PartitionLaws.{point_found}
use Rattle.lifetime_segments.proofs.Places.{place-point, place-parted}
use Rattle.lifetime_segments.proofs.sorted.place_of.Goals as goal

pub returns : goal.returns
returns g c =
    let before = g.O.Order.stands_before in
    let item = c.args.item.now in
    let items = c.args.items.now in
    place-point before item items c.partition_point.result c.partition_point.ensures.within
    (point_found (λ other. before other item) _ _ items c.partition_point.result c.partition_point.ensures.partition (λ other answer call. search rules) (place-parted g.met.O.Order.order item items c.requires.ordered))
