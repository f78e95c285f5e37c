use Rattle.std.proofs.Common.{◌≡◌, subst, sym, ap, ◌∙◌, rules}
use Rattle.std.proofs.lemmas.List.Sorted.{IsPartitionPoint-from_clause}
use Rattle.lifetime_segments.specs.Lifetimes.{stands_by_item}
use Rattle.lifetime_segments.specs.Ordered.{AreInOrder, place_in}
use Rattle.lifetime_segments.specs.LifetimeLaws.{by_item_order}
use Rattle.lifetime_segments.proofs.Places.{place-point, place-parted_by}
use Rattle.lifetime_segments.proofs.life_list.life_place.Goals as goal

pub returns : goal.returns
returns g c =
    let by_item = stands_by_item g.O.Order.stands_before in
    let life = c.args.life.now in
    let lives = c.as_slice.result.now in
    let same : lives ≡ c.args.few.now = c.as_slice.ensures.value ∙ c.few.view_is in
    place-point by_item life lives c.partition_point.result c.partition_point.ensures.bound
    (IsPartitionPoint-from_clause (λ other. by_item other life) lives c.partition_point.result c.partition_point.ensures.partitioned
    (place-parted_by (by_item_order g.met.O.Order.order) life lives (subst (AreInOrder by_item) (sym same) c.requires.ordered)) (λ other answer after call. search rules))
    ∙ ap (place_in by_item life) same
