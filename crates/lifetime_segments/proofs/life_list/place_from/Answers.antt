use Rattle.std.proofs.Common.{◌≡◌, true, take, subst, sym, ap, ◌∙◌, arith, rules, length}
use Rattle.std.specs.List.{AllByRecursion}
use Rattle.std.proofs.lemmas.List.Sorted.{IsPartitionPoint-from_clause}
use Rattle.lifetime_segments.specs.Lifetimes.{stands_by_item}
use Rattle.lifetime_segments.specs.Ordered.{AreInOrder}
use Rattle.lifetime_segments.proofs.InRange.{item_below, below-parted, front_all}
use Rattle.lifetime_segments.proofs.life_list.place_from.Goals as goal

pub returns-clause-within : goal.returns-clause-within
returns-clause-within g c =
    let same : c.as_slice.result.now ≡ c.args.few.now = c.as_slice.ensures.value ∙ c.few.view_is in
    omega (arith, c.partition_point.ensures.bound, ap length same)

pub returns-clause-below : goal.returns-clause-below
returns-clause-below g c =
    let below = item_below g.D.RangeSearch.below c.args.query in
    let lives = c.as_slice.result.now in
    let same : lives ≡ c.args.few.now = c.as_slice.ensures.value ∙ c.few.view_is in
    subst (λ few. AllByRecursion (λ life. below life ≡ true) (take c.partition_point.result few)) same
    (front_all below lives c.partition_point.result c.partition_point.ensures.bound
    (IsPartitionPoint-from_clause below lives c.partition_point.result c.partition_point.ensures.partitioned
    (below-parted g.met.D.RangeSearch.range_laws c.args.query lives (subst (AreInOrder (stands_by_item g.D.Decomposable.stands_before)) (sym same) c.requires.ordered))
    (λ other answer after call. search rules)))
