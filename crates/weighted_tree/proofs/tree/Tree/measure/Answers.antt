use Rattle.std.proofs.Common.{◌-◌, ap, sym, ◌∙◌, arith, take, drop, length, length-append}
use Rattle.std.specs.List.{slice_range}
use Rattle.std.proofs.lemmas.List.{length-drop, length-take-le}
use Rattle.monoids.specs.MeasureLaws.{measure_of-append, items-measure_of}
use Rattle.weighted_tree.specs.Balance.{weight}
use Rattle.weighted_tree.specs.Measures.{measure_in}
use Rattle.weighted_tree.proofs.Appended.{range_in_tail, range_in_both}
use Rattle.weighted_tree.proofs.Levels.{few-by_levels, few_in_leaf, few_beside}
use Rattle.weighted_tree.proofs.tree.Tree.measure.Goals as goal

pub join-requires : goal.join-requires
join-requires g c =
    let root = c.self.inside.root.items in
    let items = ap g.T.Measure.Monoid.items_of c.between-left.ensures.value
    ∙ items-measure_of g.met.T.Measure.Monoid.laws g.T.Measured.measured g.met.T.Measured.single (slice_range root c.args.from c.len-before.result) in
    omega (arith, items, length-take-le (c.len-before.result - c.args.from) (drop c.args.from root) (omega (arith, length-drop c.args.from root)), c.prefix.ensures.items)

pub returns-then-to-before-clause-visits : goal.returns-then-to-before-clause-visits
returns-then-to-before-clause-visits g c =
    let same = ap length c.self.view_is in
    few-by_levels _ _ _ _ (omega arith) (omega (arith, length-append c.self.inside.root.items c.self.inside.tail)) c.between.ensures.none_lost c.between.ensures.visits

pub returns-then-from-before-clause-value : goal.returns-then-from-before-clause-value
returns-then-from-before-clause-value g c =
    let root = c.self.inside.root.items in
    let tail = c.self.inside.tail in
    c.between-then-from-before.ensures.value
    ∙ ap (λ xs. measure_in g.T.Measured g.T.Measure.Monoid (slice_range xs (c.args.from - c.len-before.result) (c.args.to - c.len-before.result))) c.leaf-tail.ensures.items
    ∙ ap (λ n. measure_in g.T.Measured g.T.Measure.Monoid (slice_range tail (c.args.from - n) (c.args.to - n))) c.len-before.ensures.count
    ∙ ap (measure_in g.T.Measured g.T.Measure.Monoid) (sym (range_in_tail root tail c.args.from c.args.to (omega arith) (omega arith)))
    ∙ ap (λ xs. measure_in g.T.Measured g.T.Measure.Monoid (slice_range xs c.args.from c.args.to)) c.self.view_is

pub returns-then-from-before-clause-visits : goal.returns-then-from-before-clause-visits
returns-then-from-before-clause-visits g c =
    few_in_leaf _ _ _ c.between-then-from-before.ensures.none_lost (omega (arith, c.between-then-from-before.ensures.visits 0 (omega (arith, c.leaf-tail.ensures.nodes))))

pub returns-clause-value : goal.returns-clause-value
returns-clause-value g c =
    let root = c.self.inside.root.items in
    let tail = c.self.inside.tail in
    let left = slice_range root c.args.from (length root) in
    let right = take (c.args.to - length root) tail in
    c.join.ensures
    ∙ ap (λ m. g.T.Measure.Monoid.joined m c.prefix.result) (c.between-left.ensures.value ∙ ap (λ n. measure_in g.T.Measured g.T.Measure.Monoid (slice_range root c.args.from n)) c.len-before.ensures.count)
    ∙ ap (g.T.Measure.Monoid.joined (measure_in g.T.Measured g.T.Measure.Monoid left)) (
    c.prefix.ensures.value
    ∙ ap (λ xs. measure_in g.T.Measured g.T.Measure.Monoid (take (c.args.to - c.len-before.result) xs)) c.leaf-tail.ensures.items
    ∙ ap (λ n. measure_in g.T.Measured g.T.Measure.Monoid (take (c.args.to - n) tail)) c.len-before.ensures.count
    )
    ∙ sym (measure_of-append g.met.T.Measure.Monoid.laws g.T.Measured.measured left right)
    ∙ ap (measure_in g.T.Measured g.T.Measure.Monoid) (sym (range_in_both root tail c.args.from c.args.to (omega arith) (omega arith)))
    ∙ ap (λ xs. measure_in g.T.Measured g.T.Measure.Monoid (slice_range xs c.args.from c.args.to)) c.self.view_is

pub returns-clause-visits : goal.returns-clause-visits
returns-clause-visits g c =
    let same = ap length c.self.view_is in
    few_beside (weight c.self.inside.root) _ _ _ (omega arith) (omega (arith, length-append c.self.inside.root.items c.self.inside.tail)) (omega (arith, c.between-left.ensures.none_lost, c.prefix.ensures.none_lost))
    (λ levels within. omega (arith, c.between-left.ensures.visits levels within, c.prefix.ensures.visits 0 (omega (arith, c.leaf-tail.ensures.nodes))))
