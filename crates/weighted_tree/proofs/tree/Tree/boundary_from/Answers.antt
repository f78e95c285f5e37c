use Rattle.std.proofs.Common.{◌-◌, ◌++◌, ap, ◌∙◌, subst, arith, drop, length, length-append}
use Rattle.weighted_tree.specs.Measures.{passing}
use Rattle.weighted_tree.specs.SearchSteps.{IsSought}
use Rattle.weighted_tree.specs.Sides.{seen_from}
use Rattle.weighted_tree.proofs.Appended.{alone}
use Rattle.weighted_tree.proofs.Boundaries.{carried}
use Rattle.weighted_tree.proofs.Levels.{few-by_levels, few_by_root, few_after_leaf, few_of_search}
use Rattle.weighted_tree.proofs.SeenFrom.{laws_from, seen_left, seen_right}
use Rattle.weighted_tree.proofs.tree.Tree.boundary_from.Goals as goal

pub returns-then-count-eq0-clause-sought : goal.returns-then-count-eq0-clause-sought
returns-then-count-eq0-clause-sought g c =
    subst (λ xs. IsSought g.F.Fn c.args.test.now g.T.Measure.Monoid.items_of
    (passing c.args.side g.T.Measured g.T.Measure.Monoid g.T.Measure.Monoid.unit_value (drop c.args.from (seen_from c.args.side xs))) (length xs - c.args.from) c.boundary_from.result)
    (alone c.self.inside.root.items c.self.inside.tail (omega arith) c.args.self.now c.self.view_is) c.boundary_from.ensures.sought

pub returns-then-count-eq0-clause-visits : goal.returns-then-count-eq0-clause-visits
returns-then-count-eq0-clause-visits g c =
    let same = ap length c.self.view_is in
    few-by_levels _ _ _ _ (omega arith) (omega (arith, length-append c.self.inside.root.items c.self.inside.tail)) c.boundary_from.ensures.none_lost
    (few_of_search _ _ _ _ c.boundary_from.ensures.visits)

pub returns-in-Left-clause-sought : goal.returns-in-Left-clause-sought
returns-in-Left-clause-sought g c =
    let root = c.self.inside.root.items in
    let part = c.leaf-tail.result.now.items in
    let all = ap (λ xs. root ++ xs) c.leaf-tail.ensures.items ∙ c.self.view_is in
    let sizes = ap length all in
    let count = length-append root part in
    carried (laws_from g.met.T.Measure.Monoid.laws c.args.side) g.T.Measured.measured g.T.Measure.Monoid.unit_value g.F.Fn c.args.test.now _ _ _ _
    (ap (drop c.args.from) (seen_left root part c.args.self.now all c.args.side c.in-Left.is)) (omega arith) _ c.boundary_in_both.ensures.sought

pub returns-in-Left-clause-visits : goal.returns-in-Left-clause-visits
returns-in-Left-clause-visits g c =
    let same = ap length c.self.view_is in
    let count = length-append c.self.inside.root.items c.self.inside.tail in
    few_by_root _ _ _ _ _ (omega arith) (omega (arith, c.boundary_in_both.ensures.near_few)) (omega (arith, c.leaf-tail.ensures.nodes))
    c.boundary_in_both.ensures.none_lost c.boundary_in_both.ensures.visits

pub returns-in-Right-clause-sought : goal.returns-in-Right-clause-sought
returns-in-Right-clause-sought g c =
    let root = c.self.inside.root.items in
    let part = c.leaf-tail.result.now.items in
    let all = ap (λ xs. root ++ xs) c.leaf-tail.ensures.items ∙ c.self.view_is in
    let sizes = ap length all in
    let count = length-append root part in
    carried (laws_from g.met.T.Measure.Monoid.laws c.args.side) g.T.Measured.measured g.T.Measure.Monoid.unit_value g.F.Fn c.args.test.now _ _ _ _
    (ap (drop c.args.from) (seen_right root part c.args.self.now all c.args.side c.in-Right.is)) (omega arith) _ c.boundary_in_both-in-Right.ensures.sought

pub returns-in-Right-clause-visits : goal.returns-in-Right-clause-visits
returns-in-Right-clause-visits g c =
    let same = ap length c.self.view_is in
    let count = length-append c.self.inside.root.items c.self.inside.tail in
    few_after_leaf _ _ _ _ _ (omega arith) (omega (arith, c.boundary_in_both-in-Right.ensures.far_few)) (omega (arith, c.leaf-tail.ensures.nodes))
    c.boundary_in_both-in-Right.ensures.none_lost c.boundary_in_both-in-Right.ensures.visits
