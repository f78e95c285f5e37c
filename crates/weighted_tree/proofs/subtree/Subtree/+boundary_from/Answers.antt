use Rattle.std.proofs.Common.{◌-◌, ap, sym, ◌∙◌, subst, arith, drop, length}
use Rattle.weighted_tree.specs.Measures.{passing}
use Rattle.weighted_tree.specs.SearchSteps.{IsBoundaryWithin}
use Rattle.weighted_tree.specs.Sides.{seen_from}
use Rattle.weighted_tree.proofs.Levels.{four_near, near_then_far, one_left, one_near, once_more, search_far, few_of_one, leaf_search}
use Rattle.weighted_tree.proofs.SeenFrom.{laws_from, length-seen, measure-seen, parted_from, left_beyond}
use Rattle.weighted_tree.proofs.Boundaries.{carried, whole_found, whole_open, from_start, near_found, near_open, item_found, far_found, all_open}
use Rattle.weighted_tree.proofs.subtree.Subtree.+boundary_from.Goals as goal

pub returns-in_default-clause-sought : goal.returns-in_default-clause-sought
returns-in_default-clause-sought g t c =
    let measures = λ (m : g.row.T-Measure.Denot). passing c.args.side g.T.Measured g.T.Measure.Monoid m (drop c.args.from (seen_from c.args.side c.args.self.now.items)) in
    from_start g.F.Fn c.args.test.now g.T.Measure.Monoid.items_of measures _ c.unit.result g.T.Measure.Monoid.unit_value _ c.unit.ensures g.met.T.Measure.Monoid.laws.unit_items c.boundary_in_leaf.ensures.sought

pub returns-in_default-clause-visits : goal.returns-in_default-clause-visits
returns-in_default-clause-visits g t c = leaf_search _ _ _ _ (omega arith)

pub returns-then-passes-clause-sought : goal.returns-then-passes-clause-sought
returns-then-passes-clause-sought g t c =
    let laws = laws_from g.met.T.Measure.Monoid.laws c.args.side in
    let items = seen_from c.args.side c.args.self.now.items in
    let all = c.whole-all.ensures.value ∙ sym (measure-seen g.met.T.Measure.Monoid.laws g.T.Measured.measured c.args.side c.args.self.now.items) ∙ sym (laws.left_unit _) in
    let boundary = subst (λ m. IsBoundaryWithin g.F.Fn c.args.test.now (passing c.args.side g.T.Measured g.T.Measure.Monoid m items)
    (length c.args.self.now.items) c.boundary_within.result) c.unit-then-passes.ensures c.boundary_within.ensures.boundary in
    carried laws g.T.Measured.measured g.T.Measure.Monoid.unit_value g.F.Fn c.args.test.now _ items _ (length c.args.self.now.items) (ap (λ k. drop k items) c.if-from-eq0.true) (omega arith) _
    (whole_found laws g.T.Measured.measured g.T.Measure.Monoid.unit_value g.F.Fn c.args.test.now items _ (length-seen c.args.side c.args.self.now.items) _ _ all c.passes.ensures c.if-passes.true _ boundary)

pub returns-then-passes-clause-visits : goal.returns-then-passes-clause-visits
returns-then-passes-clause-visits g t c = once_more _ _ _ _ c.in-Some.ensures.1 (omega (arith, c.in-Some.ensures.0.nodes_are)) c.boundary_within.ensures.visits

pub returns-else-passes-clause-sought : goal.returns-else-passes-clause-sought
returns-else-passes-clause-sought g t c =
    let laws = laws_from g.met.T.Measure.Monoid.laws c.args.side in
    let items = seen_from c.args.side c.args.self.now.items in
    let all = c.whole-all.ensures.value ∙ sym (measure-seen g.met.T.Measure.Monoid.laws g.T.Measured.measured c.args.side c.args.self.now.items) ∙ sym (laws.left_unit _) in
    carried laws g.T.Measured.measured g.T.Measure.Monoid.unit_value g.F.Fn c.args.test.now _ items _ (length c.args.self.now.items) (ap (λ k. drop k items) c.if-from-eq0.true) (omega arith) _
    (whole_open laws g.T.Measured.measured g.T.Measure.Monoid.unit_value g.F.Fn c.args.test.now items _
    (length-seen c.args.side c.args.self.now.items) _ _ all c.passes.ensures c.if-passes.false c.whole-all.ensures.items)

pub returns-else-passes-clause-visits : goal.returns-else-passes-clause-visits
returns-else-passes-clause-visits g t c = one_left _ c.in-Some.node.now _ _ c.in-Some.ensures.0 c.in-Some.ensures.1 _ (λ levels within. omega arith)

pub returns-then-from-place-clause-sought : goal.returns-then-from-place-clause-sought
returns-then-from-place-clause-sought g t c =
    let laws = laws_from g.met.T.Measure.Monoid.laws c.args.side in
    let root = c.sides.ensures _ c.in-Some.ensures.0 in
    let beyond = left_beyond root c.args.from (omega arith) ∙ ap (λ n. drop (c.args.from - n - 1) (seen_from c.args.side c.sides.result.1.now.items)) (sym c.len-place.ensures.count) in
    carried laws g.T.Measured.measured g.T.Measure.Monoid.unit_value g.F.Fn c.args.test.now _ _ _ _ beyond (omega (arith, root.sizes)) _ c.boundary_from.ensures.sought

pub returns-then-from-place-clause-visits : goal.returns-then-from-place-clause-visits
returns-then-from-place-clause-visits g t c = search_far (c.sides.ensures _ c.in-Some.ensures.0) _ _ c.in-Some.ensures.1 _ _ c.boundary_from.ensures.visits

pub returns-in-Found-clause-sought : goal.returns-in-Found-clause-sought
returns-in-Found-clause-sought g t c =
    let laws = laws_from g.met.T.Measure.Monoid.laws c.args.side in
    let root = c.sides.ensures _ c.in-Some.ensures.0 in
    let parts = parted_from root c.args.from (omega arith) in
    near_found laws g.T.Measured.measured g.T.Measure.Monoid.unit_value parts g.F.Fn c.args.test.now _ c.in-Found.ensures.sought

pub returns-in-Found-clause-visits : goal.returns-in-Found-clause-visits
returns-in-Found-clause-visits g t c = four_near (c.sides.ensures _ c.in-Some.ensures.0) _ _ c.in-Some.ensures.1 _ c.in-Found.ensures.visits

pub returns-then-passes-2-clause-sought : goal.returns-then-passes-2-clause-sought
returns-then-passes-2-clause-sought g t c =
    let laws = laws_from g.met.T.Measure.Monoid.laws c.args.side in
    let root = c.sides.ensures _ c.in-Some.ensures.0 in
    let parts = parted_from root c.args.from (omega arith) in
    let near = near_open laws g.T.Measured.measured g.T.Measure.Monoid.unit_value parts g.F.Fn c.args.test.now _ c.in-Open.ensures.sought in
    item_found laws g.T.Measured.measured g.T.Measure.Monoid.unit_value parts g.F.Fn c.args.test.now near.0 _ _ _ near.1 c.passed-next.ensures.value c.passes-2.ensures c.if-passes-2.true _ (omega arith)

pub returns-then-passes-2-clause-visits : goal.returns-then-passes-2-clause-visits
returns-then-passes-2-clause-visits g t c = few_of_one _ _ _ (one_near (c.sides.ensures _ c.in-Some.ensures.0) _ _ c.in-Some.ensures.1 _ c.in-Open.ensures.visits)

pub returns-then-passes-3-clause-sought : goal.returns-then-passes-3-clause-sought
returns-then-passes-3-clause-sought g t c =
    let laws = laws_from g.met.T.Measure.Monoid.laws c.args.side in
    let root = c.sides.ensures _ c.in-Some.ensures.0 in
    let parts = parted_from root c.args.from (omega arith) in
    let near = near_open laws g.T.Measured.measured g.T.Measure.Monoid.unit_value parts g.F.Fn c.args.test.now _ c.in-Open.ensures.sought in
    far_found laws g.T.Measured.measured g.T.Measure.Monoid.unit_value parts g.F.Fn c.args.test.now near.0 _ _ _ near.1 c.passed-next.ensures.value
    c.passes-2.ensures _ _ c.passed-all.ensures.value c.passes-3.ensures c.if-passes-2.false c.if-passes-3.true _
    c.boundary_within-then-passes-3.ensures.boundary _ (omega arith)

pub returns-then-passes-3-clause-visits : goal.returns-then-passes-3-clause-visits
returns-then-passes-3-clause-visits g t c = near_then_far (c.sides.ensures _ c.in-Some.ensures.0) _ _ c.in-Some.ensures.1 _ _ c.in-Open.ensures.visits c.boundary_within-then-passes-3.ensures.visits

pub returns-else-passes-3-clause-sought : goal.returns-else-passes-3-clause-sought
returns-else-passes-3-clause-sought g t c =
    let laws = laws_from g.met.T.Measure.Monoid.laws c.args.side in
    let root = c.sides.ensures _ c.in-Some.ensures.0 in
    let parts = parted_from root c.args.from (omega arith) in
    let near = near_open laws g.T.Measured.measured g.T.Measure.Monoid.unit_value parts g.F.Fn c.args.test.now _ c.in-Open.ensures.sought in
    all_open laws g.T.Measured.measured g.T.Measure.Monoid.unit_value parts g.F.Fn c.args.test.now near.0 _ _ _ near.1 c.passed-next.ensures.value
    c.passes-2.ensures _ _ c.passed-all.ensures.value c.passes-3.ensures c.if-passes-3.false (omega (arith, root.sizes, c.in-Open.ensures.sought.end.1))

pub returns-else-passes-3-clause-visits : goal.returns-else-passes-3-clause-visits
returns-else-passes-3-clause-visits g t c = one_near (c.sides.ensures _ c.in-Some.ensures.0) _ _ c.in-Some.ensures.1 _ c.in-Open.ensures.visits
