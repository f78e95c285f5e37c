use Rattle.std.proofs.Common.{◌+◌, ◌-◌, arith, length}
use Rattle.weighted_tree.proofs.Levels.{one_near, one_far}
use Rattle.weighted_tree.proofs.SeenFrom.{laws_from, parted}
use Rattle.weighted_tree.proofs.Boundaries.{found_within, open_within, near_within, near_refused, item_within, far_within}
use Rattle.weighted_tree.proofs.subtree.Subtree.boundary_within.Goals as goal

pub down-preserved-then-passes : goal.down-preserved-then-passes
down-preserved-then-passes g c =
    let laws = laws_from g.met.T.Measure.Monoid.laws c.args.side in
    let root = c.sides.ensures _ c.in-Some.ensures.0 in
    record {
      boundary = λ place found is boundary. c.down.invariant.boundary place found is
          (near_within laws g.T.Measured.measured c.down.passed
          (parted root) g.F.Fn c.args.test.now place _ _ c.passed-through.ensures.value c.passes.ensures c.if-passes.true boundary);
      items = omega (arith, root.sizes, c.down.invariant.items);
      within = omega (arith, root.sizes);
      none_lost = omega (arith, c.in-Some.ensures.1);
      levels = λ after below. c.down.invariant.levels after (one_near root _ _ c.in-Some.ensures.1 after below);
    }

pub returns-then-passes-2-clause-boundary : goal.returns-then-passes-2-clause-boundary
returns-then-passes-2-clause-boundary g c =
    let laws = laws_from g.met.T.Measure.Monoid.laws c.args.side in
    let root = c.sides.ensures _ c.in-Some.ensures.0 in
    let fails = near_refused laws g.T.Measured.measured c.down.passed (parted root) g.F.Fn c.args.test.now _ _ c.passed-through.ensures.value c.passes.ensures c.if-passes.false in
    c.down.invariant.boundary (c.len.result + 1) _ (omega arith)
    (item_within laws g.T.Measured.measured c.down.passed
    (parted root) g.F.Fn c.args.test.now fails _ _ _ c.passed-through.ensures.value c.passed-passed.ensures.value c.passes-else-passes.ensures
    c.if-passes-2.true _ (omega arith))

pub returns-then-passes-2-clause-visits : goal.returns-then-passes-2-clause-visits
returns-then-passes-2-clause-visits g c = c.down.invariant.levels _ (one_near (c.sides.ensures _ c.in-Some.ensures.0) _ _ c.in-Some.ensures.1 _ (λ levels within. omega arith))

pub down-preserved : goal.down-preserved
down-preserved g c =
    let laws = laws_from g.met.T.Measure.Monoid.laws c.args.side in
    let root = c.sides.ensures _ c.in-Some.ensures.0 in
    let fails = near_refused laws g.T.Measured.measured c.down.passed (parted root) g.F.Fn c.args.test.now _ _ c.passed-through.ensures.value c.passes.ensures c.if-passes.false in
    record {
      boundary = λ place found is boundary. c.down.invariant.boundary (c.len.result + 1 + place) found (omega arith)
          (far_within laws g.T.Measured.measured c.down.passed
          (parted root) g.F.Fn c.args.test.now fails _ _ _ c.passed-through.ensures.value c.passed-passed.ensures.value c.passes-else-passes.ensures
          c.if-passes-2.false place boundary _ (omega arith));
      items = omega (arith, root.sizes, c.down.invariant.items, c.passed-passed.ensures.items, c.passed-through.ensures.items);
      within = omega (arith, root.sizes);
      none_lost = omega (arith, c.in-Some.ensures.1);
      levels = λ after below. c.down.invariant.levels after (one_far root _ _ c.in-Some.ensures.1 after below);
    }

pub returns-in-Found-clause-boundary : goal.returns-in-Found-clause-boundary
returns-in-Found-clause-boundary g c = c.down.invariant.boundary c.in-Found.more _ (omega arith)
    (found_within g.F.Fn c.args.test.now _ _ (length c.down.subtree.now.items - 0) (length c.down.subtree.now.items) c.in-Found.more
    (omega arith) c.in-Found.ensures.sought)

pub returns-in-Found-clause-visits : goal.returns-in-Found-clause-visits
returns-in-Found-clause-visits g c = c.down.invariant.levels _ (λ levels within. omega (arith, c.in_default.ensures.1, c.boundary_in_leaf.ensures.visits))

pub returns-in-Open-clause-boundary : goal.returns-in-Open-clause-boundary
returns-in-Open-clause-boundary g c = c.down.invariant.boundary (length c.down.subtree.now.items) _ (omega arith)
    (open_within g.F.Fn c.args.test.now _ _ (length c.down.subtree.now.items - 0) (length c.down.subtree.now.items) _ (omega arith) c.in-Open.ensures.sought)

pub returns-in-Open-clause-visits : goal.returns-in-Open-clause-visits
returns-in-Open-clause-visits g c = c.down.invariant.levels _ (λ levels within. omega (arith, c.in_default.ensures.1, c.boundary_in_leaf.ensures.visits))
