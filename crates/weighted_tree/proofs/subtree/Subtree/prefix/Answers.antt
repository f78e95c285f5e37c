use Rattle.std.proofs.Common.{ap, ◌∙◌, arith}
use Rattle.weighted_tree.proofs.Descents.{sizes_of, first-left, first-right}
use Rattle.weighted_tree.proofs.Levels.{one_left, one_right}
use Rattle.weighted_tree.proofs.subtree.Subtree.prefix.Goals as goal

pub down-preserved-then-rest-count : goal.down-preserved-then-rest-count
down-preserved-then-rest-count g c =
    let node = c.in-Some.node.now in
    let root = c.in-Some.ensures.0 in
    record {
      value = first-left g.met.T.Measure.Monoid.laws g.T.Measured.measured c.down.subtree.now.items node.left.items node.right.items node.item root.items_are
          c.down.before _ c.down.rest c.down.invariant.value (omega arith);
      items = c.down.invariant.items;
      within = omega arith;
      none_lost = omega (arith, c.in-Some.ensures.1);
      levels = λ after below. c.down.invariant.levels after (one_left c.down.subtree.now node c.down.steps c.root.new.steps root c.in-Some.ensures.1 after below);
    }

pub down-preserved : goal.down-preserved
down-preserved g c =
    let node = c.in-Some.node.now in
    let root = c.in-Some.ensures.0 in
    let next = c.passed-before.ensures.value ∙ ap (λ m. g.T.Measure.Monoid.joined m (g.T.Measured.measured node.item)) c.passed.ensures.value in
    record {
      value = first-right g.met.T.Measure.Monoid.laws g.T.Measured.measured c.down.subtree.now.items node.left.items node.right.items node.item root.items_are
          c.down.before _ c.down.rest c.down.invariant.value (omega arith) _ (omega arith) c.passed-before.result next;
      items = omega (arith, c.passed-before.ensures.items, c.passed.ensures.items, c.down.invariant.items);
      within = omega (arith, sizes_of c.down.subtree.now.items node.left.items node.right.items node.item root.items_are);
      none_lost = omega (arith, c.in-Some.ensures.1);
      levels = λ after below. c.down.invariant.levels after (one_right c.down.subtree.now node c.down.steps c.root.new.steps root c.in-Some.ensures.1 after below);
    }

pub returns-clause-visits : goal.returns-clause-visits
returns-clause-visits g c = c.down.invariant.levels c.down.steps (λ levels within. omega arith)

pub returns-in_default-clause-visits : goal.returns-in_default-clause-visits
returns-in_default-clause-visits g c = c.down.invariant.levels _ (λ levels within. omega (arith, c.in_default.ensures.1, c.between_in_leaf.ensures.visit))
