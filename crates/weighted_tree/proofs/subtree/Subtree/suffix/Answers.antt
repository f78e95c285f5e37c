use Rattle.std.proofs.Common.{◌≡◌, ◌-◌, ap, sym, ◌∙◌, arith, drop, length}
use Rattle.weighted_tree.specs.Measures.{measure_in}
use Rattle.weighted_tree.proofs.Descents.{sizes_of, last-left, last-right}
use Rattle.weighted_tree.proofs.Levels.{one_left, one_right}
use Rattle.weighted_tree.proofs.SeenFrom.{measure-seen}
use Rattle.weighted_tree.specs.declared.node.Side.TheVariants.{Right}
use Rattle.weighted_tree.proofs.subtree.Subtree.suffix.Goals as goal

pub down-preserved-then-rest-count : goal.down-preserved-then-rest-count
down-preserved-then-rest-count g c =
    let node = c.in-Some.node.now in
    let root = c.in-Some.ensures.0 in
    record {
      value = last-right g.met.T.Measure.Monoid.laws g.T.Measured.measured c.down.subtree.now.items node.left.items node.right.items node.item root.items_are
          c.down.after _ c.down.rest c.down.invariant.value (omega arith);
      items = c.down.invariant.items;
      within = omega arith;
      none_lost = omega (arith, c.in-Some.ensures.1);
      levels = λ after below. c.down.invariant.levels after (one_right c.down.subtree.now node c.down.steps c.root.new.steps root c.in-Some.ensures.1 after below);
    }

pub down-preserved : goal.down-preserved
down-preserved g c =
    let node = c.in-Some.node.now in
    let root = c.in-Some.ensures.0 in
    let seen = c.passed.ensures.value ∙ ap (λ m. g.T.Measure.Monoid.joined m c.down.after) (measure-seen g.met.T.Measure.Monoid.laws g.T.Measured.measured Right node.right.items) in
    let next = c.passed-after.ensures.value ∙ ap (g.T.Measure.Monoid.joined (g.T.Measured.measured node.item)) seen in
    record {
      value = last-left g.met.T.Measure.Monoid.laws g.T.Measured.measured c.down.subtree.now.items node.left.items node.right.items node.item root.items_are
          c.down.after _ c.down.rest c.down.invariant.value (omega arith) _ (omega arith) c.passed-after.result next;
      items = omega (arith, c.passed-after.ensures.items, c.passed.ensures.items, c.down.invariant.items);
      within = omega (arith, sizes_of c.down.subtree.now.items node.left.items node.right.items node.item root.items_are);
      none_lost = omega (arith, c.in-Some.ensures.1);
      levels = λ after below. c.down.invariant.levels after (one_left c.down.subtree.now node c.down.steps c.root.new.steps root c.in-Some.ensures.1 after below);
    }

pub returns-clause-value : goal.returns-clause-value
returns-clause-value g c =
    let none : length c.down.subtree.now.items - c.down.rest ≡ 0 = omega arith in
    c.passed-2.ensures.value
    ∙ ap (λ m. g.T.Measure.Monoid.joined m c.down.after) (measure-seen g.met.T.Measure.Monoid.laws g.T.Measured.measured Right c.down.subtree.now.items)
    ∙ ap (λ k. g.T.Measure.Monoid.joined (measure_in g.T.Measured g.T.Measure.Monoid (drop k c.down.subtree.now.items)) c.down.after) (sym none)
    ∙ c.down.invariant.value

pub returns-clause-visits : goal.returns-clause-visits
returns-clause-visits g c = c.down.invariant.levels c.down.steps (λ levels within. omega arith)

pub returns-in_default-clause-visits : goal.returns-in_default-clause-visits
returns-in_default-clause-visits g c = c.down.invariant.levels _ (λ levels within. omega (arith, c.in_default.ensures.1, c.between_in_leaf.ensures.visit))
