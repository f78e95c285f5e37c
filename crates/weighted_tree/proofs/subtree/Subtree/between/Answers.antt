use Rattle.std.proofs.Common.{◌≡◌, ◌-◌, ap, sym, ◌∙◌, arith, take, drop, length}
use Rattle.std.specs.List.{slice_range}
use Rattle.monoids.specs.MeasureLaws.{measure_of-around}
use Rattle.weighted_tree.proofs.Levels.{level_left, level_right, both_sides}
use Rattle.weighted_tree.proofs.Descents.{sizes_of}
use Rattle.weighted_tree.proofs.Ranges.{range-before, range-after, range-around}
use Rattle.weighted_tree.proofs.subtree.Subtree.between.Goals as goal

pub down-preserved-then-end-before : goal.down-preserved-then-end-before
down-preserved-then-end-before g c =
    let node = c.in-Some.node.now in
    let root = c.in-Some.ensures.0 in
    let here = ap (λ xs. slice_range xs c.down.start c.down.end) root.items_are ∙ range-before node.left.items node.right.items node.item c.down.start c.down.end (omega arith) (omega arith) in
    record {
      range = sym here ∙ c.down.invariant.range;
      size = c.down.invariant.size;
      within = omega arith;
      none_lost = omega (arith, c.in-Some.ensures.1);
      levels = λ after below. c.down.invariant.levels after (level_left c.down.subtree.now node c.down.steps c.root.new.steps after after root c.in-Some.ensures.1 below (omega arith));
    }

pub down-preserved : goal.down-preserved
down-preserved g c =
    let node = c.in-Some.node.now in
    let root = c.in-Some.ensures.0 in
    let here = ap (λ xs. slice_range xs c.down.start c.down.end) root.items_are ∙ range-after node.left.items node.right.items node.item c.down.start c.down.end (omega arith) in
    let start : c.down.start - c.len-before.result - 1 ≡ c.down.start - length node.left.items - 1 = omega arith in
    let end : c.down.end - c.len-before.result - 1 ≡ c.down.end - length node.left.items - 1 = omega arith in
    record {
      range = rw (start, end) (sym here ∙ c.down.invariant.range);
      size = omega arith;
      within = omega (arith, sizes_of c.down.subtree.now.items node.left.items node.right.items node.item root.items_are);
      none_lost = omega (arith, c.in-Some.ensures.1);
      levels = λ after below. c.down.invariant.levels after (level_right c.down.subtree.now node c.down.steps c.root.new.steps after after root c.in-Some.ensures.1 below (omega arith));
    }

pub returns-else-start-before-clause-value : goal.returns-else-start-before-clause-value
returns-else-start-before-clause-value g c =
    let node = c.in-Some.node.now in
    let end : c.down.end - c.len-before.result - 1 ≡ c.down.end - length node.left.items - 1 = omega arith in
    let here = ap (λ xs. slice_range xs c.down.start c.down.end) c.in-Some.ensures.0.items_are ∙ range-around node.left.items node.right.items node.item c.down.start c.down.end (omega arith) (omega arith) in
    rw (sym c.down.invariant.range ∙ here)
    (cc (
      measure_of-around g.met.T.Measure.Monoid.laws g.T.Measured.measured (drop c.down.start node.left.items)
          (take (c.down.end - length node.left.items - 1) node.right.items) node.item,
      c.suffix-left.ensures.value,
      c.prefix-right.ensures.value,
      c.around.ensures,
      end,
    ))

pub returns-else-start-before-clause-visits : goal.returns-else-start-before-clause-visits
returns-else-start-before-clause-visits g c = c.down.invariant.levels _
    (both_sides c.down.subtree.now c.in-Some.node.now c.down.steps c.root.new.steps c.in-Some.ensures.0 c.in-Some.ensures.1 _ _ c.suffix-left.ensures.visits
    c.prefix-right.ensures.visits)

pub returns-clause-visits : goal.returns-clause-visits
returns-clause-visits g c = c.down.invariant.levels c.down.steps (λ levels within. omega arith)

pub returns-in_default-clause-visits : goal.returns-in_default-clause-visits
returns-in_default-clause-visits g c = c.down.invariant.levels _ (λ levels within. omega (arith, c.in_default.ensures.1, c.between_in_leaf.ensures.visit))
