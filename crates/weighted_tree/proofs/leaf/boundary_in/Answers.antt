use Rattle.std.proofs.Common.{◌+◌, ◌-◌, ap, ◌∙◌, arith, drop, length}
use Rattle.std.proofs.lemmas.Option.{get_or_from_slice_get}
use Rattle.weighted_tree.specs.Sides.{seen_from, join_from}
use Rattle.weighted_tree.proofs.Leaves.{take_next, start_passed, start_turns, open_passed, next_passed, next_turns}
use Rattle.weighted_tree.proofs.SeenFrom.{laws_from, length-seen}
use Rattle.weighted_tree.proofs.leaf.boundary_in.Goals as goal

pub returns-then-passes : goal.returns-then-passes
returns-then-passes g c = start_turns (laws_from g.met.T.Measure.Monoid.laws c.args.side) g.T.Measured.measured g.F.Fn c.args.test.now c.args.before
    (drop c.args.from (seen_from c.args.side c.args.items.now)) _ _ c.passes.ensures c.if-passes.true

pub on-init : goal.on-init
on-init g c = record {
  passed = start_passed (laws_from g.met.T.Measure.Monoid.laws c.args.side) g.T.Measured.measured g.F.Fn c.args.test.now c.args.before
      (drop c.args.from (seen_from c.args.side c.args.items.now)) _ _ c.passes.ensures c.if-passes.false 0 (omega arith);
  within = omega arith;
}

pub returns-then-passes-2 : goal.returns-then-passes-2
returns-then-passes-2 g c =
    let seen = seen_from c.args.side c.args.items.now in
    let x = c.item_from-item.result in
    let longer = take_next seen c.args.from c.on.count x x (omega (arith, length-seen c.args.side c.args.items.now)) (get_or_from_slice_get seen (c.args.from + c.on.count) x x c.item_from-item.ensures) in
    next_turns (laws_from g.met.T.Measure.Monoid.laws c.args.side) g.T.Measured.measured g.F.Fn c.args.test.now c.args.before (drop c.args.from seen)
    (length c.args.items.now - c.args.from) c.on.count c.on.passed c.on.invariant.passed x c.join-passed.result _ (omega arith) longer
    (g.met.T.Measured.single x) (c.join-passed.ensures.value ∙ ap (join_from c.args.side g.T.Measure.Monoid.joined c.on.passed) c.measure.ensures)
    c.passes-in-on.ensures c.if-passes-2.true

pub on-preserved : goal.on-preserved
on-preserved g c =
    let seen = seen_from c.args.side c.args.items.now in
    let x = c.item_from-item.result in
    let longer = take_next seen c.args.from c.on.count x x (omega (arith, length-seen c.args.side c.args.items.now)) (get_or_from_slice_get seen (c.args.from + c.on.count) x x c.item_from-item.ensures) in
    record {
      passed = next_passed (laws_from g.met.T.Measure.Monoid.laws c.args.side) g.T.Measured.measured g.F.Fn c.args.test.now c.args.before
          (drop c.args.from seen) (length c.args.items.now - c.args.from) c.on.count c.on.passed c.on.invariant.passed x c.join-passed.result _
          (omega arith) longer (g.met.T.Measured.single x) (c.join-passed.ensures.value
          ∙ ap (join_from c.args.side g.T.Measure.Monoid.joined c.on.passed) c.measure.ensures) c.passes-in-on.ensures c.if-passes-2.false;
      within = omega arith;
    }

pub returns : goal.returns
returns g c = open_passed (laws_from g.met.T.Measure.Monoid.laws c.args.side) g.T.Measured.measured g.F.Fn c.args.test.now c.args.before
    (drop c.args.from (seen_from c.args.side c.args.items.now)) (length c.args.items.now - c.args.from) c.on.count c.on.passed c.on.invariant.passed
    (omega arith)
