use Rattle.std.proofs.Common.{◌-◌, ap, sym, ◌∙◌, arith, drop}
use Rattle.weighted_tree.specs.Sides.{seen_from}
use Rattle.weighted_tree.proofs.Appended.{drop_beyond}
use Rattle.weighted_tree.proofs.Boundaries.{carried}
use Rattle.weighted_tree.proofs.BothBoundaries.{joined_from, near_turns, far_turns, none_turns}
use Rattle.weighted_tree.proofs.SeenFrom.{laws_from, length-seen}
use Rattle.weighted_tree.proofs.search.boundary_in_both.Goals as goal

pub returns-then-from-count-clause-sought : goal.returns-then-from-count-clause-sought
returns-then-from-count-clause-sought g c =
    let laws = laws_from g.met.T.Measure.Monoid.laws c.args.side in
    let near = seen_from c.args.side c.args.near.now.items in
    let far = seen_from c.args.side c.args.far.now.items in
    let size = length-seen c.args.side c.args.near.now.items in
    let beyond = drop_beyond near far c.args.from (omega (arith, size)) ∙ ap (λ n. drop (c.args.from - n) far) (size ∙ sym c.len-count.ensures.count) in
    carried laws g.T.Measured.measured g.T.Measure.Monoid.unit_value g.F.Fn c.args.test.now _ _ _ _ beyond (omega arith) _ c.boundary_from.ensures.sought

pub returns-in-Found-clause-sought : goal.returns-in-Found-clause-sought
returns-in-Found-clause-sought g c =
    let laws = laws_from g.met.T.Measure.Monoid.laws c.args.side in
    let parts = joined_from c.args.side c.args.near.now.items c.args.far.now.items c.args.from (omega arith) in
    near_turns laws g.T.Measured.measured g.T.Measure.Monoid.unit_value g.F.Fn c.args.test.now parts _ c.in-Found.ensures.sought

pub returns-then-passes-clause-sought : goal.returns-then-passes-clause-sought
returns-then-passes-clause-sought g c =
    let laws = laws_from g.met.T.Measure.Monoid.laws c.args.side in
    let parts = joined_from c.args.side c.args.near.now.items c.args.far.now.items c.args.from (omega arith) in
    far_turns laws g.T.Measured.measured g.T.Measure.Monoid.unit_value g.F.Fn c.args.test.now parts _ c.in-Open.ensures.sought _ _
    c.passed-all.ensures.value c.passes.ensures c.if-passes.true _ c.boundary_within.ensures.boundary _ (omega arith)

pub returns-else-passes-clause-sought : goal.returns-else-passes-clause-sought
returns-else-passes-clause-sought g c =
    let laws = laws_from g.met.T.Measure.Monoid.laws c.args.side in
    let parts = joined_from c.args.side c.args.near.now.items c.args.far.now.items c.args.from (omega arith) in
    none_turns laws g.T.Measured.measured g.T.Measure.Monoid.unit_value g.F.Fn c.args.test.now parts _ c.in-Open.ensures.sought _ _
    c.passed-all.ensures.value c.passes.ensures c.if-passes.false (omega (arith, c.in-Open.ensures.sought.end.1))
