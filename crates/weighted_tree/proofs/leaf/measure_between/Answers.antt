use Rattle.std.proofs.Common.{rules, ap, arith}
use Rattle.weighted_tree.proofs.Leaves.{range_next}
use Rattle.weighted_tree.proofs.leaf.measure_between.Goals as goal

pub on-preserved : goal.on-preserved
on-preserved g c =
    let laws = g.met.T.Measure.Monoid.laws in
    let x = c.index-items-end.result in
    let next = range_next laws g.T.Measured.measured c.args.items.now c.args.from c.on.end x c.on.invariant.above (omega arith) (search rules) in
    record {
      value = cc (next, c.join-joined.ensures, c.measure.ensures, c.on.invariant.value);
      items = omega (
        arith,
        ap g.T.Measure.Monoid.items_of c.join-joined.ensures,
        ap g.T.Measure.Monoid.items_of c.measure.ensures,
        laws.join_items c.on.joined c.measure.result,
        g.met.T.Measured.single x,
        c.on.invariant.items,
      );
      above = omega arith;
      within = omega arith;
    }
