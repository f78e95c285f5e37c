use Rattle.std.proofs.Common.{ap, sym, ◌∙◌, length, arith, rules, w64, SFits}
use Rattle.std.proofs.lemmas.Int.{ints, to_z-of_z}
use Rattle.std.proofs.lemmas.List.{length_push}
use Rattle.retro_base.proofs.PairSteps.{turn_added, turn_passed}
use Rattle.retro_base.proofs.pairs.sum_between.Goals as goal

pub overflow_add-sum : goal.overflow_add-sum
overflow_add-sum c = omega (arith, ints, c.loop-key.invariant.above, c.loop-key.invariant.below, c.loop-key.invariant.place, c.iter-key-items.ensures.fits)

pub loop-key-preserved-then-lies_between : goal.loop-key-preserved-then-lies_between
loop-key-preserved-then-lies_between c =
    let fits : SFits w64 c.in-Some.key.now = search rules in
    let value_fits : SFits w64 c.in-Some.value.now = search rules in
    let inside = simp to_z-of_z at (sym c.lies_between.ensures ∙ c.if-lies_between.true) in
    let value_is = simp to_z-of_z at c.from-sum.ensures in
    record {
      exact = turn_added _ _ _ _ _ _ _ _ c.in-Some.ensures.steps c.loop-key.invariant.exact _ inside
          (omega (
            arith,
            ints,
            value_is,
            c.loop-key.invariant.above,
            c.loop-key.invariant.below,
            c.loop-key.invariant.place,
            c.iter-key-items.ensures.fits,
            ap length c.in-Some.ensures.steps,
            length_push c.loop-key.yielded (c.in-Some.key, c.in-Some.value),
          ));
      above = omega (
        arith,
        ints,
        value_is,
        c.loop-key.invariant.above,
        c.loop-key.invariant.below,
        c.loop-key.invariant.place,
        c.iter-key-items.ensures.fits,
        ap length c.in-Some.ensures.steps,
        length_push c.loop-key.yielded (c.in-Some.key, c.in-Some.value),
      );
      below = omega (
        arith,
        ints,
        value_is,
        c.loop-key.invariant.above,
        c.loop-key.invariant.below,
        c.loop-key.invariant.place,
        c.iter-key-items.ensures.fits,
        ap length c.in-Some.ensures.steps,
        length_push c.loop-key.yielded (c.in-Some.key, c.in-Some.value),
      );
      place = omega (arith, length_push c.loop-key.yielded (c.in-Some.key, c.in-Some.value), ap length c.in-Some.ensures.steps, c.loop-key.invariant.place);
    }

pub loop-key-preserved : goal.loop-key-preserved
loop-key-preserved c =
    let fits : SFits w64 c.in-Some.key.now = search rules in
    let outside = simp to_z-of_z at (sym c.lies_between.ensures ∙ c.if-lies_between.false) in
    record {
      exact = turn_passed _ _ _ _ _ _ _ _ c.in-Some.ensures.steps c.loop-key.invariant.exact outside;
      above = omega (arith, ints, c.loop-key.invariant.above, length_push c.loop-key.yielded (c.in-Some.key, c.in-Some.value));
      below = omega (arith, ints, c.loop-key.invariant.below, length_push c.loop-key.yielded (c.in-Some.key, c.in-Some.value));
      place = omega (arith, length_push c.loop-key.yielded (c.in-Some.key, c.in-Some.value), ap length c.in-Some.ensures.steps, c.loop-key.invariant.place);
    }
