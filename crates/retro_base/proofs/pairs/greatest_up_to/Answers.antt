use Rattle.std.proofs.Common.{rules, w64, SFits}
use Rattle.std.proofs.lemmas.Int.{to_z-of_z}
use Rattle.retro_base.proofs.PairSteps.{turn_found, turn_passed_over}
use Rattle.retro_base.proofs.pairs.greatest_up_to.Goals as goal

pub loop-other-preserved : goal.loop-other-preserved
loop-other-preserved c =
    let fits : SFits w64 c.in-Some.other.now = search rules in
    let fails = simp to_z-of_z at c.if-other-key.false in
    turn_passed_over _ _ _ _ _ _ c.in-Some.ensures.steps fails c.loop-other.invariant

pub loop-other-preserved-then-other-key : goal.loop-other-preserved-then-other-key
loop-other-preserved-then-other-key c =
    let fits : SFits w64 c.in-Some.other.now = search rules in
    let value_fits : SFits w64 c.in-Some.value.now = search rules in
    let passes = simp to_z-of_z at c.if-other-key.true in
    simp to_z-of_z (turn_found _ _ _ _ _ _ c.in-Some.ensures.steps passes c.loop-other.invariant)
