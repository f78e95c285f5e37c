use Rattle.std.proofs.Common.{◌+◌, ◌-◌, ◌/◌, ◌∙◌, length, ap, arith, sym, refl}
use Rattle.std.proofs.lemmas.Option.{slice_get_read}
use Rattle.retro_base.specs.State.{comes_before}
use Rattle.pq_fusion.proofs.Begun.{among_upper, among_lower}
use Rattle.pq_fusion.proofs.chunks.begun_before.Goals as goal

pub halve-preserved-then-comes_before : goal.halve-preserved-then-comes_before
halve-preserved-then-comes_before g c =
    among_upper c.args.bound c.args.chunks.now c.halve.low c.halve.high c.args.steps.now c.halve.steps (c.halve.low + (c.halve.high - c.halve.low) / 2) c.index-chunks-middle.result _ c.halve.invariant
    c.halve-test.true refl
    (slice_get_read c.args.chunks.now (length c.args.chunks.now) (c.halve.low + (c.halve.high - c.halve.low) / 2) _ refl (omega (arith, c.halve.invariant.within, c.halve-test.true)) c.index-chunks-middle.is)
    c.requires.chunks c.tick.new.self c.tick.ensures
    (ap (λ e. comes_before e c.args.bound) (sym c.index.ensures) ∙ sym c.comes_before.ensures ∙ c.if-comes_before.true)

pub halve-preserved : goal.halve-preserved
halve-preserved g c =
    among_lower c.args.bound c.args.chunks.now c.halve.low c.halve.high c.args.steps.now c.halve.steps (c.halve.low + (c.halve.high - c.halve.low) / 2) c.index-chunks-middle.result _ c.halve.invariant
    c.halve-test.true refl
    (slice_get_read c.args.chunks.now (length c.args.chunks.now) (c.halve.low + (c.halve.high - c.halve.low) / 2) _ refl (omega (arith, c.halve.invariant.within, c.halve-test.true)) c.index-chunks-middle.is)
    c.requires.chunks c.tick.new.self c.tick.ensures
    (ap (λ e. comes_before e c.args.bound) (sym c.index.ensures) ∙ sym c.comes_before.ensures ∙ c.if-comes_before.false)
