use Rattle.std.proofs.Common.{◌+◌, ◌-◌, ◌/◌, ◌∙◌, length, ap, arith, refl, sym}
use Rattle.std.proofs.lemmas.Option.{slice_get_read}
use Rattle.retro_base.specs.State.{comes_before}
use Rattle.pq_fusion.proofs.Chunked.{halved_down, halved_starts, halved_up}
use Rattle.pq_fusion.proofs.Turns.{turning_ends, turning_next, turning_starts}
use Rattle.pq_fusion.proofs.chunk_edits.home.Goals as goal

pub halve-init : goal.halve-init
halve-init g c = record {
  halved = halved_starts c.args.entry c.args.chunks.now c.requires.some;
  turning = turning_starts (length c.args.chunks.now) (length c.args.chunks.now - 1) c.args.steps.now (omega arith);
}

pub halve-preserved-then-comes_before : goal.halve-preserved-then-comes_before
halve-preserved-then-comes_before g c =
    let halved = c.halve.invariant.halved in record {
      halved = halved_down c.args.entry c.args.chunks.now c.halve.low c.halve.high _ c.index-chunks-middle.result c.index.result.now halved (omega arith) (omega (arith, c.halve-test.true))
          (slice_get_read c.args.chunks.now (length c.args.chunks.now) _ _ refl (omega (arith, halved.within, c.halve-test.true)) c.index-chunks-middle.is) c.requires.chunks
          (ap (comes_before c.args.entry) (sym c.index.ensures) ∙ sym c.comes_before.ensures ∙ c.if-comes_before.true);
      turning = turning_next _ (c.halve.high - c.halve.low) c.args.steps.now c.halve.steps _ c.tick.new.self (omega (arith, c.halve-test.true)) (omega arith) c.tick.ensures c.halve.invariant.turning;
    }

pub halve-preserved : goal.halve-preserved
halve-preserved g c =
    let halved = c.halve.invariant.halved in record {
      halved = halved_up c.args.entry c.args.chunks.now c.halve.low c.halve.high (c.halve.low + (c.halve.high - c.halve.low) / 2) c.index-chunks-middle.result c.index.result.now halved (omega arith) (omega (arith, c.halve-test.true))
          (slice_get_read c.args.chunks.now (length c.args.chunks.now) _ _ refl (omega (arith, halved.within, c.halve-test.true)) c.index-chunks-middle.is) c.requires.chunks
          (ap (comes_before c.args.entry) (sym c.index.ensures) ∙ sym c.comes_before.ensures ∙ c.if-comes_before.false);
      turning = turning_next _ (c.halve.high - c.halve.low) c.args.steps.now c.halve.steps _ c.tick.new.self (omega (arith, c.halve-test.true)) (omega (arith, c.halve-test.true)) c.tick.ensures c.halve.invariant.turning;
    }

pub returns-clause-visits : goal.returns-clause-visits
returns-clause-visits g c = turning_ends _ (c.halve.high - c.halve.low) c.args.steps.now c.halve.steps c.halve.invariant.turning
