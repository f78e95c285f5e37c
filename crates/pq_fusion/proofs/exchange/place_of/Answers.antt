use Rattle.std.proofs.Common.{◌+◌, ◌-◌, ◌/◌, arith, sym, refl, subst}
use Rattle.pq_fusion.proofs.Searched.{IsNarrowed, narrowed_starts, narrowed_upper, narrowed_lower, narrowed_visits}
use Rattle.pq_fusion.proofs.Turns.{narrowed_place}
use Rattle.pq_fusion.proofs.exchange.place_of.Goals as goal

pub halve-init : goal.halve-init
halve-init g c = narrowed_starts c.args.entry c.args.list.now c.args.steps.now

pub halve-preserved-then-comes_before : goal.halve-preserved-then-comes_before
halve-preserved-then-comes_before g c =
    subst (IsNarrowed c.args.entry c.args.list.now (c.halve.low + (c.halve.high - c.halve.low) / 2 + 1) c.halve.high c.args.steps.now) (sym c.tick.ensures)
    (narrowed_upper c.args.entry c.args.list.now c.halve.low c.halve.high c.args.steps.now c.halve.steps (c.halve.low + (c.halve.high - c.halve.low) / 2) _
    c.requires.order c.halve.invariant c.halve-test.true refl (sym c.if-comes_before.ensures))

pub halve-preserved : goal.halve-preserved
halve-preserved g c =
    subst (IsNarrowed c.args.entry c.args.list.now c.halve.low (c.halve.low + (c.halve.high - c.halve.low) / 2) c.args.steps.now) (sym c.tick.ensures)
    (narrowed_lower c.args.entry c.args.list.now c.halve.low c.halve.high c.args.steps.now c.halve.steps (c.halve.low + (c.halve.high - c.halve.low) / 2) _
    c.requires.order c.halve.invariant c.halve-test.true refl (sym c.if-comes_before.ensures))

pub returns-clause-place : goal.returns-clause-place
returns-clause-place g c = narrowed_place c.args.entry c.args.list.now c.halve.low c.halve.high c.args.steps.now c.halve.steps c.halve.invariant (omega (arith, c.halve-test.false))

pub returns-clause-visits : goal.returns-clause-visits
returns-clause-visits g c = narrowed_visits c.args.entry c.args.list.now c.halve.low c.halve.high c.args.steps.now c.halve.steps c.halve.invariant
