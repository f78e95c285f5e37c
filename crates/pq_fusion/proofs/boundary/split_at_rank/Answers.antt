use Rattle.std.proofs.Common.{◌≡◌, ◌-◌, ◌≤◌, ◌∙◌, true, false, ap, arith, length, min, subst, sym}
use Rattle.retro_base.specs.EntriesInOrder.{AreInOrder}
use Rattle.pq_fusion.proofs.Sought.{IsSplitting, other_falls, own_falls, split_by_first, split_by_second, split_visits, splitting_before, splitting_behind, splitting_other_before, splitting_other_behind, splitting_starts, is_closed}
use Rattle.pq_fusion.proofs.boundary.split_at_rank.Goals as goal
use Rattle.pq_fusion.proofs.boundary.split_at_rank.Goals.{then-halve-test+else-is_open, else-halve-test}

pub halve-init : goal.halve-init
halve-init g c =
    let first_length = c.len-own_len.ensures.count ∙ ap length (sym c.lent-first.ensures.entries) in
    let second_length = c.len-other_len.ensures.count ∙ ap length (sym c.lent-second.ensures.entries) in
    splitting_starts c.lent-first.result.chunks.now c.lent-second.result.chunks.now c.lent-first.result.starts.now c.lent-second.result.starts.now c.args.rank c.between-own.result c.between-other.result c.args.steps.now
    (subst AreInOrder (sym c.lent-first.ensures.entries) c.len-own_len.ensures.order) (subst AreInOrder (sym c.lent-second.ensures.entries) c.len-other_len.ensures.order)
    (omega (arith, c.requires.within, first_length, second_length, c.len-own_len.ensures.count, c.len-other_len.ensures.count)) c.lent-first.ensures.lent c.lent-second.ensures.lent c.between-own.ensures.interval c.between-other.ensures.interval
    (c.between-own.ensures.low ∙ c.saturating_sub.ensures ∙ ap (λ n. c.args.rank - n) second_length) (c.between-own.ensures.high ∙ c.min.ensures ∙ ap (min c.args.rank) first_length)
    (c.between-other.ensures.low ∙ c.saturating_sub-2.ensures ∙ ap (λ n. c.args.rank - n) first_length) (c.between-other.ensures.high ∙ c.min-2.ensures ∙ ap (min c.args.rank) second_length)

pub halve-preserved-then-one-two : goal.halve-preserved-then-one-two
halve-preserved-then-one-two g c =
    subst (λ w. IsSplitting c.lent-first.result.chunks.now c.lent-second.result.chunks.now c.args.rank w c.halve.other c.args.steps.now c.tick.new.self) (sym c.before-own.ensures)
    (splitting_before c.lent-first.result.chunks.now c.lent-second.result.chunks.now c.args.rank c.halve.own c.halve.other c.args.steps.now c.halve.steps c.tick.new.self c.middle-one.result c.middle-two.result
    (subst AreInOrder (sym c.lent-first.ensures.entries) c.len-own_len.ensures.order) (subst AreInOrder (sym c.lent-second.ensures.entries) c.len-other_len.ensures.order)
    c.halve.invariant c.middle-one.ensures c.middle-two.ensures c.tick.ensures (sym c.comes_before.ensures ∙ c.if-comes_before.true) c.if-one-two.true)

pub halve-preserved-else-one-two : goal.halve-preserved-else-one-two
halve-preserved-else-one-two g c =
    subst (λ w. IsSplitting c.lent-first.result.chunks.now c.lent-second.result.chunks.now c.args.rank c.halve.own w c.args.steps.now c.tick.new.self) (sym c.behind-other.ensures)
    (splitting_other_behind c.lent-first.result.chunks.now c.lent-second.result.chunks.now c.args.rank c.halve.own c.halve.other c.args.steps.now c.halve.steps c.tick.new.self c.middle-one.result c.middle-two.result
    (subst AreInOrder (sym c.lent-first.ensures.entries) c.len-own_len.ensures.order) (subst AreInOrder (sym c.lent-second.ensures.entries) c.len-other_len.ensures.order)
    c.halve.invariant c.middle-one.ensures c.middle-two.ensures c.tick.ensures (sym c.comes_before.ensures ∙ c.if-comes_before.true) c.if-one-two.false)

pub halve-preserved-then-one-two-2 : goal.halve-preserved-then-one-two-2
halve-preserved-then-one-two-2 g c =
    subst (λ w. IsSplitting c.lent-first.result.chunks.now c.lent-second.result.chunks.now c.args.rank c.halve.own w c.args.steps.now c.tick.new.self) (sym c.before-other.ensures)
    (splitting_other_before c.lent-first.result.chunks.now c.lent-second.result.chunks.now c.args.rank c.halve.own c.halve.other c.args.steps.now c.halve.steps c.tick.new.self c.middle-one.result c.middle-two.result
    (subst AreInOrder (sym c.lent-first.ensures.entries) c.len-own_len.ensures.order) (subst AreInOrder (sym c.lent-second.ensures.entries) c.len-other_len.ensures.order)
    c.halve.invariant c.middle-one.ensures c.middle-two.ensures c.tick.ensures (sym c.comes_before.ensures ∙ c.if-comes_before.false) c.if-one-two-2.true)

pub halve-preserved : goal.halve-preserved
halve-preserved g c =
    subst (λ w. IsSplitting c.lent-first.result.chunks.now c.lent-second.result.chunks.now c.args.rank w c.halve.other c.args.steps.now c.tick.new.self) (sym c.behind-own.ensures)
    (splitting_behind c.lent-first.result.chunks.now c.lent-second.result.chunks.now c.args.rank c.halve.own c.halve.other c.args.steps.now c.halve.steps c.tick.new.self c.middle-one.result c.middle-two.result
    (subst AreInOrder (sym c.lent-first.ensures.entries) c.len-own_len.ensures.order) (subst AreInOrder (sym c.lent-second.ensures.entries) c.len-other_len.ensures.order)
    c.halve.invariant c.middle-one.ensures c.middle-two.ensures c.tick.ensures (sym c.comes_before.ensures ∙ c.if-comes_before.false) c.if-one-two-2.false)

pub halve-smaller-then-one-two : goal.halve-smaller-then-one-two
halve-smaller-then-one-two g c = own_falls c.halve.own _ c.halve.other c.before-own.result c.before-own.ensures c.middle-one.ensures.before_half

pub halve-smaller-else-one-two : goal.halve-smaller-else-one-two
halve-smaller-else-one-two g c = other_falls c.halve.own c.halve.other _ c.behind-other.result c.behind-other.ensures c.middle-two.ensures.behind_half

pub halve-smaller-then-one-two-2 : goal.halve-smaller-then-one-two-2
halve-smaller-then-one-two-2 g c = other_falls c.halve.own c.halve.other _ c.before-other.result c.before-other.ensures c.middle-two.ensures.before_half

pub halve-smaller : goal.halve-smaller
halve-smaller g c = own_falls c.halve.own _ c.halve.other c.behind-own.result c.behind-own.ensures c.middle-one.ensures.behind_half

pub overflow_sub-result : goal.overflow_sub-result
overflow_sub-result g c = omega (arith, c.halve.invariant.sought.other_from, c.halve.invariant.sought.split.sum)

pub returns-then-is_open-2 : goal.returns-then-is_open-2
returns-then-is_open-2 g c =
    let over = elim c.halve-test.branch as (λ _. c.halve.other.high ≤ c.halve.other.low) [
      | then-halve-test+else-is_open w ↦ is_closed c.halve.other w.is_open-in-halve.result w.is_open-in-halve.ensures w.if-is_open.false
      | else-halve-test w ↦ let wrong : false ≡ true = sym w.halve-test.false ∙ c.is_open.ensures ∙ sym c.is_open-2.ensures ∙ c.if-is_open-2.true in absurd (cc)
    ] in
    let split = split_by_second c.lent-first.result.chunks.now c.lent-second.result.chunks.now c.args.first.now c.args.second.now c.args.rank c.halve.own c.halve.other c.args.steps.now c.halve.steps
    c.lent-first.ensures.entries c.lent-second.ensures.entries c.halve.invariant over in
    record {
      within = omega arith;
      first = split.first;
      second = split.second;
      lesser = split.lesser;
      greater = split.greater;
      visits = split_visits c.lent-first.result.chunks.now c.lent-second.result.chunks.now c.args.first.now c.args.second.now c.args.rank c.halve.own c.halve.other c.args.steps.now c.halve.steps
          c.lent-first.ensures.entries c.lent-second.ensures.entries c.halve.invariant;
    }

pub returns-else-is_open-2 : goal.returns-else-is_open-2
returns-else-is_open-2 g c =
    let split = split_by_first c.lent-first.result.chunks.now c.lent-second.result.chunks.now c.args.first.now c.args.second.now c.args.rank c.halve.own c.halve.other c.args.steps.now c.halve.steps
    c.lent-first.ensures.entries c.lent-second.ensures.entries c.halve.invariant (is_closed c.halve.own c.is_open-2.result c.is_open-2.ensures c.if-is_open-2.false) in
    record {
      within = omega (arith, c.halve.invariant.sought.from, c.halve.invariant.sought.split.sum);
      first = split.first;
      second = split.second;
      lesser = split.lesser;
      greater = split.greater;
      visits = split_visits c.lent-first.result.chunks.now c.lent-second.result.chunks.now c.args.first.now c.args.second.now c.args.rank c.halve.own c.halve.other c.args.steps.now c.halve.steps
          c.lent-first.ensures.entries c.lent-second.ensures.entries c.halve.invariant;
    }
