use Rattle.std.proofs.Common.{◌≡◌, ◌-◌, arith, subst, sym}
use Rattle.std.specs.Prelude.{Some, slice_get}
use Rattle.pq_fusion.proofs.Parts.{earlier_there, later_there}
use Rattle.pq_fusion.proofs.Searched.{step_left, step_right}
use Rattle.pq_fusion.proofs.subtree.Subtree.+row_at.Goals as goal

pub returns-then-place-before-clause-visits : goal.returns-then-place-before-clause-visits
returns-then-place-before-clause-visits g t c = λ levels within.
    step_left c.args.self.now.rows c.in-Pair.pair.now c.in-Pair.ensures levels _ _ _ within c.tick.ensures c.row_at.ensures.visits

pub returns-else-place-before-clause-visits : goal.returns-else-place-before-clause-visits
returns-else-place-before-clause-visits g t c = λ levels within.
    step_right c.args.self.now.rows c.in-Pair.pair.now c.in-Pair.ensures levels _ _ _ within c.tick.ensures c.row_at-in-Pair.ensures.visits

pub returns-then-place-before-clause-row : goal.returns-then-place-before-clause-row
returns-then-place-before-clause-row g t c =
    let pair = c.in-Pair.pair.now in
    subst (λ rows. slice_get rows c.args.place ≡ Some c.row_at.result) (sym c.in-Pair.ensures.rows_are)
    (earlier_there pair.earlier.rows pair.later.rows c.args.place c.row_at.result (omega (arith, c.if-place-before.true, c.len-before.ensures.count)) c.row_at.ensures.row)

pub returns-else-place-before-clause-row : goal.returns-else-place-before-clause-row
returns-else-place-before-clause-row g t c =
    let pair = c.in-Pair.pair.now in
    subst (λ rows. slice_get rows c.args.place ≡ Some c.row_at-in-Pair.result) (sym c.in-Pair.ensures.rows_are)
    (later_there pair.earlier.rows pair.later.rows c.args.place c.row_at-in-Pair.result (omega (arith, c.if-place-before.false, c.len-before.ensures.count))
    (subst (λ n. slice_get pair.later.rows (c.args.place - n) ≡ Some c.row_at-in-Pair.result) c.len-before.ensures.count c.row_at-in-Pair.ensures.row))
