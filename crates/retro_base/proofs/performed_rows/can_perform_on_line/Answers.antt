use Rattle.std.proofs.Common.{◌≡◌, deque_len, length, rules, sym}
use Rattle.retro_base.proofs.PossibleSteps.{puts_possible, takes_possible, others_impossible}
use Rattle.retro_base.proofs.performed_rows.can_perform_on_line.Goals as goal

pub returns-in-Enq : goal.returns-in-Enq
returns-in-Enq c = sym (puts_possible _ _ _ c.in-Enq.is)

pub returns-in-Deq : goal.returns-in-Deq
returns-in-Deq c =
    let counted : deque_len c.args.line.now ≡ length c.args.line.now.items = search rules in
    takes_possible _ _ _ _ c.in-Deq.is (rw counted at c.is_empty.ensures)

pub returns-in-Put : goal.returns-in-Put
returns-in-Put c = sym (others_impossible _ _ _ c.in-Put.is)
