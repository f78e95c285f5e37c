use Rattle.std.proofs.Common.{rules}
use Rattle.std.proofs.lemmas.Int.{to_z-of_z}
use Rattle.retro_base.specs.State.{perform}
use Rattle.retro_base.specs.lemmas.CountedLines.{last_out}
use Rattle.retro_base.proofs.LineSteps.{first_taken_by, no_operation_of_a_line}
use Rattle.retro_base.proofs.line.perform_on_line.Goals as goal

pub returns-in_ok-push_back-in-Enq-clause-ok : goal.returns-in_ok-push_back-in-Enq-clause-ok
unfolding perform
returns-in_ok-push_back-in-Enq-clause-ok c = rw c.in-Enq.is (search (rules, to_z-of_z, c.in_ok-push_back-in-Enq.ensures.items))

pub returns-in_ok-push_back-in-PushR-clause-ok : goal.returns-in_ok-push_back-in-PushR-clause-ok
unfolding perform
returns-in_ok-push_back-in-PushR-clause-ok c = rw c.in-PushR.is (search (rules, to_z-of_z, c.in_ok-push_back-in-PushR.ensures.items))

pub returns-in_ok-push_front-in-Push-clause-ok : goal.returns-in_ok-push_front-in-Push-clause-ok
unfolding perform
returns-in_ok-push_front-in-Push-clause-ok c = rw c.in-Push.is (search (rules, to_z-of_z, c.in_ok-push_front-in-Push.ensures.items))

pub returns-in_ok-push_front-in-PushL-clause-ok : goal.returns-in_ok-push_front-in-PushL-clause-ok
unfolding perform
returns-in_ok-push_front-in-PushL-clause-ok c = rw c.in-PushL.is (search (rules, to_z-of_z, c.in_ok-push_front-in-PushL.ensures.items))

pub returns-in-Deq-clause-ok : goal.returns-in-Deq-clause-ok
unfolding perform
returns-in-Deq-clause-ok c = first_taken_by _ _ _ _ c.in-Deq.is c.requires c.pop_front.ensures.rest

pub returns-in-PopR-clause-ok : goal.returns-in-PopR-clause-ok
unfolding perform
returns-in-PopR-clause-ok c = rw c.in-PopR.is (last_out _ _ (rw c.in-PopR.is at c.requires) (search rules))

pub unreachable-requires : goal.unreachable-requires
unfolding perform
unreachable-requires c = no_operation_of_a_line _ _ _ c.in-Put.is c.requires
