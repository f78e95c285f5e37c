use Rattle.evidence_check.proofs.TellingLists.{cause_found, judge_found}
use Rattle.evidence_check.proofs.checker.Checker.tell.Goals as goal

pub returns-in-Some-clause-truth : goal.returns-in-Some-clause-truth
returns-in-Some-clause-truth c =
    rw (← c.self.view_is, cause_found c.self.inside.reported.items c.args.evidence.now c.in-Some.index c.index_mut.result.now (rw (← c.self.view_is) at c.in-Some.ensures) c.index_mut.ensures.value)
    c.take.ensures.ok

pub returns-in-Some-clause-reported : goal.returns-in-Some-clause-reported
returns-in-Some-clause-reported c =
    rw (← c.self.view_is)
    (judge_found c.self.inside.reported.items c.args.evidence.now c.in-Some.index c.index_mut.result.now (rw (← c.self.view_is) at c.in-Some.ensures) c.index_mut.ensures.value
    c.take.result c.take.new.self c.self.inside.accepted c.take.ensures.rows)

pub returns-in-Some-clause-cause : goal.returns-in-Some-clause-cause
returns-in-Some-clause-cause c =
    rw (← c.self.view_is, cause_found c.self.inside.reported.items c.args.evidence.now c.in-Some.index c.index_mut.result.now (rw (← c.self.view_is) at c.in-Some.ensures) c.index_mut.ensures.value)
    c.take.ensures.cause
