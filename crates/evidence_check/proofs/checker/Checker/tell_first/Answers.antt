use Rattle.std.proofs.Common.{◌≡◌, [], None, Some, length, ap, arith, inr, rules}
use Rattle.std.specs.Prelude.{◌⊎◌}
use Rattle.evidence_check.specs.declared.error.CheckError.TheVariants.{NoMemory}
use Rattle.evidence_check.specs.Judgement.{first_cause}
use Rattle.evidence_check.specs.Truth.{cause_of}
use Rattle.evidence_check.proofs.TellingLists.{cause_anew, judge_anew, one_too_many}
use Rattle.evidence_check.proofs.checker.Checker.tell_first.Goals as goal

pub returns-then-as_slice-ge-MAX_TIMELINES-clause-cause : goal.returns-then-as_slice-ge-MAX_TIMELINES-clause-cause
returns-then-as_slice-ge-MAX_TIMELINES-clause-cause c =
    inr (rw (← c.self.view_is)
    (one_too_many c.self.inside.reported.items c.args.evidence.now (rw (← c.self.view_is) at c.requires.fresh) (omega (arith, ap length c.as_slice.ensures.value))))

pub returns-in_err-take-clause-cause : goal.returns-in_err-take-clause-cause
returns-in_err-take-clause-cause c =
    let anew : first_cause c.args.self.now.reported c.args.evidence.now ≡ cause_of [] c.args.evidence.now =
    rw (← c.self.view_is)
    (cause_anew c.self.inside.reported.items c.args.evidence.now (rw (← c.self.view_is) at c.requires.fresh) (omega (arith, ap length c.as_slice.ensures.value))) in
    let cause : ((c.in_err-take.field-0.0 ≡ NoMemory) × (cause_of [] c.args.evidence.now ≡ None)) ⊎ (cause_of [] c.args.evidence.now ≡ Some c.in_err-take.field-0.0) =
    rw c.new-reported.ensures at c.in_err-take.ensures.cause in
    rw anew (search rules)

pub returns-clause-truth : goal.returns-clause-truth
returns-clause-truth c =
    rw (
      ← c.self.view_is,
      cause_anew c.self.inside.reported.items c.args.evidence.now (rw (← c.self.view_is) at c.requires.fresh) (omega (arith, ap length c.as_slice.ensures.value)),
    )
    (rw c.new-reported.ensures at c.in_ok-take.ensures.ok)

pub returns-clause-reported : goal.returns-clause-reported
returns-clause-reported c =
    rw (← c.self.view_is)
    (judge_anew c.self.inside.reported.items c.args.evidence.now (rw (← c.self.view_is) at c.requires.fresh) c.take.new.self c.push.new.self.items c.self.inside.accepted
    c.in_ok-push.ensures.items (rw c.new-reported.ensures at c.in_ok-take.ensures.rows))

pub returns-in_err-push-clause-cause : goal.returns-in_err-push-clause-cause
returns-in_err-push-clause-cause c =
    let truth : first_cause c.args.self.now.reported c.args.evidence.now ≡ None =
    rw (
      ← c.self.view_is,
      cause_anew c.self.inside.reported.items c.args.evidence.now (rw (← c.self.view_is) at c.requires.fresh) (omega (arith, ap length c.as_slice.ensures.value)),
    )
    (rw c.new-reported.ensures at c.in_ok-take.ensures.ok) in
    rw truth (search rules)
