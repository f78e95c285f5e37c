use Rattle.std.proofs.Common.{◌≡◌, Some, None, sym, ◌∙◌, ap}
use Rattle.reactions.specs.declared.outcome.Outcome.TheVariants.{Answered}
use Rattle.reactions.specs.TimelineEffects.{position_of}
use Rattle.timelines.specs.Kept.{named}
use Rattle.timelines.proofs.Memory.{never_refused}
use Rattle.timelines.proofs.TimelineEffects.{answers_there, answers_nowhere}
use Rattle.timelines.proofs.named_timeline.NamedTimeline.answer_at.Goals as goal

pub returns-in_ok-answer-in-Some-clause-ok : goal.returns-in_ok-answer-in-Some-clause-ok
returns-in_ok-answer-in-Some-clause-ok g c =
    let there : position_of c.args.spot c.self.inside.session.rows ≡ Some c.in-Some.position = rw c.timeline.ensures.rows at (sym c.position_of.ensures.position ∙ c.in-Some.is) in
    rw (← c.self.view_is)
    (ap (λ a. Answered a) c.in_ok-answer-in-Some.ensures.answer
    ∙ sym (answers_there _ c.args.spot c.args.question c.in-Some.position (rw (← c.self.view_is) at c.requires.suited) there))

pub returns-in-None-clause-ok : goal.returns-in-None-clause-ok
returns-in-None-clause-ok g c =
    let nowhere : position_of c.args.spot c.self.inside.session.rows ≡ None = rw c.timeline.ensures.rows at (sym c.position_of.ensures.position ∙ c.in-None.is) in
    rw (← c.self.view_is, c.row_named.ensures)
    (sym (answers_nowhere _ c.args.spot c.args.question (rw (← c.self.view_is) at c.requires.suited) nowhere))

pub returns-in_err-answer-in-Some-clause-memory : goal.returns-in_err-answer-in-Some-clause-memory
returns-in_err-answer-in-Some-clause-memory g c =
    let there : position_of c.args.spot c.self.inside.session.rows ≡ Some c.in-Some.position = rw c.timeline.ensures.rows at (sym c.position_of.ensures.position ∙ c.in-Some.is) in
    rw (← c.self.view_is)
    (rw (answers_there (named c.self.inside.name c.self.inside.session) c.args.spot c.args.question c.in-Some.position (rw (← c.self.view_is) at c.requires.suited) there) (never_refused c.from_residual.result))
