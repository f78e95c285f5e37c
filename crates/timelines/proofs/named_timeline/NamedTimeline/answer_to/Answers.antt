use Rattle.std.proofs.Common.{◌≡◌, true, false, sym, ◌∙◌, ap}
use Rattle.retro_base.specs.Questions.{suits}
use Rattle.reactions.specs.declared.outcome.Outcome.TheVariants.{Answered}
use Rattle.timelines.proofs.TimelineEffects.{answers_unsuited, answers_now}
use Rattle.timelines.proofs.named_timeline.NamedTimeline.answer_to.Goals as goal

pub returns-then-not-suits-clause-ok : goal.returns-then-not-suits-clause-ok
returns-then-not-suits-clause-ok g c =
    let unsuited : suits c.args.question (c.self.inside.session.kind) ≡ false = rw c.kind.ensures at (sym c.suits.ensures ∙ c.if-not-suits.true) in
    rw (← c.self.view_is) (sym (answers_unsuited _ c.args.moment c.args.question unsuited))

pub returns-in-Now-clause-ok : goal.returns-in-Now-clause-ok
returns-in-Now-clause-ok g c =
    let suited : suits c.args.question (c.self.inside.session.kind) ≡ true = rw c.kind.ensures at (sym c.suits.ensures ∙ c.if-not-suits.false) in
    rw (← c.self.view_is, c.in-Now.is) (ap (λ a. Answered a) c.ask_now.ensures ∙ sym (answers_now _ c.args.question suited))
