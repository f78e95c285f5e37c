use Rattle.std.proofs.Common.{refl}
use Rattle.reactions.specs.TimelineEffects.{answers, unchanged}
use Rattle.timelines.proofs.AnsweredLine.{other_command, told_by_one}
use Rattle.timelines.proofs.named_timeline.NamedTimeline.perform.Goals as goal

pub returns-in-Ask-clause-told : goal.returns-in-Ask-clause-told
returns-in-Ask-clause-told g c =
    rw (c.in-Ask.is, c.ask.ensures.unchanged)
    (told_by_one c.ask.result (unchanged c.args.self.now.timeline (answers c.args.self.now.timeline c.in-Ask.moment c.in-Ask.query)) c.args.self.now.timeline _ c.args.answer.now
    c.ask.new.answer refl c.ask.ensures.answer c.ask.ensures.refused)

pub returns-in_ok-insert-in-Insert-clause-told : goal.returns-in_ok-insert-in-Insert-clause-told
returns-in_ok-insert-in-Insert-clause-told g c =
    rw c.in-Insert.is
    (told_by_one c.tell.result _ c.insert.new.self.timeline c.in_ok-insert-in-Insert.field-0 c.args.answer.now c.tell.new.answer c.in_ok-insert-in-Insert.ensures.ok
    c.tell.ensures.answer c.tell.ensures.refused)

pub returns-in_ok-delete-in-Delete-clause-told : goal.returns-in_ok-delete-in-Delete-clause-told
returns-in_ok-delete-in-Delete-clause-told g c =
    rw c.in-Delete.is
    (told_by_one c.tell-in-Delete.result _ c.delete.new.self.timeline c.in_ok-delete-in-Delete.field-0 c.args.answer.now c.tell-in-Delete.new.answer c.in_ok-delete-in-Delete.ensures.ok
    c.tell-in-Delete.ensures.answer c.tell-in-Delete.ensures.refused)

pub returns-in_default-clause-told : goal.returns-in_default-clause-told
returns-in_default-clause-told g c =
    rw (other_command c.args.self.now.timeline c.args.command.now c.in_default.not-Ask c.in_default.not-Insert c.in_default.not-Delete) c.perform_other.ensures.told
