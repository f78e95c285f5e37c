use Rattle.std.proofs.Common.{refl, append-nil, sym}
use Rattle.timelines.proofs.AnsweredLine.{silent_command, told_by_one}
use Rattle.timelines.proofs.named_timeline.NamedTimeline.perform_other.Goals as goal

pub returns-in_ok-shift-in-Move-clause-told : goal.returns-in_ok-shift-in-Move-clause-told
returns-in_ok-shift-in-Move-clause-told g c =
    rw c.in-Move.is
    (told_by_one c.tell.result _ c.shift.new.self.timeline c.in_ok-shift-in-Move.field-0 c.args.answer.now c.tell.new.answer c.in_ok-shift-in-Move.ensures.ok
    c.tell.ensures.answer c.tell.ensures.refused)

pub returns-in_ok-change-in-Change-clause-told : goal.returns-in_ok-change-in-Change-clause-told
returns-in_ok-change-in-Change-clause-told g c =
    rw c.in-Change.is
    (told_by_one c.tell-in-Change.result _ c.change.new.self.timeline c.in_ok-change-in-Change.field-0 c.args.answer.now c.tell-in-Change.new.answer c.in_ok-change-in-Change.ensures.ok
    c.tell-in-Change.ensures.answer c.tell-in-Change.ensures.refused)

pub returns-in_ok-undo-in-Undo-clause-told : goal.returns-in_ok-undo-in-Undo-clause-told
returns-in_ok-undo-in-Undo-clause-told g c =
    rw c.in-Undo.is
    (told_by_one c.tell-in-Undo.result _ c.undo.new.self.timeline c.in_ok-undo-in-Undo.field-0 c.args.answer.now c.tell-in-Undo.new.answer c.in_ok-undo-in-Undo.ensures.ok
    c.tell-in-Undo.ensures.answer c.tell-in-Undo.ensures.refused)

pub returns-in_ok-redo-in-Redo-clause-told : goal.returns-in_ok-redo-in-Redo-clause-told
returns-in_ok-redo-in-Redo-clause-told g c =
    rw c.in-Redo.is
    (told_by_one c.tell-in-Redo.result _ c.redo.new.self.timeline c.in_ok-redo-in-Redo.field-0 c.args.answer.now c.tell-in-Redo.new.answer c.in_ok-redo-in-Redo.ensures.ok
    c.tell-in-Redo.ensures.answer c.tell-in-Redo.ensures.refused)

pub returns-in-Fate-clause-told : goal.returns-in-Fate-clause-told
returns-in-Fate-clause-told g c =
    rw (c.in-Fate.is, ← c.fate.ensures)
    (told_by_one c.tell-in-Fate.result _ c.args.self.now.timeline c.fate.result c.args.answer.now c.tell-in-Fate.new.answer refl c.tell-in-Fate.ensures.answer c.tell-in-Fate.ensures.refused)

pub returns-in_ok-save-in-Save-clause-told : goal.returns-in_ok-save-in-Save-clause-told
returns-in_ok-save-in-Save-clause-told g c =
    rw (c.in-Save.is, ← c.in_ok-save-in-Save.ensures.ok)
    (told_by_one c.tell-in-Save.result _ c.args.self.now.timeline c.in_ok-save-in-Save.field-0 c.args.answer.now c.tell-in-Save.new.answer refl c.tell-in-Save.ensures.answer
    c.tell-in-Save.ensures.refused)

pub returns-in_default-clause-told : goal.returns-in_default-clause-told
returns-in_default-clause-told g c =
    rw (silent_command c.args.self.now.timeline c.args.command.now c.in_default.not-Move c.in_default.not-Change c.in_default.not-Fate c.in_default.not-Undo c.in_default.not-Redo
    c.in_default.not-Save) (record { timeline = refl; answer = sym (append-nil c.args.answer.now); refused = refl })
