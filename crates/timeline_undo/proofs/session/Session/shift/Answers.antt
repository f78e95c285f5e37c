use Rattle.std.proofs.Common.{◌+◌, Some, inl, inr, ap, refl, sym, ◌∙◌, subst}
use Rattle.std.specs.Option.{option_map}
use Rattle.timeline_undo.specs.Session.{IsSpentWithin, spent_with}
use Rattle.timeline_undo.specs.declared.error.EditError.TheVariants.{Fails, NoMemory}
use Rattle.retro_base.specs.Shift.{shift_of}
use Rattle.timeline_undo.specs.Replaced.{step_of_replacement}
use Rattle.timeline_undo.proofs.InTurn.{in_turn_later, ready, timeline_later}
use Rattle.timeline_undo.proofs.Rings.{steps-recorded}
use Rattle.timeline_undo.proofs.Sessions.{at_once, midway_spent, midway_timeline, session_noted, session_spent}
use Rattle.timeline_undo.proofs.Shifts.{edits_are_shift, edits_stand, fails_first, may_shift, names_failing, none_failing, replaces_by, seen, two_turns, unmade}
use Rattle.timeline_undo.proofs.session.Session.shift.Goals as goal

pub failing_after-requires-clause-replaces : goal.failing_after-requires-clause-replaces
failing_after-requires-clause-replaces g c =
    replaces_by _ _ c.self.inside.next c.args.target c.args.place c.row_at-old.result c.of-replacement.result
    (may_shift _ _ _ c.args.target _ _ c.self.invariant.timeline (rw (← c.self.view_is) at c.requires.room)
    (rw (← c.self.view_is) at c.requires.of_kind) c.row_at-old.ensures)
    c.of-replacement.ensures

pub returns-in-Some-clause-err : goal.returns-in-Some-clause-err
returns-in-Some-clause-err g c =
    let kind = g.R.Retro.kind c.self.inside.structure in
    let before = seen kind c.self.inside.timeline c.self.inside.next c.self.inside.undo c.self.inside.redo c.self.inside.spent in
    rw (← c.self.view_is, c.fails_at.ensures)
    (unmade before before c.args.target c.args.place c.row_at-old.result (Fails c.in-Some.failing.number c.in-Some.failing.time) c.row_at-old.ensures
    (fails_first _ _ c.in-Some.failing
    (sym (names_failing _ _ c.self.inside.next c.args.target c.args.place c.row_at-old.result c.of-replacement.result c.failing_after.result
    (may_shift _ _ _ c.args.target _ _ c.self.invariant.timeline (rw (← c.self.view_is) at c.requires.room)
    (rw (← c.self.view_is) at c.requires.of_kind) c.row_at-old.ensures)
    c.of-replacement.ensures c.failing_after.ensures) ∙ c.in-Some.is)) refl)

pub make-requires-clause-ready : goal.make-requires-clause-ready
make-requires-clause-ready g c =
    ready _ (c.self.inside.next + 1) _ (step_of_replacement c.of-replacement.result)
    (edits_stand _ _ c.self.inside.next c.args.target c.args.place c.row_at-old.result c.of-replacement.result c.failing_after.result
    (may_shift _ _ _ c.args.target _ _ c.self.invariant.timeline (rw (← c.self.view_is) at c.requires.room)
    (rw (← c.self.view_is) at c.requires.of_kind) c.row_at-old.ensures)
    c.of-replacement.ensures c.failing_after.ensures c.in_default.is)

pub invariant_of-self : goal.invariant_of-self
invariant_of-self g c =
    let room = rw (← c.self.view_is) at c.requires.room in
    rw (c.in-Ok.ensures.kind, c.in-Ok.ensures.rows, c.note.ensures.undo, c.note.ensures.redo)
    (session_noted _ _ c.self.inside.timeline (c.self.inside.next + 1) c.self.inside.undo c.self.inside.redo c.in-Ok.turns (step_of_replacement c.of-replacement.result)
    c.self.invariant.undo_room c.self.invariant.redo_room c.in-Ok.ensures.reported
    (c.in-Ok.ensures.same ∙ c.in-Ok.ensures.rows) (timeline_later _ _ _ room.1 c.self.invariant.timeline)
    (edits_stand _ _ c.self.inside.next c.args.target c.args.place c.row_at-old.result c.of-replacement.result c.failing_after.result
    (may_shift _ _ _ c.args.target _ _ c.self.invariant.timeline (rw (← c.self.view_is) at c.requires.room)
    (rw (← c.self.view_is) at c.requires.of_kind) c.row_at-old.ensures)
    c.of-replacement.ensures c.failing_after.ensures c.in_default.is)
    (in_turn_later _ _ _ _ room.1 c.self.invariant.undoable))

pub invariant_of-self-in-Err-Midway : goal.invariant_of-self-in-Err-Midway
invariant_of-self-in-Err-Midway g c =
    rw (c.in-Err-Midway.ensures.kind, c.forget.ensures.undo, c.forget.ensures.redo)
    (session_spent _ _ _ _ c.self.inside.undo c.self.inside.redo c.self.invariant.undo_room c.self.invariant.redo_room c.in-Err-Midway.ensures.same
    (midway_timeline _ (c.self.inside.next + 1) c.self.inside.timeline _ (step_of_replacement c.of-replacement.result) c.in-Err-Midway.field-0
    (edits_stand _ _ c.self.inside.next c.args.target c.args.place c.row_at-old.result c.of-replacement.result c.failing_after.result
    (may_shift _ _ _ c.args.target _ _ c.self.invariant.timeline (rw (← c.self.view_is) at c.requires.room)
    (rw (← c.self.view_is) at c.requires.of_kind) c.row_at-old.ensures)
    c.of-replacement.ensures c.failing_after.ensures c.in_default.is)
    c.in-Err-Midway.field-0-is c.in-Err-Midway.ensures.err))

pub returns-in-Ok-clause-double : goal.returns-in-Ok-clause-double
returns-in-Ok-clause-double g c = two_turns c.of-replacement.result c.in-Ok.turns c.in-Ok.ensures.reported

pub returns-in-Ok-clause-step : goal.returns-in-Ok-clause-step
returns-in-Ok-clause-step g c =
    rw (← c.self.view_is)
    (ap (option_map (shift_of c.self.inside.timeline c.args.target c.self.inside.next c.args.place)) c.row_at-old.ensures
    ∙ ap (λ s. Some s) (sym (c.in-Ok.ensures.reported ∙ edits_are_shift _ c.args.target c.self.inside.next c.args.place c.row_at-old.result
    c.of-replacement.result c.self.invariant.timeline.in_order c.row_at-old.ensures c.of-replacement.ensures)))

pub returns-in-Ok-clause-session : goal.returns-in-Ok-clause-session
returns-in-Ok-clause-session g c =
    rw (← c.self.view_is, c.in-Ok.ensures.kind, c.in-Ok.ensures.rows, c.note.ensures.undo, c.note.ensures.redo, c.self.invariant.undo_room)
    (rw (steps-recorded c.self.inside.undo.items _, c.in-Ok.ensures.reported) refl)

pub returns-in-Err-AtOnce-clause-err : goal.returns-in-Err-AtOnce-clause-err
returns-in-Err-AtOnce-clause-err g c =
    let kind = g.R.Retro.kind c.self.inside.structure in
    let before = seen kind c.self.inside.timeline c.self.inside.next c.self.inside.undo c.self.inside.redo c.self.inside.spent in
    let same = at_once c.self.inside.timeline c.make.new.timeline (step_of_replacement c.of-replacement.result) c.in-Err-AtOnce.field-0
    c.in-Err-AtOnce.field-0-is c.in-Err-AtOnce.ensures.err in
    rw (← c.self.view_is, c.in-Err-AtOnce.ensures.kind, same)
    (unmade before before c.args.target c.args.place c.row_at-old.result NoMemory c.row_at-old.ensures
    (none_failing _ _ c.self.inside.next c.args.target c.args.place c.row_at-old.result c.of-replacement.result c.failing_after.result
    (may_shift _ _ _ c.args.target _ _ c.self.invariant.timeline (rw (← c.self.view_is) at c.requires.room)
    (rw (← c.self.view_is) at c.requires.of_kind) c.row_at-old.ensures)
    c.of-replacement.ensures c.failing_after.ensures c.in_default.is) (inl refl))

pub returns-in-Err-Midway-clause-err : goal.returns-in-Err-Midway-clause-err
returns-in-Err-Midway-clause-err g c =
    let kind = g.R.Retro.kind c.self.inside.structure in
    let before = seen kind c.self.inside.timeline c.self.inside.next c.self.inside.undo c.self.inside.redo c.self.inside.spent in
    let after = spent_with before c.make.new.timeline (c.self.inside.next + 1) in
    rw (← c.self.view_is, c.in-Err-Midway.ensures.kind, c.forget.ensures.undo, c.forget.ensures.redo)
    (unmade before after c.args.target c.args.place c.row_at-old.result NoMemory c.row_at-old.ensures
    (none_failing _ _ c.self.inside.next c.args.target c.args.place c.row_at-old.result c.of-replacement.result c.failing_after.result
    (may_shift _ _ _ c.args.target _ _ c.self.invariant.timeline (rw (← c.self.view_is) at c.requires.room)
    (rw (← c.self.view_is) at c.requires.of_kind) c.row_at-old.ensures)
    c.of-replacement.ensures c.failing_after.ensures c.in_default.is)
    (inr (subst (λ step. IsSpentWithin before step (c.self.inside.next + 1) after)
    (edits_are_shift _ c.args.target c.self.inside.next c.args.place c.row_at-old.result c.of-replacement.result
    c.self.invariant.timeline.in_order c.row_at-old.ensures c.of-replacement.ensures)
    (midway_spent before c.make.new.timeline (c.self.inside.next + 1) (step_of_replacement c.of-replacement.result) c.in-Err-Midway.field-0 c.in-Err-Midway.field-0-is c.in-Err-Midway.ensures.err))))
