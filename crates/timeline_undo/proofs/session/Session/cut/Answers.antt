use Rattle.std.proofs.Common.{[], ◌∷◌, ap, refl, ◌∙◌}
use Rattle.retro_base.specs.Edits.{cut}
use Rattle.timeline_undo.proofs.Rings.{steps-recorded}
use Rattle.timeline_undo.proofs.Sessions.{delete_leads, session_noted}
use Rattle.timeline_undo.proofs.session.Session.cut.Goals as goal

pub take_from_both-requires-clause-replayable : goal.take_from_both-requires-clause-replayable
take_from_both-requires-clause-replayable g c =
    (delete_leads _ _ _ _ c.args.place _ c.self.invariant.same c.self.invariant.timeline c.failure_after_remove.ensures.first c.in_default.is).replayable

pub invariant_of-self-2 : goal.invariant_of-self-2
invariant_of-self-2 g c =
    rw (c.in_ok-turn.ensures.kind, c.in_ok-turn.ensures.rows, c.note.ensures.undo, c.note.ensures.redo)
    (session_noted _ _ c.self.inside.timeline c.self.inside.next c.self.inside.undo c.self.inside.redo _ (cut c.args.place c.in_ok-turn.turn.row ∷ [])
    c.self.invariant.undo_room c.self.invariant.redo_room (ap (λ edit. edit ∷ []) c.in_ok-turn.ensures.reported)
    (c.in_ok-turn.ensures.same ∙ c.in_ok-turn.ensures.rows) c.self.invariant.timeline (
      record {
        within = c.in_ok-turn.ensures.row;
        timeline = delete_leads _ _ _ _ c.args.place _ c.self.invariant.same c.self.invariant.timeline c.failure_after_remove.ensures.first c.in_default.is;
      },
      tt,
    )
    c.self.invariant.undoable)

pub returns-clause-session : goal.returns-clause-session
returns-clause-session g c =
    rw (← c.self.view_is, c.in_ok-turn.ensures.kind, c.in_ok-turn.ensures.rows, c.note.ensures.undo, c.note.ensures.redo, c.self.invariant.undo_room)
    (rw (steps-recorded c.self.inside.undo.items _, c.in_ok-turn.ensures.reported) refl)
