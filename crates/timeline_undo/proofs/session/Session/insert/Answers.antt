use Rattle.std.proofs.Common.{◌+◌, [], ◌∷◌, ap, refl, ◌∙◌}
use Rattle.retro_base.specs.Edits.{add}
use Rattle.timeline_undo.proofs.InTurn.{in_turn_later, timeline_later}
use Rattle.timeline_undo.proofs.Rings.{steps-recorded}
use Rattle.timeline_undo.proofs.Sessions.{insert_leads, session_noted}
use Rattle.timeline_undo.proofs.session.Session.insert.Goals as goal

pub put_in_both-requires-clause-in_order : goal.put_in_both-requires-clause-in_order
put_in_both-requires-clause-in_order g c =
    (insert_leads _ _ _ _ c.args.place _ _ c.self.invariant.same c.self.invariant.timeline (rw (← c.self.view_is) at c.requires.stands)
    (rw (← c.self.view_is) at c.requires.room) (rw (← c.self.view_is) at c.requires.of_kind) refl
    (c.failure_after_insert.ensures.first _ refl) c.in_default.is).in_order

pub put_in_both-requires-clause-replayable : goal.put_in_both-requires-clause-replayable
put_in_both-requires-clause-replayable g c =
    (insert_leads _ _ _ _ c.args.place _ _ c.self.invariant.same c.self.invariant.timeline (rw (← c.self.view_is) at c.requires.stands)
    (rw (← c.self.view_is) at c.requires.room) (rw (← c.self.view_is) at c.requires.of_kind) refl
    (c.failure_after_insert.ensures.first _ refl) c.in_default.is).replayable

pub invariant_of-self-2 : goal.invariant_of-self-2
invariant_of-self-2 g c =
    let room = rw (← c.self.view_is) at c.requires.room in
    let stands = rw (← c.self.view_is) at c.requires.stands in
    rw (c.in_ok-turn.ensures.kind, c.in_ok-turn.ensures.rows, c.note.ensures.undo, c.note.ensures.redo)
    (session_noted _ _ c.self.inside.timeline (c.self.inside.next + 1) c.self.inside.undo c.self.inside.redo _
    (add c.args.place (record { number = c.self.inside.next; time = c.args.time; op = c.args.op }) ∷ [])
    c.self.invariant.undo_room c.self.invariant.redo_room (ap (λ edit. edit ∷ []) c.in_ok-turn.ensures.reported)
    (c.in_ok-turn.ensures.same ∙ c.in_ok-turn.ensures.rows)
    (timeline_later _ _ _ room.1 c.self.invariant.timeline) (
      record {
        within = stands.0;
        timeline = insert_leads _ _ _ _ c.args.place _ _ c.self.invariant.same c.self.invariant.timeline stands room
            (rw (← c.self.view_is) at c.requires.of_kind) refl
            (c.failure_after_insert.ensures.first _ refl) c.in_default.is;
      },
      tt,
    )
    (in_turn_later _ _ _ _ room.1 c.self.invariant.undoable))

pub returns-clause-session : goal.returns-clause-session
returns-clause-session g c =
    rw (← c.self.view_is, c.in_ok-turn.ensures.kind, c.in_ok-turn.ensures.rows, c.note.ensures.undo, c.note.ensures.redo, c.self.invariant.undo_room)
    (rw (steps-recorded c.self.inside.undo.items _, c.in_ok-turn.ensures.reported) refl)
