-- A session stays one after each of its calls.
use Rattle.std.proofs.Common.{◌≡◌, ℕ, ◌+◌, ◌-◌, List, [], ◌∷◌, ◌++◌, length, take, drop, slice_get, Option, Some, None, sym, ◌∙◌, ap, subst, arith}
use Rattle.std.proofs.lemmas.List.{length-append}
use Rattle.circular_buffer.specs.Buffer.{Buffer, buffer, keep_last}
use Rattle.retro_base.specs.declared.kind.Kind.{Kind}
use Rattle.retro_base.specs.declared.row.Row.{Row}
use Rattle.retro_base.specs.Limits.{most_steps}
use Rattle.retro_base.specs.Edits.{Step, edited_by, inverse_step}
use Rattle.retro_base.specs.Kind.{kind_of}
use Rattle.retro_base.specs.Replay.{failure, IsValid}
use Rattle.retro_base.specs.ReplayableLaws.{replayable_with, replayable_without}
use Rattle.retro_base.specs.Timeline.{IsFresh, IsTimeline}
use Rattle.retro_base.specs.TimelineLaws.{next_is_fresh, timeline_with, timeline_without}
use Rattle.std.specs.List.{insert, remove}
use Rattle.timeline_undo.specs.declared.turn.Turns.{Turns}
use Rattle.timeline_undo.specs.declared.edit.Interrupted.{Interrupted}
use Rattle.timeline_undo.specs.declared.edit.Interrupted.TheVariants.{AtOnce, Midway}
use Rattle.timeline_undo.specs.Session.{SessionState, CanStand, HasRoom, IsSpentWithin, spent_with, step_reported}
use Rattle.timeline_undo.specs.KeptSteps.{edits_back, taken_back, CanBeMadeInTurn, IsLeftMidway, IsSession}
use Rattle.timeline_undo.proofs.InTurn.{in_turn_first, in_turn_others, step_back, timeline_after}
use Rattle.timeline_undo.proofs.Rings.{up_to_newest, edits_back-more, edits_back-kept, few_kept}

-- an accepted insert leaves a timeline, and so does an accepted delete
pub insert_leads : (kind : Kind) (performed rows : List Row) (next place : ℕ) (row : Row) (failing : Option ℕ) → performed ≡ rows → IsTimeline kind rows next
    → CanStand rows place row.time → HasRoom rows next → kind_of row.op ≡ kind → row.number ≡ next
    → failing ≡ failure kind (insert performed place row) → failing ≡ None → IsTimeline kind (insert rows place row) (next + 1)
insert_leads kind performed rows next place row failing same timeline stands room of_kind drawn first none =
    let valid : IsValid kind (insert rows place row) = rw same at (sym first ∙ none) in
    let fresh : IsFresh row.number rows = rw drawn (next_is_fresh kind rows next timeline) in
    timeline_with kind rows next place row timeline room.1 drawn stands.1
    (replayable_with kind rows place row timeline.replayable room.0 stands.0 fresh of_kind valid)

pub delete_leads : (kind : Kind) (performed rows : List Row) (next place : ℕ) (failing : Option ℕ) → performed ≡ rows → IsTimeline kind rows next
    → failing ≡ failure kind (remove performed place) → failing ≡ None → IsTimeline kind (remove rows place) next
delete_leads kind performed rows next place failing same timeline first none =
    let valid : IsValid kind (remove rows place) = rw same at (sym first ∙ none) in
    timeline_without kind rows next place timeline (replayable_without kind rows place timeline.replayable valid)

-- the newest step of a ring can be taken back, and then those before it
pub newest_stands : (kind : Kind) (next : ℕ) (rows : List Row) (told : List Turns) (last : Turns) → slice_get told (length told - 1) ≡ Some last
    → CanBeMadeInTurn kind next rows (edits_back told)
    → CanBeMadeInTurn kind next rows (taken_back last ++ edits_back (take (length told - 1) told))
newest_stands kind next rows told last there turn =
    subst (CanBeMadeInTurn kind next rows) (ap edits_back (sym (up_to_newest told last there)) ∙ edits_back-more (take (length told - 1) told) last) turn

-- so it can be without them
pub newest_can : (kind : Kind) (next : ℕ) (rows : List Row) (told : List Turns) (last : Turns) → slice_get told (length told - 1) ≡ Some last
    → CanBeMadeInTurn kind next rows (edits_back told) → CanBeMadeInTurn kind next rows (taken_back last)
newest_can kind next rows told last there turn =
    in_turn_first kind next rows (taken_back last) (edits_back (take (length told - 1) told)) (newest_stands kind next rows told last there turn)

-- there is one in the ring
some_there : (told : List Turns) (last : Turns) → slice_get told (length told - 1) ≡ Some last → length (take (length told - 1) told) + 1 ≡ length told
some_there told last there =
    sym (length-append (take (length told - 1) told) (last ∷ [])) ∙ ap length (up_to_newest told last there)

-- a step that was made and told can be taken back, and then what could be undone or redone before it
told_stands : (kind : Kind) (next : ℕ) (rows : List Row) (ring : List Turns) (told : Turns) (step : Step) → step_reported told ≡ step
    → IsTimeline kind rows next → CanBeMadeInTurn kind next rows step → CanBeMadeInTurn kind next rows (edits_back ring)
    → CanBeMadeInTurn kind next (edited_by rows step) (edits_back (ring ++ told ∷ []))
told_stands kind next rows ring told step is timeline made turn =
    rw (edits_back-more ring told)
    (subst (λ s. CanBeMadeInTurn kind next (edited_by rows step) (inverse_step s ++ edits_back ring)) (sym is)
    (step_back kind next rows step (edits_back ring) timeline made turn))

-- after an accepted step that was noted
pub session_noted : (kind : Kind) (performed rows : List Row) (next : ℕ) (undo redo : Buffer Turns) (told : Turns) (step : Step)
    → undo.capacity ≡ most_steps → redo.capacity ≡ most_steps → step_reported told ≡ step → performed ≡ edited_by rows step
    → IsTimeline kind rows next → CanBeMadeInTurn kind next rows step → CanBeMadeInTurn kind next rows (edits_back undo.items)
    → IsSession kind performed (edited_by rows step) next
    (buffer (keep_last undo.capacity (undo.items ++ told ∷ [])) undo.capacity) (buffer [] redo.capacity)
session_noted kind performed rows next undo redo told step undo_room redo_room is same before made turn =
    let all = undo.items ++ told ∷ [] in
    let dropped = length all - undo.capacity in
    let back = told_stands kind next rows undo.items told step is before made turn in record {
      same = same;
      timeline = timeline_after kind next rows step before made;
      undo_room = undo_room;
      redo_room = redo_room;
      few = omega (arith, few_kept undo.capacity all, undo_room);
      undoable = in_turn_first kind next _ (edits_back (drop dropped all)) (edits_back (take dropped all)) (rw (edits_back-kept dropped all) back);
      redoable = tt;
    }

-- after a step that met out of memory after its first edit
pub session_spent : (kind : Kind) (performed rows : List Row) (next : ℕ) (undo redo : Buffer Turns)
    → undo.capacity ≡ most_steps → redo.capacity ≡ most_steps → performed ≡ rows → IsTimeline kind rows next
    → IsSession kind performed rows next (buffer [] undo.capacity) (buffer [] redo.capacity)
session_spent kind performed rows next undo redo undo_room redo_room same timeline = record {
  same = same;
  timeline = timeline;
  undo_room = undo_room;
  redo_room = redo_room;
  few = omega arith;
  undoable = tt;
  redoable = tt;
}

-- in its first edit all is as before
pub at_once : (before after : List Row) (step : Step) (place : Interrupted) → place ≡ AtOnce → IsLeftMidway before step after place → after ≡ before
at_once before after step AtOnce is left = left
at_once before after step Midway is left = absurd (cc)

-- after its first edit the rows are a timeline
pub midway_timeline : (kind : Kind) (next : ℕ) (rows after : List Row) (edits : Step) (place : Interrupted) → CanBeMadeInTurn kind next rows edits
    → place ≡ Midway → IsLeftMidway rows edits after place → IsTimeline kind after next
midway_timeline kind next rows after edits AtOnce turn is left = absurd (cc)
midway_timeline kind next rows after [] Midway turn is left = absurd left
midway_timeline kind next rows after (edit ∷ []) Midway turn is left = absurd left
midway_timeline kind next rows after (first ∷ second ∷ more) Midway turn is left = rw left turn.0.timeline

-- and the session is spent
pub midway_spent : (before : SessionState) (after : List Row) (next : ℕ) (edits : Step) (place : Interrupted) → place ≡ Midway
    → IsLeftMidway before.rows edits after place → IsSpentWithin before edits next (spent_with before after next)
midway_spent before after next edits AtOnce is left = absurd (cc)
midway_spent before after next [] Midway is left = left
midway_spent before after next (edit ∷ []) Midway is left = left
midway_spent before after next (first ∷ second ∷ more) Midway is left = ap (λ rows. spent_with before rows next) left

-- after an undo
pub session_undone : (kind : Kind) (old performed rows : List Row) (next : ℕ) (undo redo : Buffer Turns) (last told : Turns)
    → IsSession kind old rows next undo redo → slice_get undo.items (length undo.items - 1) ≡ Some last
    → step_reported told ≡ taken_back last → performed ≡ edited_by rows (taken_back last)
    → IsSession kind performed (edited_by rows (taken_back last)) next
    (buffer (take (length undo.items - 1) undo.items) undo.capacity) (buffer (redo.items ++ told ∷ []) redo.capacity)
session_undone kind old performed rows next undo redo last told session there is same =
    let made = newest_can kind next rows undo.items last there session.undoable in record {
      same = same;
      timeline = timeline_after kind next rows (taken_back last) session.timeline made;
      undo_room = session.undo_room;
      redo_room = session.redo_room;
      few = omega (arith, session.few, some_there undo.items last there, length-append redo.items (told ∷ []));
      undoable = in_turn_others kind next rows (taken_back last) (edits_back (take (length undo.items - 1) undo.items))
          (newest_stands kind next rows undo.items last there session.undoable);
      redoable = told_stands kind next rows redo.items told (taken_back last) is session.timeline made session.redoable;
    }

-- the two rings are alike
exchanged : (kind : Kind) (performed rows : List Row) (next : ℕ) (undo redo : Buffer Turns) → IsSession kind performed rows next undo redo
    → IsSession kind performed rows next redo undo
exchanged kind performed rows next undo redo session = record {
  same = session.same;
  timeline = session.timeline;
  undo_room = session.redo_room;
  redo_room = session.undo_room;
  few = omega (arith, session.few);
  undoable = session.redoable;
  redoable = session.undoable;
}

-- after a redo
pub session_redone : (kind : Kind) (old performed rows : List Row) (next : ℕ) (undo redo : Buffer Turns) (last told : Turns)
    → IsSession kind old rows next undo redo → slice_get redo.items (length redo.items - 1) ≡ Some last
    → step_reported told ≡ taken_back last → performed ≡ edited_by rows (taken_back last)
    → IsSession kind performed (edited_by rows (taken_back last)) next
    (buffer (undo.items ++ told ∷ []) undo.capacity) (buffer (take (length redo.items - 1) redo.items) redo.capacity)
session_redone kind old performed rows next undo redo last told session there is same =
    exchanged kind performed (edited_by rows (taken_back last)) next
    (buffer (take (length redo.items - 1) redo.items) redo.capacity) (buffer (undo.items ++ told ∷ []) undo.capacity)
    (session_undone kind old performed rows next redo undo last told (exchanged kind old rows next undo redo session) there is same)
