-- Edits that can be made one after another.
use Rattle.std.proofs.Common.{◌≡◌, ℕ, ap, ◌∙◌, ◌+◌, ◌<◌, ◌≤◌, List, [], ◌∷◌, ◌++◌, append_assoc, map, arith}
use Rattle.std.proofs.lemmas.List.{reverse-append}
use Rattle.retro_base.specs.declared.kind.Kind.{Kind}
use Rattle.retro_base.specs.declared.row.Row.{Row}
use Rattle.retro_base.specs.Limits.{next_limit}
use Rattle.retro_base.specs.Edits.{Edit, Step, edited, edited_by, inverse, inverse_step, IsWithin}
use Rattle.retro_base.specs.OrderLaws.{all_weaker}
use Rattle.retro_base.specs.Timeline.{IsTimeline}
use Rattle.timeline_undo.specs.declared.turn.Turns.{Turns}
use Rattle.timeline_undo.specs.declared.turn.Turns.TheVariants.{Single, Double}
use Rattle.timeline_undo.specs.KeptSteps.{AreReady, CanBeMadeInTurn, taken_back}
use Rattle.timeline_undo.specs.Session.{edit_reported, step_reported}
use Rattle.timeline_undo.proofs.Edits.{inverse_twice}
use Rattle.retro_base.specs.EditedLists.{can_go_back, there_and_back}

-- a timeline is one still where another number comes next
pub timeline_later : (kind : Kind) (rows : List Row) (next : ℕ) → next < next_limit → IsTimeline kind rows next → IsTimeline kind rows (next + 1)
timeline_later kind rows next below timeline = record {
  replayable = timeline.replayable;
  in_order = timeline.in_order;
  numbered = all_weaker (λ r. (1 ≤ r.number) × (r.number < next)) (λ r. (1 ≤ r.number) × (r.number < next + 1)) rows
      (λ r h. (h.0, omega (arith, h.1))) timeline.numbered;
  next_in_range = (omega (arith, timeline.next_in_range.0), omega arith);
}

pub in_turn_later : (kind : Kind) (next : ℕ) (rows : List Row) (edits : List Edit) → next < next_limit
    → CanBeMadeInTurn kind next rows edits → CanBeMadeInTurn kind (next + 1) rows edits
in_turn_later kind next rows [] below turn = tt
in_turn_later kind next rows (edit ∷ more) below turn = (
  record { within = turn.0.within; timeline = timeline_later kind (edited rows edit) next below turn.0.timeline },
  in_turn_later kind next (edited rows edit) more below turn.1,
)

-- the first of them can be made without the others
pub in_turn_first : (kind : Kind) (next : ℕ) (rows : List Row) (first others : List Edit)
    → CanBeMadeInTurn kind next rows (first ++ others) → CanBeMadeInTurn kind next rows first
in_turn_first kind next rows [] others turn = tt
in_turn_first kind next rows (edit ∷ first) others turn = (turn.0, in_turn_first kind next (edited rows edit) first others turn.1)

-- the others can be made after them
pub in_turn_others : (kind : Kind) (next : ℕ) (rows : List Row) (first others : List Edit)
    → CanBeMadeInTurn kind next rows (first ++ others) → CanBeMadeInTurn kind next (edited_by rows first) others
in_turn_others kind next rows [] others turn = turn
in_turn_others kind next rows (edit ∷ first) others turn = in_turn_others kind next (edited rows edit) first others turn.1

-- after an edit it can be taken back, and then what could be made before it can be redone
pub in_turn_back : (kind : Kind) (next : ℕ) (rows : List Row) (edit : Edit) (more : List Edit) → IsWithin rows edit
    → IsTimeline kind rows next → CanBeMadeInTurn kind next rows more → CanBeMadeInTurn kind next (edited rows edit) (inverse edit ∷ more)
in_turn_back kind next rows edit more within timeline turn =
    let back = there_and_back rows edit within in
    (record { within = can_go_back rows edit within; timeline = rw back timeline }, rw back turn)

-- and so it is after a step
pub step_back : (kind : Kind) (next : ℕ) (rows : List Row) (step : Step) (more : List Edit) → IsTimeline kind rows next
    → CanBeMadeInTurn kind next rows step → CanBeMadeInTurn kind next rows more
    → CanBeMadeInTurn kind next (edited_by rows step) (inverse_step step ++ more)
step_back kind next rows [] more timeline made turn = turn
step_back kind next rows (edit ∷ step) more timeline made turn =
    let same : inverse_step (edit ∷ step) ++ more ≡ inverse_step step ++ inverse edit ∷ more =
    ap (λ edits. edits ++ more) (reverse-append (inverse edit ∷ []) (map inverse step))
    ∙ append_assoc (inverse_step step) (inverse edit ∷ []) more in
    rw same (step_back kind next (edited rows edit) step (inverse edit ∷ more) made.0.timeline made.1
    (in_turn_back kind next rows edit more made.0.within timeline turn))

-- the rows after them are a timeline
pub timeline_after : (kind : Kind) (next : ℕ) (rows : List Row) (edits : List Edit) → IsTimeline kind rows next
    → CanBeMadeInTurn kind next rows edits → IsTimeline kind (edited_by rows edits) next
timeline_after kind next rows [] timeline turn = timeline
timeline_after kind next rows (edit ∷ more) timeline turn = timeline_after kind next (edited rows edit) more turn.0.timeline turn.1

-- they are ready to be made
pub ready : (kind : Kind) (next : ℕ) (rows : List Row) (edits : List Edit) → CanBeMadeInTurn kind next rows edits → AreReady kind rows edits
ready kind next rows [] turn = tt
ready kind next rows (edit ∷ more) turn =
    (turn.0.within, turn.0.timeline.in_order, turn.0.timeline.replayable, ready kind next (edited rows edit) more turn.1)

-- a step that is taken back twice
inverse_step_twice : (turns : Turns) → inverse_step (taken_back turns) ≡ step_reported turns
inverse_step_twice (Single turn) = ap (λ e. e ∷ []) (inverse_twice (edit_reported turn))
inverse_step_twice (Double first second) =
    ap (λ e. e ∷ inverse (inverse (edit_reported second)) ∷ []) (inverse_twice (edit_reported first))
    ∙ ap (λ e. edit_reported first ∷ e ∷ []) (inverse_twice (edit_reported second))

pub back_twice : (told last : Turns) → step_reported told ≡ taken_back last → taken_back told ≡ step_reported last
back_twice told last is = ap inverse_step is ∙ inverse_step_twice last
