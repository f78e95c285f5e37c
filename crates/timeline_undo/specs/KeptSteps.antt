-- What a session keeps, and why each of its steps can be undone or redone.
use Rattle.std.specs.Prelude.{◌≡◌, ℕ, ◌+◌, ◌≤◌, List, [], ◌∷◌, map, reverse, length}
use Rattle.std.specs.List.{flat_map}
use Rattle.circular_buffer.specs.Buffer.{Buffer}
use Rattle.retro_base.specs.declared.kind.Kind.{Kind}
use Rattle.retro_base.specs.declared.row.Row.{Row}
use Rattle.retro_base.specs.Limits.{most_steps}
use Rattle.retro_base.specs.Edits.{Edit, Step, edited, inverse_step, IsWithin}
use Rattle.retro_base.specs.Timeline.{IsReplayable, IsTimeline, TimesNeverFall}
use Rattle.timeline_undo.specs.declared.edit.Interrupted.{Interrupted}
use Rattle.timeline_undo.specs.declared.edit.Interrupted.TheVariants.{AtOnce, Midway}
use Rattle.timeline_undo.specs.declared.turn.Turns.{Turns}
use Rattle.timeline_undo.specs.Session.{step_reported}

-- the step that takes back what turns tell
abbrev pub taken_back : Turns → Step
taken_back turns = inverse_step (step_reported turns)

-- the steps that can be undone, of a ring that keeps them as they were told
abbrev pub steps_of : List Turns → List Step
steps_of told = map step_reported told

-- the steps that can be redone, of a ring that keeps what their undos told
abbrev pub undone_steps_of : List Turns → List Step
undone_steps_of told = map taken_back told

-- the edit can be made in these rows, and leaves a timeline
pub record CanBeMadeIn (kind : Kind) (next : ℕ) (rows : List Row) (edit : Edit) : Type 0 where
  pub within : IsWithin rows edit
  pub timeline : IsTimeline kind (edited rows edit) next

-- the edits can be made one after another, and each leaves a timeline
abbrev pub CanBeMadeInTurn : Kind → ℕ → List Row → List Edit → Type 0
CanBeMadeInTurn kind next rows [] = Unit {0}
CanBeMadeInTurn kind next rows (edit ∷ more) = CanBeMadeIn kind next rows edit × CanBeMadeInTurn kind next (edited rows edit) more

-- the same without a look at the number that comes next
abbrev pub AreReady : Kind → List Row → List Edit → Type 0
AreReady kind rows [] = Unit {0}
AreReady kind rows (edit ∷ more) =
    IsWithin rows edit × TimesNeverFall (edited rows edit) × IsReplayable kind (edited rows edit) × AreReady kind (edited rows edit) more

-- what is left where a step met out of memory: all as before, or the rows after its first edit where another one follows
abbrev pub IsLeftMidway : List Row → Step → List Row → Interrupted → Type 0
IsLeftMidway before step after AtOnce = after ≡ before
IsLeftMidway before [] after Midway = ⊥
IsLeftMidway before (edit ∷ []) after Midway = ⊥
IsLeftMidway before (first ∷ second ∷ more) after Midway = after ≡ edited before first

-- the edits that take the steps of a ring back, those of the newest step first
abbrev pub edits_back : List Turns → List Edit
edits_back told = flat_map taken_back (reverse told)

-- the structure performs the rows of the timeline; the rings have room, and what they keep can be undone and redone
pub record IsSession (kind : Kind) (performed rows : List Row) (next : ℕ) (undo redo : Buffer Turns) : Type 0 where
  pub same : performed ≡ rows
  pub timeline : IsTimeline kind rows next
  pub undo_room : undo.capacity ≡ most_steps
  pub redo_room : redo.capacity ≡ most_steps
  pub few : length undo.items + length redo.items ≤ most_steps
  pub undoable : CanBeMadeInTurn kind next rows (edits_back undo.items)
  pub redoable : CanBeMadeInTurn kind next rows (edits_back redo.items)
