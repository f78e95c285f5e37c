-- What one timeline makes of an edit and of a question.
use Rattle.std.specs.Prelude.{ℕ, suc, ◌+◌, nat_le, List, [], ◌∷◌, drop, length, slice_get, if◌then◌else◌}
use Rattle.std.specs.Prelude.{Option, Some, None, option_map, option_and_then}
use Rattle.retro_base.specs.declared.op.Op.{Op}
use Rattle.retro_base.specs.declared.row.Row.{Row}
use Rattle.retro_base.specs.Limits.{most_rows, next_limit}
use Rattle.retro_base.specs.Kind.{adds, kind_of, same_kind}
use Rattle.retro_base.specs.Replay.{failure, state_at}
use Rattle.retro_base.specs.Answers.{answer_of, content}
use Rattle.retro_base.specs.Questions.{suits}
use Rattle.retro_base.specs.Edits.{Edit, Step, add, cut, edited_by, inverse_step}
use Rattle.retro_base.specs.Places.{place_of_time, place_of_row}
use Rattle.retro_base.specs.History.{newest_step, recorded, redone, undone}
use Rattle.retro_base.specs.Shift.{shift_at}
use Rattle.retro_base.specs.declared.target.Target.{Target}
use Rattle.retro_base.specs.declared.target.Target.TheVariants.{At, Into}
use Rattle.retro_base.specs.Holders.{holders, holds}
use Rattle.script_grammar.specs.declared.command.Spot.{Spot}
use Rattle.script_grammar.specs.declared.command.Spot.TheVariants as spots
use Rattle.script_grammar.specs.declared.command.Moment.{Moment}
use Rattle.script_grammar.specs.declared.command.Moment.TheVariants.{Now, Then}
use Rattle.script_grammar.specs.declared.command.Query.{Query}
use Rattle.script_grammar.specs.declared.command.Query.TheVariants.{One, All}
use Rattle.reactions.specs.declared.outcome.Outcome.{Outcome}
use Rattle.reactions.specs.declared.outcome.Outcome.TheVariants.{Accepted, Inserted, Answered, Listed, Saved, Taken, Stays, Refused}
use Rattle.reactions.specs.declared.outcome.Refusal.{Refusal}
use Rattle.reactions.specs.declared.outcome.Refusal.TheVariants as refusals
use Rattle.reactions.specs.declared.position.Position.{Position}
use Rattle.reactions.specs.Bench.{NamedTimeline}
use Rattle.reactions.specs.Reported.{reported}

-- the position in front of the row with this number, which has that row's time
abbrev pub position_before : ℕ → List Row → Option Position
position_before number rows =
    option_and_then (λ place. option_map (λ (row : Row). record { place = place; time = row.time }) (slice_get rows place)) (place_of_row number rows)

-- the position one place further
abbrev pub next_position : Position → Position
next_position position = record { place = suc position.place; time = position.time }

-- the position of a spot, if there is one
abbrev pub position_of : Spot → List Row → Option Position
position_of (spots.At time) rows = Some (record { place = place_of_time time rows; time = time })
position_of (spots.Before number) rows = position_before number rows
position_of (spots.After number) rows = option_map next_position (position_before number rows)

-- the row that a spot names
abbrev pub row_named : Spot → ℕ
row_named (spots.At time) = 0
row_named (spots.Before number) = number
row_named (spots.After number) = number

-- what a timeline makes of a line: itself afterwards, and the outcome
pub record TimelineEffect : Type 0 where
  pub timeline : NamedTimeline
  pub outcome : Outcome

-- an outcome that leaves the timeline as it was
abbrev pub unchanged : NamedTimeline → Outcome → TimelineEffect
unchanged timeline outcome = record { timeline = timeline; outcome = outcome }

-- a refusal, which leaves it so too
abbrev pub refuses : NamedTimeline → Refusal → TimelineEffect
refuses timeline refusal = unchanged timeline (Refused refusal)

-- the refusal that names a row: where rows cannot be performed, one of them is the first that cannot
abbrev pub refusal_at : Option Row → Refusal
refusal_at None = refusals.At 0 0
refusal_at (Some row) = refusals.At row.number row.time

-- an edit is accepted where the edited rows replay whole; else it is refused, and the first row that fails is named
abbrev pub accepted_or_refused : NamedTimeline → NamedTimeline → Outcome → Option ℕ → TimelineEffect
accepted_or_refused timeline after outcome None = record { timeline = after; outcome = outcome }
accepted_or_refused timeline after outcome (Some index) = refuses timeline (refusal_at (slice_get after.rows index))

-- the timeline after an accepted step, which is recorded, with the number that it draws next
abbrev pub after_step : NamedTimeline → Step → ℕ → NamedTimeline
after_step timeline step next =
    record timeline { rows = edited_by timeline.rows step; next = next; history = recorded step timeline.history }

-- the answer to an accepted step of a timeline
abbrev pub tells : NamedTimeline → Step → Outcome → Outcome
tells timeline step plain = reported timeline.name timeline.kind timeline.rows step plain

-- what becomes of a step: the rows after all its edits decide
abbrev pub makes : NamedTimeline → Step → ℕ → Outcome → TimelineEffect
makes timeline step next outcome =
    accepted_or_refused timeline (after_step timeline step next) (tells timeline step outcome) (failure timeline.kind (edited_by timeline.rows step))

-- what becomes of an edit, which is a step of its own
abbrev pub edits : NamedTimeline → Edit → ℕ → Outcome → TimelineEffect
edits timeline edit next outcome = makes timeline (edit ∷ []) next outcome

-- the row of an operation at a position, which draws the timeline's next number
abbrev pub new_row : NamedTimeline → Position → Op → Row
new_row timeline position op = record { number = timeline.next; time = position.time; op = op }

-- this effect, where one row more fits: there has to be room for it, and a number
abbrev pub where_one_fits : NamedTimeline → TimelineEffect → TimelineEffect
where_one_fits timeline effect =
    if nat_le most_rows (length timeline.rows) then refuses timeline refusals.Full
    else (if nat_le next_limit timeline.next then refuses timeline refusals.Numbers
    else effect)

-- a row at a position
abbrev pub inserts_there : NamedTimeline → Op → Position → TimelineEffect
inserts_there timeline op position =
    where_one_fits timeline (edits timeline (add position.place (new_row timeline position op)) (timeline.next + 1) (Inserted timeline.next))

-- a row at a position, if the spot has one
abbrev pub inserts_at : NamedTimeline → ℕ → Op → Option Position → TimelineEffect
inserts_at timeline number op None = refuses timeline (refusals.NoRow number)
inserts_at timeline number op (Some position) = inserts_there timeline op position

-- `NAME at T OP`, `NAME before #N OP`, `NAME after #N OP`
unfoldable pub inserts : NamedTimeline → Spot → Op → TimelineEffect
inserts timeline spot op =
    if same_kind (kind_of op) timeline.kind then inserts_at timeline (row_named spot) op (position_of spot timeline.rows)
    else refuses timeline refusals.Kind

-- the edit that takes the row with this number out, if there is one
abbrev pub cut_of : ℕ → List Row → Option Edit
cut_of number rows = option_and_then (λ place. option_map (cut place) (slice_get rows place)) (place_of_row number rows)

-- a row is taken out, if there is one
abbrev pub deletes_by : NamedTimeline → ℕ → Option Edit → TimelineEffect
deletes_by timeline number None = refuses timeline (refusals.NoRow number)
deletes_by timeline number (Some edit) = edits timeline edit timeline.next Accepted

-- `NAME delete #N`
unfoldable pub deletes : NamedTimeline → ℕ → TimelineEffect
deletes timeline number = deletes_by timeline number (cut_of number timeline.rows)

-- the step that replaces the row with this number, if there is one
abbrev pub shift_of_row : NamedTimeline → ℕ → Target → Option Step
shift_of_row timeline number target = option_and_then (shift_at timeline.rows target timeline.next) (place_of_row number timeline.rows)

-- a row is replaced by one that draws a number: there has to be room for one row more
abbrev pub shifts_there : NamedTimeline → Step → TimelineEffect
shifts_there timeline step = where_one_fits timeline (makes timeline step (timeline.next + 1) (Inserted timeline.next))

-- a row is replaced, if there is one
abbrev pub shifts_by : NamedTimeline → ℕ → Option Step → TimelineEffect
shifts_by timeline number None = refuses timeline (refusals.NoRow number)
shifts_by timeline number (Some step) = shifts_there timeline step

-- the row with this number is replaced
unfoldable pub shifts : NamedTimeline → ℕ → Target → TimelineEffect
shifts timeline number target = shifts_by timeline number (shift_of_row timeline number target)

-- `NAME move #N at T`
abbrev pub moves : NamedTimeline → ℕ → ℕ → TimelineEffect
moves timeline number time = shifts timeline number (At time)

-- `NAME change #N OP`
unfoldable pub changes : NamedTimeline → ℕ → Op → TimelineEffect
changes timeline number op =
    if same_kind (kind_of op) timeline.kind then shifts timeline number (Into op) else refuses timeline refusals.Kind

-- the newest step is undone, if there is one
abbrev pub undoes_step : NamedTimeline → Option Step → TimelineEffect
undoes_step timeline None = refuses timeline refusals.NothingToUndo
undoes_step timeline (Some step) = record {
  timeline = record timeline { rows = edited_by timeline.rows (inverse_step step); history = undone step timeline.history };
  outcome = tells timeline (inverse_step step) Accepted;
}

-- `NAME undo`
unfoldable pub undoes : NamedTimeline → TimelineEffect
undoes timeline = undoes_step timeline (newest_step timeline.history.undo)

-- the step that was undone last is redone, if there is one
abbrev pub redoes_step : NamedTimeline → Option Step → TimelineEffect
redoes_step timeline None = refuses timeline refusals.NothingToRedo
redoes_step timeline (Some step) = record {
  timeline = record timeline { rows = edited_by timeline.rows step; history = redone step timeline.history };
  outcome = tells timeline step Accepted;
}

-- `NAME redo`
unfoldable pub redoes : NamedTimeline → TimelineEffect
redoes timeline = redoes_step timeline (newest_step timeline.history.redo)

-- what is answered at a place, if the moment has one
abbrev pub answers_at : (ℕ → Outcome) → ℕ → Option Position → Outcome
answers_at answer_at number None = Refused (refusals.NoRow number)
answers_at answer_at number (Some position) = answer_at position.place

-- what is answered at a moment: after all rows, or at a spot
abbrev pub answers_then : NamedTimeline → (ℕ → Outcome) → Moment → Outcome
answers_then timeline answer_at Now = answer_at (length timeline.rows)
answers_then timeline answer_at (Then spot) = answers_at answer_at (row_named spot) (position_of spot timeline.rows)

-- `NAME ask Q`, now or at a spot
unfoldable pub answers : NamedTimeline → Moment → Query → Outcome
answers timeline moment (One question) =
    if suits question timeline.kind
    then answers_then timeline (λ place. Answered (answer_of (state_at timeline.kind timeline.rows place) question)) moment
    else Refused refusals.Kind
answers timeline moment All = answers_then timeline (λ place. Listed (content (state_at timeline.kind timeline.rows place))) moment

-- `save NAME`
abbrev pub saves : NamedTimeline → Outcome
saves timeline = Saved timeline.name timeline.kind timeline.next timeline.rows

-- the fate of what the row of this number put in, from a place on: the first of the later rows after which it is not there took it out
abbrev pub fate_from : NamedTimeline → ℕ → ℕ → List Row → Outcome
fate_from timeline number place [] = Stays
fate_from timeline number place (row ∷ later) =
    if holds number (holders timeline.kind timeline.rows (suc place)) then fate_from timeline number (suc place) later
    else Taken row.number row.time

-- the fate of what the row at a place put in, where it adds
abbrev pub fate_at : NamedTimeline → ℕ → Row → Outcome
fate_at timeline place row =
    if adds row.op then fate_from timeline row.number (suc place) (drop (suc place) timeline.rows)
    else Refused (refusals.NoItem row.number)

-- the fate of what the row of this number put in, if there is one
abbrev pub fate_of_row : NamedTimeline → ℕ → Option Outcome
fate_of_row timeline number = option_and_then (λ place. option_map (fate_at timeline place) (slice_get timeline.rows place)) (place_of_row number timeline.rows)

-- the answer about the row of this number, if there is one
abbrev pub if_row : ℕ → Option Outcome → Outcome
if_row number None = Refused (refusals.NoRow number)
if_row number (Some outcome) = outcome

-- `NAME fate #N`
unfoldable pub answers_fate : NamedTimeline → ℕ → Outcome
answers_fate timeline number = if_row number (fate_of_row timeline number)
