-- What becomes of a timeline keeps its name.
use Rattle.std.proofs.Common.{◌≡◌, ℕ, ◌+◌, Bool, true, false, cond, nat_le, [], ◌∷◌, length, refl, Option, Some, None}
use Rattle.retro_base.specs.declared.op.Op.{Op}
use Rattle.retro_base.specs.Limits.{most_rows, next_limit}
use Rattle.retro_base.specs.Edits.{Edit, Step, add, edited_by}
use Rattle.retro_base.specs.Replay.{failure}
use Rattle.retro_base.specs.Kind.{kind_of, same_kind}
use Rattle.script_grammar.specs.declared.command.Spot.{Spot}
use Rattle.retro_base.specs.History.{newest_step}
use Rattle.retro_base.specs.declared.target.Target.{Target}
use Rattle.retro_base.specs.declared.target.Target.TheVariants.{At, Into}
use Rattle.reactions.specs.declared.outcome.Outcome.{Outcome}
use Rattle.reactions.specs.declared.outcome.Outcome.TheVariants.{Accepted, Inserted}
use Rattle.reactions.specs.declared.outcome.Refusal.TheVariants as refusals
use Rattle.reactions.specs.declared.position.Position.{Position}
use Rattle.reactions.specs.Bench.{NamedTimeline}
use Rattle.reactions.specs.TimelineEffects.{TimelineEffect, refuses, accepted_or_refused, after_step, makes, edits, tells, new_row, row_named, position_of, inserts_at, cut_of}
use Rattle.reactions.specs.TimelineEffects.{deletes_by, inserts, deletes, shift_of_row, shifts_by, shifts, moves, changes, undoes_step, undoes, redoes_step, redoes}

-- the effect keeps the name
abbrev pub KeepsName : NamedTimeline → TimelineEffect → Type 0
KeepsName timeline effect = effect.timeline.name ≡ timeline.name

name_if : (b : Bool) (timeline : NamedTimeline) (x y : TimelineEffect) → KeepsName timeline x → KeepsName timeline y → KeepsName timeline (cond b x y)
name_if true timeline x y first second = first
name_if false timeline x y first second = second

name_accepted_or_refused : (timeline after : NamedTimeline) (outcome : Outcome) (failing : Option ℕ) → after.name ≡ timeline.name
    → KeepsName timeline (accepted_or_refused timeline after outcome failing)
name_accepted_or_refused timeline after outcome None same = same
name_accepted_or_refused timeline after outcome (Some index) same = refl

name_makes : (timeline : NamedTimeline) (step : Step) (next : ℕ) (outcome : Outcome) → KeepsName timeline (makes timeline step next outcome)
name_makes timeline step next outcome =
    name_accepted_or_refused timeline (after_step timeline step next) (tells timeline step outcome) (failure timeline.kind (edited_by timeline.rows step)) refl

name_edits : (timeline : NamedTimeline) (edit : Edit) (next : ℕ) (outcome : Outcome) → KeepsName timeline (edits timeline edit next outcome)
name_edits timeline edit next outcome = name_makes timeline (edit ∷ []) next outcome

name_inserts_at : (timeline : NamedTimeline) (number : ℕ) (op : Op) (position : Option Position) → KeepsName timeline (inserts_at timeline number op position)
name_inserts_at timeline number op None = refl
name_inserts_at timeline number op (Some position) =
    let made : TimelineEffect = edits timeline (add position.place (new_row timeline position op)) (timeline.next + 1) (Inserted timeline.next) in
    name_if (nat_le most_rows (length timeline.rows)) timeline (refuses timeline refusals.Full) (cond (nat_le next_limit timeline.next) (refuses timeline refusals.Numbers) made) refl
    (name_if (nat_le next_limit timeline.next) timeline (refuses timeline refusals.Numbers) made refl
    (name_edits timeline (add position.place (new_row timeline position op)) (timeline.next + 1) (Inserted timeline.next)))

pub inserts_keeps_name : (spot : Spot) (op : Op) (timeline : NamedTimeline) → KeepsName timeline (inserts timeline spot op)
unfolding inserts
inserts_keeps_name spot op timeline =
    name_if (same_kind (kind_of op) timeline.kind) timeline (inserts_at timeline (row_named spot) op (position_of spot timeline.rows)) (refuses timeline refusals.Kind)
    (name_inserts_at timeline (row_named spot) op (position_of spot timeline.rows)) refl

name_deletes_by : (timeline : NamedTimeline) (number : ℕ) (edit : Option Edit) → KeepsName timeline (deletes_by timeline number edit)
name_deletes_by timeline number None = refl
name_deletes_by timeline number (Some edit) = name_edits timeline edit timeline.next Accepted

pub deletes_keeps_name : (number : ℕ) (timeline : NamedTimeline) → KeepsName timeline (deletes timeline number)
unfolding deletes
deletes_keeps_name number timeline = name_deletes_by timeline number (cut_of number timeline.rows)

name_shifts_by : (timeline : NamedTimeline) (number : ℕ) (step : Option Step) → KeepsName timeline (shifts_by timeline number step)
name_shifts_by timeline number None = refl
name_shifts_by timeline number (Some step) =
    let made : TimelineEffect = makes timeline step (timeline.next + 1) (Inserted timeline.next) in
    name_if (nat_le most_rows (length timeline.rows)) timeline (refuses timeline refusals.Full) (cond (nat_le next_limit timeline.next) (refuses timeline refusals.Numbers) made) refl
    (name_if (nat_le next_limit timeline.next) timeline (refuses timeline refusals.Numbers) made refl
    (name_makes timeline step (timeline.next + 1) (Inserted timeline.next)))

name_shifts : (timeline : NamedTimeline) (number : ℕ) (target : Target) → KeepsName timeline (shifts timeline number target)
unfolding shifts
name_shifts timeline number target = name_shifts_by timeline number (shift_of_row timeline number target)

pub moves_keeps_name : (number time : ℕ) (timeline : NamedTimeline) → KeepsName timeline (moves timeline number time)
moves_keeps_name number time timeline = name_shifts timeline number (At time)

pub changes_keeps_name : (number : ℕ) (op : Op) (timeline : NamedTimeline) → KeepsName timeline (changes timeline number op)
unfolding changes
changes_keeps_name number op timeline =
    name_if (same_kind (kind_of op) timeline.kind) timeline (shifts timeline number (Into op)) (refuses timeline refusals.Kind)
    (name_shifts timeline number (Into op)) refl

name_undoes_step : (timeline : NamedTimeline) (step : Option Step) → KeepsName timeline (undoes_step timeline step)
name_undoes_step timeline None = refl
name_undoes_step timeline (Some step) = refl

pub undoes_keeps_name : (timeline : NamedTimeline) → KeepsName timeline (undoes timeline)
unfolding undoes
undoes_keeps_name timeline = name_undoes_step timeline (newest_step timeline.history.undo)

name_redoes_step : (timeline : NamedTimeline) (step : Option Step) → KeepsName timeline (redoes_step timeline step)
name_redoes_step timeline None = refl
name_redoes_step timeline (Some step) = refl

pub redoes_keeps_name : (timeline : NamedTimeline) → KeepsName timeline (redoes timeline)
unfolding redoes
redoes_keeps_name timeline = name_redoes_step timeline (newest_step timeline.history.redo)
