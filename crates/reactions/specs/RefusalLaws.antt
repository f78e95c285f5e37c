-- A line that is refused leaves the bench as it was.
use Rattle.std.proofs.Common.{◌≡◌, ℕ, ◌+◌, Bool, true, false, cond, nat_le, List, [], ◌∷◌, length, refl, sym, ap, ◌∙◌, Option, Some, None, Result, Ok, Err, IfOk}
use Rattle.retro_base.specs.declared.op.Op.{Op}
use Rattle.retro_base.specs.Limits.{most_rows, next_limit}
use Rattle.retro_base.specs.Edits.{Edit, Step, add, edited_by, inverse_step}
use Rattle.retro_base.specs.Replay.{failure}
use Rattle.retro_base.specs.Kind.{kind_of, same_kind}
use Rattle.script_grammar.specs.declared.command.Command.{Command}
use Rattle.script_grammar.specs.declared.command.Command.TheVariants.{Nothing, New, Insert, Delete, Move, Change, Fate, Ask, Undo, Redo, Save, Mute, Header}
use Rattle.script_grammar.specs.declared.command.LineError.{LineError}
use Rattle.script_grammar.specs.declared.command.LineError.TheVariants as errors
use Rattle.script_grammar.specs.BlockLines.{is_end}
use Rattle.script_grammar.specs.Command.{command}
use Rattle.retro_base.specs.declared.row.Row.{Row}
use Rattle.timeline_file.specs.declared.block.BlockError.{BlockError}
use Rattle.timeline_file.specs.Block.{finished}
use Rattle.std.specs.Prelude.{not, ◌&&◌, if◌then◌else◌}
use Rattle.script_grammar.specs.declared.command.Spot.{Spot}
use Rattle.retro_base.specs.Limits.{most_timelines}
use Rattle.reactions.specs.declared.outcome.Outcome.{Outcome}
use Rattle.reactions.specs.declared.outcome.Outcome.TheVariants.{Silent, Accepted, Inserted, Refused}
use Rattle.reactions.specs.declared.outcome.Refusal.TheVariants as refusals
use Rattle.reactions.specs.declared.position.Position.{Position}
use Rattle.reactions.specs.Bench.{NamedTimeline, OpenBlock, Bench, fresh, is_named, has_timeline}
use Rattle.reactions.specs.Outcome.{is_refusal}
use Rattle.reactions.specs.Reaction.{Effect, BenchEffect, Reaction, reaction_of, leaves, if_startable, with_timeline, on_named, obeys, opened, outside, happens, loads, closes, ends, with_line, with_block, without_block}
use Rattle.reactions.specs.TimelineEffects.{TimelineEffect, refuses, accepted_or_refused, after_step, makes, edits, tells, new_row, row_named, position_of}
use Rattle.reactions.specs.TimelineEffects.{inserts_there, inserts_at, cut_of, deletes_by, inserts, deletes, shift_of_row, shifts_there, shifts_by, shifts}
use Rattle.reactions.specs.TimelineEffects.{moves, changes, unchanged, answers, answers_fate, undoes_step, undoes, redoes_step, redoes, saves}
use Rattle.retro_base.specs.History.{newest_step}
use Rattle.retro_base.specs.declared.target.Target.{Target}
use Rattle.retro_base.specs.declared.target.Target.TheVariants.{At, Into}
use Rattle.reactions.specs.ReactionLaws.{reported_is_no_refusal}
use Rattle.retro_base.specs.Facts.{not_both}

-- the effect leaves the timeline as it was, where it is a refusal
abbrev Keeps : NamedTimeline → TimelineEffect → Type 0
Keeps timeline effect = is_refusal effect.outcome ≡ true → effect.timeline ≡ timeline

keeps_if : (b : Bool) (timeline : NamedTimeline) (x y : TimelineEffect) → Keeps timeline x → Keeps timeline y → Keeps timeline (cond b x y)
keeps_if true timeline x y first second = first
keeps_if false timeline x y first second = second

keeps_accepted_or_refused : (timeline after : NamedTimeline) (outcome : Outcome) (failing : Option ℕ) → is_refusal outcome ≡ false
    → Keeps timeline (accepted_or_refused timeline after outcome failing)
keeps_accepted_or_refused timeline after outcome None accepted = λ refused. absurd (not_both (is_refusal outcome) accepted refused)
keeps_accepted_or_refused timeline after outcome (Some index) accepted = λ refused. refl

keeps_makes : (timeline : NamedTimeline) (step : Step) (next : ℕ) (outcome : Outcome) → is_refusal outcome ≡ false → Keeps timeline (makes timeline step next outcome)
keeps_makes timeline step next outcome accepted =
    keeps_accepted_or_refused timeline (after_step timeline step next) (tells timeline step outcome) (failure timeline.kind (edited_by timeline.rows step))
    (reported_is_no_refusal timeline.name timeline.kind timeline.rows step outcome accepted)

keeps_edits : (timeline : NamedTimeline) (edit : Edit) (next : ℕ) (outcome : Outcome) → is_refusal outcome ≡ false → Keeps timeline (edits timeline edit next outcome)
keeps_edits timeline edit next outcome accepted = keeps_makes timeline (edit ∷ []) next outcome accepted

keeps_inserts_there : (timeline : NamedTimeline) (op : Op) (position : Position) → Keeps timeline (inserts_there timeline op position)
keeps_inserts_there timeline op position =
    let edit : Edit = add position.place (new_row timeline position op) in
    let made : TimelineEffect = edits timeline edit (timeline.next + 1) (Inserted timeline.next) in
    keeps_if (nat_le most_rows (length timeline.rows)) timeline (refuses timeline refusals.Full) (cond (nat_le next_limit timeline.next) (refuses timeline refusals.Numbers) made)
    (λ refused. refl)
    (keeps_if (nat_le next_limit timeline.next) timeline (refuses timeline refusals.Numbers) made (λ refused. refl)
    (keeps_edits timeline edit (timeline.next + 1) (Inserted timeline.next) refl))

keeps_inserts_at : (timeline : NamedTimeline) (number : ℕ) (op : Op) (position : Option Position) → Keeps timeline (inserts_at timeline number op position)
keeps_inserts_at timeline number op None = λ refused. refl
keeps_inserts_at timeline number op (Some position) = keeps_inserts_there timeline op position

keeps_inserts : (timeline : NamedTimeline) (spot : Spot) (op : Op) → Keeps timeline (inserts timeline spot op)
unfolding inserts
keeps_inserts timeline spot op =
    keeps_if (same_kind (kind_of op) timeline.kind) timeline (inserts_at timeline (row_named spot) op (position_of spot timeline.rows)) (refuses timeline refusals.Kind)
    (keeps_inserts_at timeline (row_named spot) op (position_of spot timeline.rows)) (λ refused. refl)

keeps_deletes_by : (timeline : NamedTimeline) (number : ℕ) (edit : Option Edit) → Keeps timeline (deletes_by timeline number edit)
keeps_deletes_by timeline number None = λ refused. refl
keeps_deletes_by timeline number (Some edit) = keeps_edits timeline edit timeline.next Accepted refl

keeps_deletes : (timeline : NamedTimeline) (number : ℕ) → Keeps timeline (deletes timeline number)
unfolding deletes
keeps_deletes timeline number = keeps_deletes_by timeline number (cut_of number timeline.rows)

keeps_shifts_there : (timeline : NamedTimeline) (step : Step) → Keeps timeline (shifts_there timeline step)
keeps_shifts_there timeline step =
    let made : TimelineEffect = makes timeline step (timeline.next + 1) (Inserted timeline.next) in
    keeps_if (nat_le most_rows (length timeline.rows)) timeline (refuses timeline refusals.Full) (cond (nat_le next_limit timeline.next) (refuses timeline refusals.Numbers) made)
    (λ refused. refl)
    (keeps_if (nat_le next_limit timeline.next) timeline (refuses timeline refusals.Numbers) made (λ refused. refl)
    (keeps_makes timeline step (timeline.next + 1) (Inserted timeline.next) refl))

keeps_shifts_by : (timeline : NamedTimeline) (number : ℕ) (step : Option Step) → Keeps timeline (shifts_by timeline number step)
keeps_shifts_by timeline number None = λ refused. refl
keeps_shifts_by timeline number (Some step) = keeps_shifts_there timeline step

keeps_shifts : (timeline : NamedTimeline) (number : ℕ) (target : Target) → Keeps timeline (shifts timeline number target)
unfolding shifts
keeps_shifts timeline number target = keeps_shifts_by timeline number (shift_of_row timeline number target)

keeps_changes : (timeline : NamedTimeline) (number : ℕ) (op : Op) → Keeps timeline (changes timeline number op)
unfolding changes
keeps_changes timeline number op =
    keeps_if (same_kind (kind_of op) timeline.kind) timeline (shifts timeline number (Into op)) (refuses timeline refusals.Kind)
    (keeps_shifts timeline number (Into op)) (λ refused. refl)

keeps_undoes_step : (timeline : NamedTimeline) (step : Option Step) → Keeps timeline (undoes_step timeline step)
keeps_undoes_step timeline None = λ refused. refl
keeps_undoes_step timeline (Some step) =
    λ refused. absurd (not_both _ (reported_is_no_refusal timeline.name timeline.kind timeline.rows (inverse_step step) Accepted refl) refused)

keeps_undoes : (timeline : NamedTimeline) → Keeps timeline (undoes timeline)
unfolding undoes
keeps_undoes timeline = keeps_undoes_step timeline (newest_step timeline.history.undo)

keeps_redoes_step : (timeline : NamedTimeline) (step : Option Step) → Keeps timeline (redoes_step timeline step)
keeps_redoes_step timeline None = λ refused. refl
keeps_redoes_step timeline (Some step) =
    λ refused. absurd (not_both _ (reported_is_no_refusal timeline.name timeline.kind timeline.rows step Accepted refl) refused)

keeps_redoes : (timeline : NamedTimeline) → Keeps timeline (redoes timeline)
unfolding redoes
keeps_redoes timeline = keeps_redoes_step timeline (newest_step timeline.history.redo)

named_keeps : (name : List ℕ) (effect : NamedTimeline → TimelineEffect) → ((timeline : NamedTimeline) → Keeps timeline (effect timeline)) → (bench : List NamedTimeline)
    → is_refusal (on_named name effect bench).outcome ≡ true → (on_named name effect bench).timelines ≡ bench
named_keeps name effect keeps [] = λ refused. refl
named_keeps name effect keeps (first ∷ bench) =
    elim (is_named name first) as (λ b. is_named name first ≡ b → is_refusal (on_named name effect (first ∷ bench)).outcome ≡ true → (on_named name effect (first ∷ bench)).timelines ≡ first ∷ bench) [
      | true ↦ λ is. rw is (λ refused. ap (λ timeline. timeline ∷ bench) (keeps first refused))
      | false ↦ λ is. rw is (λ refused. ap (λ others. first ∷ others) (named_keeps name effect keeps bench refused))
    ] refl

-- the effect leaves the timelines as they were, where it is a refusal
abbrev Leaves : List NamedTimeline → Effect → Type 0
Leaves timelines effect = is_refusal effect.outcome ≡ true → effect.timelines ≡ timelines

leaves_if : (b : Bool) (timelines : List NamedTimeline) (x y : Effect) → Leaves timelines x → Leaves timelines y → Leaves timelines (cond b x y)
leaves_if true timelines x y first second = first
leaves_if false timelines x y first second = second

startable_leaves : (timelines : List NamedTimeline) (name : List ℕ) (effect : Effect) → Leaves timelines effect → Leaves timelines (if_startable timelines name effect)
startable_leaves timelines name effect keeps =
    leaves_if (has_timeline name timelines) timelines (leaves timelines (Refused refusals.NameTaken)) _ (λ refused. refl)
    (leaves_if (nat_le most_timelines (length timelines)) timelines (leaves timelines (Refused refusals.Timelines)) effect (λ refused. refl) keeps)

-- a block leaves the timelines as they were, where it is refused
loads_leaves : (timelines : List NamedTimeline) (unclosed : OpenBlock) (made : Result (List Row) BlockError) → Leaves timelines (loads timelines unclosed made)
loads_leaves timelines unclosed (Ok rows) = λ refused. absurd (not_both false refl refused)
loads_leaves timelines unclosed (Err error) = λ refused. refl

closes_leaves : (timelines : List NamedTimeline) (unclosed : OpenBlock) (ended : Bool) → Leaves timelines (closes timelines unclosed ended)
closes_leaves timelines unclosed ended =
    startable_leaves timelines unclosed.name (loads timelines unclosed (finished unclosed.block ended)) (loads_leaves timelines unclosed (finished unclosed.block ended))

-- a line outside a block that is refused leaves the timelines as they were, and opens no block
pub record KeepsAll (timelines : List NamedTimeline) (line : Result Command LineError) : Type 0 where
  pub kept : (obeys timelines line).timelines ≡ timelines
  pub opens_nothing : opened line ≡ None

refusal_keeps : (timelines : List NamedTimeline) (line : Result Command LineError) → is_refusal (obeys timelines line).outcome ≡ true → KeepsAll timelines line
refusal_keeps timelines (Err errors.Long) refused = record { kept = refl; opens_nothing = refl }
refusal_keeps timelines (Err errors.Syntax) refused = record { kept = refl; opens_nothing = refl }
refusal_keeps timelines (Ok Nothing) refused = record { kept = refl; opens_nothing = refl }
refusal_keeps timelines (Ok (New name kind fused)) refused = record {
  kept = startable_leaves timelines name (with_timeline timelines (fresh name kind) Accepted) (λ e. absurd (not_both false refl e)) refused;
  opens_nothing = refl;
}
refusal_keeps timelines (Ok (Insert name spot op)) refused = record {
  kept = named_keeps name (λ timeline. inserts timeline spot op) (λ timeline. keeps_inserts timeline spot op) timelines refused;
  opens_nothing = refl;
}
refusal_keeps timelines (Ok (Delete name number)) refused = record {
  kept = named_keeps name (λ timeline. deletes timeline number) (λ timeline. keeps_deletes timeline number) timelines refused;
  opens_nothing = refl;
}
refusal_keeps timelines (Ok (Move name number time)) refused = record {
  kept = named_keeps name (λ timeline. moves timeline number time) (λ timeline. keeps_shifts timeline number (At time)) timelines refused;
  opens_nothing = refl;
}
refusal_keeps timelines (Ok (Change name number op)) refused = record {
  kept = named_keeps name (λ timeline. changes timeline number op) (λ timeline. keeps_changes timeline number op) timelines refused;
  opens_nothing = refl;
}
refusal_keeps timelines (Ok (Fate name number)) refused = record {
  kept = named_keeps name (λ timeline. unchanged timeline (answers_fate timeline number)) (λ timeline e. refl) timelines refused;
  opens_nothing = refl;
}
refusal_keeps timelines (Ok (Ask name moment query)) refused = record {
  kept = named_keeps name (λ timeline. unchanged timeline (answers timeline moment query)) (λ timeline e. refl) timelines refused;
  opens_nothing = refl;
}
refusal_keeps timelines (Ok (Undo name)) refused = record { kept = named_keeps name undoes keeps_undoes timelines refused; opens_nothing = refl }
refusal_keeps timelines (Ok (Redo name)) refused = record { kept = named_keeps name redoes keeps_redoes timelines refused; opens_nothing = refl }
refusal_keeps timelines (Ok (Save name)) refused = record {
  kept = named_keeps name (λ timeline. unchanged timeline (saves timeline)) (λ timeline e. refl) timelines refused;
  opens_nothing = refl;
}
refusal_keeps timelines (Ok (Mute number)) refused = record { kept = refl; opens_nothing = refl }
refusal_keeps timelines (Ok (Header name kind next rows)) refused = record { kept = refl; opens_nothing = absurd (not_both false refl refused) }

-- the bench after a refusal
abbrev KeepsBench : List NamedTimeline → BenchEffect → Type 0
KeepsBench timelines effect = is_refusal effect.outcome ≡ true → effect.bench ≡ record { timelines = timelines; block = None }

bench_if : (b : Bool) (timelines : List NamedTimeline) (x y : BenchEffect) → KeepsBench timelines x → KeepsBench timelines y → KeepsBench timelines (cond b x y)
bench_if true timelines x y first second = first
bench_if false timelines x y first second = second

ends_keeps : (timelines : List NamedTimeline) (block : Option OpenBlock) (ended : Bool) → KeepsBench timelines (ends timelines block ended)
ends_keeps timelines None ended = λ refused. refl
ends_keeps timelines (Some unclosed) ended = λ refused. rw (closes_leaves timelines unclosed ended refused) refl

outside_keeps : (timelines : List NamedTimeline) (line : Result Command LineError) → KeepsBench timelines (outside timelines line)
outside_keeps timelines line = λ refused. let kept = refusal_keeps timelines line refused in rw (kept.kept, kept.opens_nothing) refl

happens_keeps : (timelines : List NamedTimeline) (block : Option OpenBlock) (bytes : List ℕ) (long : Bool) → KeepsBench timelines (happens timelines block bytes long)
happens_keeps timelines None bytes long = outside_keeps timelines (if long then Err errors.Long else command bytes)
happens_keeps timelines (Some unclosed) bytes long =
    bench_if (not long && is_end bytes) timelines (ends timelines (Some unclosed) true) (with_block (Some (with_line unclosed bytes long)) (leaves timelines Silent))
    (ends_keeps timelines (Some unclosed) true) (λ refused. absurd (not_both false refl refused))

-- so it is where the effect is told
told_keeps : {E : Type 0} (result : Result Bool E) (bench after : Bench) (answer : List ℕ) (effect : BenchEffect) → KeepsBench bench.timelines effect
    → IfOk result (λ refused. reaction_of effect ≡ record { bench = after; answer = answer; refused = refused })
    → IfOk result (λ refused. refused ≡ true → after ≡ without_block bench)
told_keeps (Ok refused) bench after answer effect keeps told =
    let same : reaction_of effect ≡ record { bench = after; answer = answer; refused = refused } = told in
    λ refuses. sym (ap (λ (r : Reaction). r.bench) same) ∙ keeps (ap (λ (r : Reaction). r.refused) same ∙ refuses)
told_keeps (Err e) bench after answer effect keeps told = tt

-- a refused line leaves the timelines as they were, and no block to be closed
pub kept_after : {E : Type 0} (result : Result Bool E) (bench after : Bench) (answer bytes : List ℕ) (long : Bool)
    → IfOk result (λ refused. reaction_of (happens bench.timelines bench.block bytes long) ≡ record { bench = after; answer = answer; refused = refused })
    → IfOk result (λ refused. refused ≡ true → after ≡ without_block bench)
kept_after result bench after answer bytes long told =
    told_keeps result bench after answer (happens bench.timelines bench.block bytes long) (happens_keeps bench.timelines bench.block bytes long) told

-- and so does a refused end
pub kept_after_end : {E : Type 0} (result : Result Bool E) (bench after : Bench) (answer : List ℕ) (ended : Bool)
    → IfOk result (λ refused. reaction_of (ends bench.timelines bench.block ended) ≡ record { bench = after; answer = answer; refused = refused })
    → IfOk result (λ refused. refused ≡ true → after ≡ without_block bench)
kept_after_end result bench after answer ended told =
    told_keeps result bench after answer (ends bench.timelines bench.block ended) (ends_keeps bench.timelines bench.block ended) told
