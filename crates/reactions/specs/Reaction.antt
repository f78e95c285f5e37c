-- What the bench makes of a line: each line is one event, whose whole effect stands before the next one. The lines of a block
-- are one event, which happens at its close.
use Rattle.std.specs.Prelude.{ℕ, Bool, true, false, not, ◌&&◌, nat_le, List, [], ◌∷◌, ◌++◌, length, if◌then◌else◌}
use Rattle.std.specs.Prelude.{Option, Some, None, Result, Ok, Err}
use Rattle.retro_base.specs.declared.kind.Kind.{Kind}
use Rattle.retro_base.specs.declared.row.Row.{Row}
use Rattle.script_grammar.specs.declared.command.Command.{Command}
use Rattle.script_grammar.specs.declared.command.Command.TheVariants.{Nothing, New, Insert, Delete, Move, Change, Fate, Ask, Undo, Redo, Save, Mute, Header}
use Rattle.script_grammar.specs.declared.command.LineError.{LineError}
use Rattle.script_grammar.specs.declared.command.LineError.TheVariants as errors
use Rattle.retro_base.specs.LineLength.{is_long}
use Rattle.script_grammar.specs.BlockLines.{is_end}
use Rattle.script_grammar.specs.Command.{command}
use Rattle.timeline_file.specs.declared.block.BlockError.{BlockError}
use Rattle.timeline_file.specs.Block.{begun, taken, finished}
use Rattle.reactions.specs.declared.outcome.Outcome.{Outcome}
use Rattle.reactions.specs.declared.outcome.Outcome.TheVariants.{Silent, Accepted, Refused}
use Rattle.reactions.specs.declared.outcome.Refusal.TheVariants as refusals
use Rattle.retro_base.specs.Limits.{most_timelines}
use Rattle.reactions.specs.Bench.{NamedTimeline, OpenBlock, Bench, fresh, with_rows, is_named, has_timeline}
use Rattle.reactions.specs.Outcome.{block_refusal, reply_text, is_refusal}
use Rattle.reactions.specs.Reported.{loaded}
use Rattle.reactions.specs.TimelineEffects.{TimelineEffect, unchanged, inserts, deletes, moves, changes, answers, answers_fate, undoes, redoes, saves}

-- what becomes of the timelines: themselves afterwards, and the outcome
pub record Effect : Type 0 where
  pub timelines : List NamedTimeline
  pub outcome : Outcome

-- an outcome that leaves them as they were
abbrev pub leaves : List NamedTimeline → Outcome → Effect
leaves timelines outcome = record { timelines = timelines; outcome = outcome }

-- a name for one more timeline has to be free, and there has to be room for it
abbrev pub if_startable : List NamedTimeline → List ℕ → Effect → Effect
if_startable timelines name effect =
    if has_timeline name timelines then leaves timelines (Refused refusals.NameTaken)
    else (if nat_le most_timelines (length timelines) then leaves timelines (Refused refusals.Timelines)
    else effect)

-- one more timeline, with this answer
abbrev pub with_timeline : List NamedTimeline → NamedTimeline → Outcome → Effect
with_timeline timelines timeline outcome = record { timelines = timelines ++ timeline ∷ []; outcome = outcome }

-- `new NAME KIND`, whichever structure is to hold it
abbrev pub starts : List NamedTimeline → List ℕ → Kind → Effect
starts timelines name kind = if_startable timelines name (with_timeline timelines (fresh name kind) Accepted)

-- the effect on timelines with one more in front
abbrev pub with_first : NamedTimeline → Effect → Effect
with_first timeline effect = record { timelines = timeline ∷ effect.timelines; outcome = effect.outcome }

-- the effect on the timeline of this name; the others stay
abbrev pub on_named : List ℕ → (NamedTimeline → TimelineEffect) → List NamedTimeline → Effect
on_named name effect [] = leaves [] (Refused (refusals.NoTimeline name))
on_named name effect (timeline ∷ others) =
    if is_named name timeline then record { timelines = (effect timeline).timeline ∷ others; outcome = (effect timeline).outcome }
    else with_first timeline (on_named name effect others)

-- what the timelines make of a command, or of a line that has none; a header leaves them as they are, and they have no follower that
-- could be muted
abbrev pub obeys : List NamedTimeline → Result Command LineError → Effect
obeys timelines (Err errors.Long) = leaves timelines (Refused refusals.Long)
obeys timelines (Err errors.Syntax) = leaves timelines (Refused refusals.Syntax)
obeys timelines (Ok Nothing) = leaves timelines Silent
obeys timelines (Ok (New name kind fused)) = starts timelines name kind
obeys timelines (Ok (Insert name spot op)) = on_named name (λ timeline. inserts timeline spot op) timelines
obeys timelines (Ok (Delete name number)) = on_named name (λ timeline. deletes timeline number) timelines
obeys timelines (Ok (Move name number time)) = on_named name (λ timeline. moves timeline number time) timelines
obeys timelines (Ok (Change name number op)) = on_named name (λ timeline. changes timeline number op) timelines
obeys timelines (Ok (Fate name number)) = on_named name (λ timeline. unchanged timeline (answers_fate timeline number)) timelines
obeys timelines (Ok (Ask name moment query)) = on_named name (λ timeline. unchanged timeline (answers timeline moment query)) timelines
obeys timelines (Ok (Undo name)) = on_named name undoes timelines
obeys timelines (Ok (Redo name)) = on_named name redoes timelines
obeys timelines (Ok (Save name)) = on_named name (λ timeline. unchanged timeline (saves timeline)) timelines
obeys timelines (Ok (Mute number)) = leaves timelines (Refused (refusals.NoFollower number))
obeys timelines (Ok (Header name kind next rows)) = leaves timelines Silent

-- the timeline that a block makes of its rows, of which nothing can be undone
abbrev pub of_block : OpenBlock → List Row → NamedTimeline
of_block unclosed rows = with_rows unclosed.name unclosed.block.kind unclosed.block.next rows

-- what becomes of what a block comes to
abbrev pub loads : List NamedTimeline → OpenBlock → Result (List Row) BlockError → Effect
loads timelines unclosed (Ok rows) = with_timeline timelines (of_block unclosed rows) (loaded unclosed.name unclosed.block.kind rows)
loads timelines unclosed (Err error) = leaves timelines (Refused (block_refusal error))

-- the close of a block, by its `end` line or by the end of the input
abbrev pub closes : List NamedTimeline → OpenBlock → Bool → Effect
closes timelines unclosed ended = if_startable timelines unclosed.name (loads timelines unclosed (finished unclosed.block ended))

-- what the bench makes of a line: itself afterwards, and the outcome
pub record BenchEffect : Type 0 where
  pub bench : Bench
  pub outcome : Outcome

-- an effect on the timelines, after which this block is being read, if there is one
abbrev pub with_block : Option OpenBlock → Effect → BenchEffect
with_block block effect = record { bench = record { timelines = effect.timelines; block = block }; outcome = effect.outcome }

-- the block that a command opens, if it is a header
abbrev pub opened : Result Command LineError → Option OpenBlock
opened (Ok (Header name kind next rows)) = Some (record { name = name; block = begun kind next rows })
opened line = None

-- a line outside a block
abbrev pub outside : List NamedTimeline → Result Command LineError → BenchEffect
outside timelines line = with_block (opened line) (obeys timelines line)

-- the close of the block that is being read, if there is one: `ended` says that its `end` line came
abbrev pub ends : List NamedTimeline → Option OpenBlock → Bool → BenchEffect
ends timelines None ended = with_block None (leaves timelines Silent)
ends timelines (Some unclosed) ended = with_block None (closes timelines unclosed ended)

-- the block after a line that is not its end
abbrev pub with_line : OpenBlock → List ℕ → Bool → OpenBlock
with_line unclosed bytes long = record { name = unclosed.name; block = taken unclosed.block bytes long }

-- a line within a block: the line `end` closes it, and every other one belongs to it
abbrev pub inside : List NamedTimeline → OpenBlock → List ℕ → Bool → BenchEffect
inside timelines unclosed bytes long =
    if (not long && is_end bytes) then ends timelines (Some unclosed) true
    else with_block (Some (with_line unclosed bytes long)) (leaves timelines Silent)

-- what a line spells outside a block: a long one nothing
abbrev pub spelled : List ℕ → Bool → Result Command LineError
spelled bytes long = if long then Err errors.Long else command bytes

-- a line, of which these are the bytes, or where it is long the first of them
abbrev pub happens : List NamedTimeline → Option OpenBlock → List ℕ → Bool → BenchEffect
happens timelines None bytes long = outside timelines (spelled bytes long)
happens timelines (Some unclosed) bytes long = inside timelines unclosed bytes long

-- the reaction to a line: the bench afterwards, the lines that answer it, and whether they are a refusal
pub record Reaction : Type 0 where
  pub bench : Bench
  pub answer : List ℕ
  pub refused : Bool

-- the reaction with this effect
abbrev pub reaction_of : BenchEffect → Reaction
reaction_of effect = record { bench = effect.bench; answer = reply_text effect.outcome; refused = is_refusal effect.outcome }

-- the bench after the close of its block
abbrev pub without_block : Bench → Bench
without_block bench = record { timelines = bench.timelines; block = None }

-- the reaction to a line: to its bytes, or where it is long to that alone
abbrev pub reacts_to : Bench → List ℕ → Bool → Reaction
reacts_to bench bytes long = reaction_of (happens bench.timelines bench.block bytes long)

-- the reaction to a whole line of the input
abbrev pub reacts : Bench → List ℕ → Reaction
reacts bench line = reacts_to bench line (is_long line)

-- the reaction to the end of the input
abbrev pub closing : Bench → Reaction
closing bench = reaction_of (ends bench.timelines bench.block false)
