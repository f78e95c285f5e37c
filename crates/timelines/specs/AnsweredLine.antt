-- What is told of a line: the timelines after it, the lines that answer it, and whether it is refused. And what one timeline makes of a
-- command, and the outcome of a question.
use Rattle.std.specs.Prelude.{◌≡◌, ℕ, Bool, List, ◌++◌, Result, Ok, Err}
use Rattle.retro_base.specs.declared.question.Answer.{Answer}
use Rattle.script_grammar.specs.declared.command.Command.{Command}
use Rattle.script_grammar.specs.declared.command.Command.TheVariants.{Insert, Delete, Move, Change, Fate, Ask, Undo, Redo, Save}
use Rattle.reactions.specs.declared.outcome.Outcome.{Outcome}
use Rattle.reactions.specs.declared.outcome.Outcome.TheVariants.{Answered, Refused, Silent}
use Rattle.reactions.specs.declared.outcome.Refusal.{Refusal}
use Rattle.reactions.specs.Bench.{NamedTimeline}
use Rattle.reactions.specs.Outcome.{is_refusal, reply_text}
use Rattle.reactions.specs.Reaction.{Effect}
use Rattle.reactions.specs.TimelineEffects.{TimelineEffect, unchanged, inserts, deletes, moves, changes, answers, answers_fate, undoes, redoes, saves}

-- the timelines afterwards, the lines that answer, and whether they are a refusal
pub record AnsweredLine : Type 0 where
  pub timelines : List NamedTimeline
  pub answer : List ℕ
  pub refused : Bool

-- what is told of an effect
abbrev pub told : Effect → AnsweredLine
told effect = record { timelines = effect.timelines; answer = reply_text effect.outcome; refused = is_refusal effect.outcome }

-- what a timeline makes of a command that is neither a question nor the edit of one row
abbrev pub performs_other : NamedTimeline → Command → TimelineEffect
performs_other timeline (Move name number time) = moves timeline number time
performs_other timeline (Change name number op) = changes timeline number op
performs_other timeline (Fate name number) = unchanged timeline (answers_fate timeline number)
performs_other timeline (Undo name) = undoes timeline
performs_other timeline (Redo name) = redoes timeline
performs_other timeline (Save name) = unchanged timeline (saves timeline)
performs_other timeline command = unchanged timeline Silent

-- what a timeline makes of a command; one that is about none leaves it as it is
abbrev pub performs : NamedTimeline → Command → TimelineEffect
performs timeline (Insert name spot op) = inserts timeline spot op
performs timeline (Delete name number) = deletes timeline number
performs timeline (Ask name moment query) = unchanged timeline (answers timeline moment query)
performs timeline command = performs_other timeline command

-- what is told of an effect on one timeline: itself afterwards, the lines that answer, behind those before, and whether they are a refusal
pub record IsTold (effect : TimelineEffect) (after : NamedTimeline) (before text : List ℕ) (is_refused : Bool) : Type 0 where
  pub timeline : after ≡ effect.timeline
  pub answer : text ≡ before ++ reply_text effect.outcome
  pub refused : is_refused ≡ is_refusal effect.outcome

-- the outcome of a question that has an answer, or is refused
abbrev pub found_or_refused : Result Answer Refusal → Outcome
found_or_refused (Ok answer) = Answered answer
found_or_refused (Err refusal) = Refused refusal
