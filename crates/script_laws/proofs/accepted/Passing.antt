-- Answers that tell nothing of a priority queue: the judge passes their lines over.
use Rattle.std.proofs.Common.{◌≡◌, ℕ, true, false, cond, List, [], ◌∷◌, ◌++◌, length, refl, Option, Some, None, arith}
use Rattle.std.specs.Prelude.{codes, decimal}
use Rattle.retro_base.specs.declared.kind.Kind.{Kind}
use Rattle.retro_base.specs.declared.question.Answer.{Answer}
use Rattle.retro_base.specs.declared.question.Item.{Item}
use Rattle.retro_base.specs.declared.row.Row.{Row}
use Rattle.retro_base.specs.Name.{is_name}
use Rattle.retro_base.specs.Replay.{state_at}
use Rattle.retro_base.specs.Answers.{answer_of, content}
use Rattle.retro_base.specs.Questions.{suits}
use Rattle.evidence_check.specs.Judgement.{Judge, is_evidence_line}
use Rattle.script_grammar.specs.AnswerText.{answer_text, listing_text}
use Rattle.script_grammar.specs.declared.command.Moment.{Moment}
use Rattle.script_grammar.specs.declared.command.Moment.TheVariants.{Now, Then}
use Rattle.script_grammar.specs.declared.command.Query.{Query}
use Rattle.script_grammar.specs.declared.command.Query.TheVariants.{One, All}
use Rattle.timeline_file.specs.Saved.{end_text, header_text, row_line_text, row_lines, row_text, saved, with_feed}
use Rattle.reactions.specs.declared.outcome.Outcome.{Outcome}
use Rattle.reactions.specs.declared.outcome.Outcome.TheVariants.{Silent, Accepted, Inserted, Answered, Listed, Saved, Taken, Stays, Refused}
use Rattle.reactions.specs.declared.outcome.Refusal.{Refusal}
use Rattle.reactions.specs.declared.outcome.Refusal.TheVariants as refusals
use Rattle.reactions.specs.declared.position.Position.{Position}
use Rattle.reactions.specs.Bench.{NamedTimeline}
use Rattle.reactions.specs.Outcome.{refusal_text, reply_text}
use Rattle.reactions.specs.ReactionLaws.{answers_fate-each}
use Rattle.reactions.specs.TimelineEffects.{answers, answers_at, answers_fate, answers_then, position_of, row_named}
use Rattle.script_laws.proofs.accepted.Printable.{NamesTimeline, answer_printable, decimal_printable, header_printable, listing_printable, refusal_line, row_printable, taken_printable}
use Rattle.script_laws.proofs.accepted.ReadLines.{Reads, reads-append, reads_nothing, reads_other}

-- a judge that reads this answer is as before
abbrev pub IsPassedOver : Outcome → Type 0
IsPassedOver outcome = (judge : Judge) → Reads judge (reply_text outcome) judge

-- refusals
pub refusal_passes : (refusal : Refusal) → NamesTimeline refusal → IsPassedOver (Refused refusal)
refusal_passes refusal named judge = let line = refusal_line refusal named in reads_other judge (refusal_text refusal) line.0 line.1

-- other answers
pub silent_passes : IsPassedOver Silent
silent_passes judge = reads_nothing judge

pub accepted_passes : IsPassedOver Accepted
accepted_passes judge = reads_other judge (codes "ok") refl refl

pub inserted_passes : (number : ℕ) → IsPassedOver (Inserted number)
inserted_passes number judge = reads_other judge (codes "ok #" ++ decimal number) (decimal_printable number) refl

answered_other : (answer : Answer) → is_evidence_line (answer_text answer) ≡ false
answered_other answer = grind arith

listed_other : (items : List Item) → is_evidence_line (listing_text items) ≡ false
listed_other items = grind arith

answered_passes : (answer : Answer) → IsPassedOver (Answered answer)
answered_passes answer judge = reads_other judge (answer_text answer) (answer_printable answer) (answered_other answer)

listed_passes : (items : List Item) → IsPassedOver (Listed items)
listed_passes items judge = reads_other judge (listing_text items) (listing_printable items) (listed_other items)

at_passes : (answer_at : ℕ → Outcome) → ((place : ℕ) → IsPassedOver (answer_at place)) → (number : ℕ) (position : Option Position) → IsPassedOver (answers_at answer_at number position)
at_passes answer_at each number None = refusal_passes (refusals.NoRow number) tt
at_passes answer_at each number (Some position) = each position.place

then_passes : (timeline : NamedTimeline) (answer_at : ℕ → Outcome) → ((place : ℕ) → IsPassedOver (answer_at place)) → (moment : Moment) → IsPassedOver (answers_then timeline answer_at moment)
then_passes timeline answer_at each Now = each (length timeline.rows)
then_passes timeline answer_at each (Then spot) = at_passes answer_at each (row_named spot) (position_of spot timeline.rows)

pub answer_passes : (timeline : NamedTimeline) (moment : Moment) (query : Query) → IsPassedOver (answers timeline moment query)
unfolding answers
answer_passes timeline moment (One question) =
    elim (suits question timeline.kind) as (λ b. IsPassedOver (cond b (answers_then timeline (λ place. Answered (answer_of (state_at timeline.kind timeline.rows place) question)) moment) (Refused refusals.Kind))) [
      | true ↦ then_passes timeline (λ place. Answered (answer_of (state_at timeline.kind timeline.rows place) question))
          (λ place. answered_passes (answer_of (state_at timeline.kind timeline.rows place) question)) moment
      | false ↦ refusal_passes refusals.Kind tt
    ]
answer_passes timeline moment All =
    then_passes timeline (λ place. Listed (content (state_at timeline.kind timeline.rows place))) (λ place. listed_passes (content (state_at timeline.kind timeline.rows place))) moment

-- the fate of what a row put in
taken_passes : (number time : ℕ) → IsPassedOver (Taken number time)
taken_passes number time judge = reads_other judge (codes "= taken #" ++ decimal number ++ codes " " ++ decimal time) (taken_printable number time) refl

stays_passes : IsPassedOver Stays
stays_passes judge = reads_other judge (codes "= stays") refl refl

pub fate_passes : (timeline : NamedTimeline) (number : ℕ) → IsPassedOver (answers_fate timeline number)
fate_passes timeline number =
    answers_fate-each IsPassedOver taken_passes stays_passes (λ missing. refusal_passes (refusals.NoRow missing) tt) (λ taking. refusal_passes (refusals.NoItem taking) tt) timeline number

-- the lines of a saved timeline
rows_passed : (judge : Judge) (rows : List Row) → Reads judge (row_lines rows) judge
rows_passed judge [] = reads_nothing judge
rows_passed judge (row ∷ rows) =
    reads-append judge judge judge (row_line_text row) (row_lines rows) (reads_other judge (row_text row) (row_printable row) refl) (rows_passed judge rows)

pub saved_passes : (name : List ℕ) (kind : Kind) (next : ℕ) (rows : List Row) → is_name name ≡ true → IsPassedOver (Saved name kind next rows)
unfolding saved
saved_passes name kind next rows named judge =
    reads-append judge judge judge (with_feed (header_text name kind next (length rows))) (row_lines rows ++ with_feed end_text)
    (reads_other judge (header_text name kind next (length rows)) (header_printable name kind next (length rows) named) refl)
    (reads-append judge judge judge (row_lines rows) (with_feed end_text) (rows_passed judge rows) (reads_other judge end_text refl refl))
