use Rattle.std.proofs.Common.{◌≡◌, ◌∙◌, pos, sym, ap, rules}
use Rattle.std.proofs.lemmas.Int.{to_z-of_z}
use Rattle.std.specs.List.{slice_get}
use Rattle.std.specs.Option.{option_map}
use Rattle.retro_base.specs.declared.question.Answer.TheVariants.{Number}
use Rattle.retro_base.specs.declared.question.Question.TheVariants.{Size, Min, Nth}
use Rattle.retro_base.specs.Answers.{answer_of, key_of, number_of}
use Rattle.retro_base.specs.State.{entries}
use Rattle.retro_base.specs.lemmas.EntrySteps.{no_other_question}
use Rattle.bridge_pq.specs.Gathered.{after_moves}
use Rattle.bridge_pq.specs.MarkedEntries.{present_in}
use Rattle.bridge_pq.proofs.Costs.{no_visit}
use Rattle.bridge_pq.proofs.Moved.{if_ok, size_answer, min_answer, nth_answer}
use Rattle.bridge_pq.proofs.later.ask_moved.Goals as goal

pub returns-in-Size-clause-answer : goal.returns-in-Size-clause-answer
returns-in-Size-clause-answer g c =
    let held = after_moves c.args.moves.now (present_in c.args.entries.now) in
    let reported : answer_of (entries held) Size ≡ Number c.from.result =
    size_answer held ∙ ap (λ n. Number n) (sym (c.from.ensures ∙ ap pos c.size_after.ensures.size)) in
    rw c.in-Size.is (search (rules, to_z-of_z, reported, sym))

pub returns-in-Min-clause-answer : goal.returns-in-Min-clause-answer
returns-in-Min-clause-answer g c =
    let held = after_moves c.args.moves.now (present_in c.args.entries.now) in
    rw c.in-Min.is (if_ok (λ answer. answer ≡ number_of (option_map key_of (slice_get held 0))) (λ answer. answer ≡ answer_of (entries held) Min) c.nth_after.result (λ answer is. is ∙ sym (min_answer held)) c.nth_after.ensures.answer)

pub returns-in-Nth-clause-answer : goal.returns-in-Nth-clause-answer
returns-in-Nth-clause-answer g c =
    let held = after_moves c.args.moves.now (present_in c.args.entries.now) in
    let index = c.in-Nth.index in
    rw c.in-Nth.is (if_ok (λ answer. answer ≡ number_of (option_map key_of (slice_get held index))) (λ answer. answer ≡ answer_of (entries held) (Nth index)) c.nth_after-in-Nth.result
    (λ answer is. is ∙ sym (nth_answer held index)) c.nth_after-in-Nth.ensures.answer)

pub returns-in_default : goal.returns-in_default
returns-in_default g c = record {
  answer = sym (no_other_question c.args.question (after_moves c.args.moves.now (present_in c.args.entries.now)) c.in_default.not-Size c.in_default.not-Min c.in_default.not-Nth);
  visits = no_visit _ _ _;
}
