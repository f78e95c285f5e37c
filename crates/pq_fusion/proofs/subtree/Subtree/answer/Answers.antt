use Rattle.std.proofs.Common.{ap, arith, sym}
use Rattle.std.proofs.lemmas.Int.{ints}
use Rattle.retro_base.specs.declared.question.Answer.TheVariants.{Number}
use Rattle.retro_base.specs.Answers.{answer_of}
use Rattle.retro_base.specs.lemmas.EntrySteps.{no_other_question}
use Rattle.pq_fusion.proofs.Paths.{seek_once}
use Rattle.pq_fusion.proofs.subtree.Subtree.answer.Goals as goal

pub returns-in-Size-clause-answer : goal.returns-in-Size-clause-answer
unfolding answer_of
returns-in-Size-clause-answer g c = rw c.in-Size.is (ap (λ n. Number n) (omega (arith, ints, c.left_len.ensures.count, c.left_len.ensures.few)))

pub returns-in-Min-clause-answer : goal.returns-in-Min-clause-answer
unfolding answer_of
returns-in-Min-clause-answer g c = rw (c.in-Min.is, ← c.key_at.ensures.key) c.key_answer.ensures

pub returns-in-Nth-clause-answer : goal.returns-in-Nth-clause-answer
unfolding answer_of
returns-in-Nth-clause-answer g c = rw (c.in-Nth.is, ← c.key_at-in-Nth.ensures.key) c.key_answer-in-Nth.ensures

pub returns-in_default-clause-answer : goal.returns-in_default-clause-answer
returns-in_default-clause-answer g c = sym (no_other_question _ _ c.in_default.not-Size c.in_default.not-Min c.in_default.not-Nth)

pub returns-in-Size-clause-visits : goal.returns-in-Size-clause-visits
returns-in-Size-clause-visits g c = seek_once c.args.self.now.rows _ _ c.left_len.ensures.visits
