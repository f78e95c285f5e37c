use Rattle.std.proofs.Common.{◌≡◌, ◌≤◌, length, sym, ap, ◌∙◌, subst, rules, slice_get}
use Rattle.std.proofs.lemmas.Int.{to_z-of_z}
use Rattle.std.specs.Option.{option_map}
use Rattle.retro_base.specs.declared.kind.Kind.TheVariants.{Pq}
use Rattle.retro_base.specs.declared.question.Answer.TheVariants.{Number}
use Rattle.retro_base.specs.declared.question.Question.TheVariants.{Size, Min, Nth}
use Rattle.retro_base.specs.Answers.{answer_of, number_of, key_of}
use Rattle.retro_base.specs.Replay.{present}
use Rattle.costs.specs.VisitsLaws.{visits-longer}
use Rattle.bridge_pq.specs.MarkedEntries.{present_in}
use Rattle.bridge_pq.proofs.Costs.{visits-more}
use Rattle.bridge_pq.proofs.Present.{size-answer, min-answer, nth-answer, entries-few}
use Rattle.bridge_pq.proofs.bridge_queue.BridgeQueuePartial.ask_now.Goals as goal

pub returns-in-Size-clause-answer : goal.returns-in-Size-clause-answer
returns-in-Size-clause-answer g c =
    let reported : answer_of (present Pq c.args.self.now) Size ≡ Number c.size_of_present.result =
    subst (λ l. answer_of (present Pq l) Size ≡ Number c.size_of_present.result) c.self.view_is
    (size-answer c.self.inside.rows c.self.inside.entries c.self.invariant ∙ ap (λ n. Number n) (sym c.size_of_present.ensures.size)) in
    rw c.in-Size.is (search (rules, to_z-of_z, reported, sym))

pub returns-in-Size-clause-visits : goal.returns-in-Size-clause-visits
returns-in-Size-clause-visits g c = visits-longer 144 (length c.self.inside.entries) (length c.args.self.now) _ _
    (subst (λ l. length c.self.inside.entries ≤ length l) c.self.view_is (entries-few c.self.inside.rows c.self.inside.entries c.self.invariant))
    (visits-more 12 132 (length c.self.inside.entries) _ _ c.size_of_present.ensures.visits)

pub returns-in-Min-clause-answer : goal.returns-in-Min-clause-answer
returns-in-Min-clause-answer g c =
    rw c.in-Min.is (c.key_answer.ensures ∙ ap (λ e. number_of (option_map key_of e)) c.nth_present.ensures.entry
    ∙ sym (subst (λ l. answer_of (present Pq l) Min ≡ number_of (option_map key_of (slice_get (present_in c.self.inside.entries) 0))) c.self.view_is
    (min-answer c.self.inside.rows c.self.inside.entries c.self.invariant)))

pub returns-in-Min-clause-visits : goal.returns-in-Min-clause-visits
returns-in-Min-clause-visits g c = visits-longer 144 (length c.self.inside.entries) (length c.args.self.now) _ _
    (subst (λ l. length c.self.inside.entries ≤ length l) c.self.view_is (entries-few c.self.inside.rows c.self.inside.entries c.self.invariant))
    (visits-more 24 120 (length c.self.inside.entries) _ _ c.nth_present.ensures.visits)

pub returns-in-Nth-clause-answer : goal.returns-in-Nth-clause-answer
returns-in-Nth-clause-answer g c =
    rw c.in-Nth.is (c.key_answer-in-Nth.ensures ∙ ap (λ e. number_of (option_map key_of e)) c.nth_present-in-Nth.ensures.entry
    ∙ sym (subst (λ l. answer_of (present Pq l) (Nth c.in-Nth.index)
    ≡ number_of (option_map key_of (slice_get (present_in c.self.inside.entries) c.in-Nth.index))) c.self.view_is
    (nth-answer c.self.inside.rows c.self.inside.entries c.self.invariant c.in-Nth.index)))

pub returns-in-Nth-clause-visits : goal.returns-in-Nth-clause-visits
returns-in-Nth-clause-visits g c = visits-longer 144 (length c.self.inside.entries) (length c.args.self.now) _ _
    (subst (λ l. length c.self.inside.entries ≤ length l) c.self.view_is (entries-few c.self.inside.rows c.self.inside.entries c.self.invariant))
    (visits-more 24 120 (length c.self.inside.entries) _ _ c.nth_present-in-Nth.ensures.visits)
