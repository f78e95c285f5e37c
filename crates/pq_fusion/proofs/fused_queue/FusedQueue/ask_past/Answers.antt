use Rattle.std.proofs.Common.{◌≡◌, ◌≤◌, ap, ◌∙◌, sym, subst, take, length, arith}
use Rattle.retro_base.specs.declared.kind.Kind.TheVariants.{Pq}
use Rattle.retro_base.specs.Answers.{answer_of}
use Rattle.retro_base.specs.Limits.{most_rows}
use Rattle.retro_base.specs.Replay.{state_at}
use Rattle.retro_base.specs.State.{entries}
use Rattle.bridge_pq.specs.Bridged.{AreAdded}
use Rattle.pq_fusion.specs.EntryCounts.{left_by}
use Rattle.pq_fusion.specs.Searches.{AskedWithin, SizedWithin}
use Rattle.pq_fusion.specs.Wear.{WornRows}
use Rattle.pq_fusion.proofs.Paths.{seek_digits, walk_digits}
use Rattle.pq_fusion.proofs.Replays.{state_is_left}
use Rattle.pq_fusion.proofs.fused_queue.FusedQueue.ask_past.Goals as goal

pub answer-requires-clause-added : goal.answer-requires-clause-added
answer-requires-clause-added g c = subst (λ rows. AreAdded rows c.added.result) (sym c.self.invariant) c.added.ensures

pub returns-clause-answer : goal.returns-clause-answer
returns-clause-answer g c =
    let state : state_at Pq c.args.self.now.rows c.args.place ≡ entries (left_by (take c.args.place c.self.inside.rows.rows)) =
    ap (λ rows. state_at Pq rows c.args.place) (sym (ap (λ (seen : WornRows). seen.rows) c.self.view_is)) ∙ state_is_left c.self.inside.queue c.args.place c.kind-replayable.ensures.replayable
    ∙ ap (λ rows. entries (left_by (take c.args.place rows))) (sym c.self.invariant) in
    c.answer.ensures.answer ∙ ap (λ s. answer_of s c.args.question) (sym state)

pub returns-clause-visits : goal.returns-clause-visits
returns-clause-visits g c =
    let same : c.self.inside.rows.rows ≡ c.args.self.now.rows = c.self.invariant ∙ ap (λ (seen : WornRows). seen.rows) c.self.view_is in
    let few : length c.self.inside.rows.rows ≤ most_rows = omega (arith, ap length c.self.invariant, c.kind-replayable.ensures.replayable.few) in
    subst (λ rows. AskedWithin (length rows) c.args.steps.now c.answer.new.steps) same (seek_digits (length c.self.inside.rows.rows) few _ _ c.answer.ensures.visits)

pub returns-clause-size_visits : goal.returns-clause-size_visits
returns-clause-size_visits g c = λ asked.
    let same : c.self.inside.rows.rows ≡ c.args.self.now.rows = c.self.invariant ∙ ap (λ (seen : WornRows). seen.rows) c.self.view_is in
    let few : length c.self.inside.rows.rows ≤ most_rows = omega (arith, ap length c.self.invariant, c.kind-replayable.ensures.replayable.few) in
    subst (λ rows. SizedWithin (length rows) c.args.steps.now c.answer.new.steps) same (walk_digits (length c.self.inside.rows.rows) few _ _ (c.answer.ensures.size_visits asked))
