use Rattle.std.proofs.Common.{◌≡◌, ap, ◌∙◌, sym, take, length, arith}
use Rattle.retro_base.specs.declared.kind.Kind.TheVariants.{Pq}
use Rattle.retro_base.specs.Replay.{state_at}
use Rattle.retro_base.specs.State.{entries}
use Rattle.pq_fusion.specs.EntryCounts.{left_by}
use Rattle.pq_fusion.specs.Wear.{WornRows}
use Rattle.pq_fusion.proofs.Replays.{state_is_left, if_ok_more}
use Rattle.pq_fusion.proofs.Prefixes.{left_few}
use Rattle.pq_fusion.proofs.fused_queue.FusedQueue.remaining.Goals as goal

pub returns-clause-state : goal.returns-clause-state
returns-clause-state c =
    let state : state_at Pq c.args.self.now.rows c.args.place ≡ entries (left_by (take c.args.place c.self.inside.rows.rows)) =
    ap (λ rows. state_at Pq rows c.args.place) (sym (ap (λ (seen : WornRows). seen.rows) c.self.view_is)) ∙ state_is_left c.self.inside.queue c.args.place c.kind-replayable.ensures.replayable
    ∙ ap (λ rows. entries (left_by (take c.args.place rows))) (sym c.self.invariant) in
    if_ok_more c.remaining.result (λ left is. state ∙ ap entries (sym is)) c.remaining.ensures

pub returns-clause-few : goal.returns-clause-few
returns-clause-few c =
    if_ok_more c.remaining.result (λ left is. left_few c.self.inside.rows.rows c.args.place left.items (omega (arith, ap length c.self.invariant, c.kind-replayable.ensures.replayable.few)) is) c.remaining.ensures
