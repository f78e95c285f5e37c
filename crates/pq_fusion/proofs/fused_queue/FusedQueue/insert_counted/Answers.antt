use Rattle.std.proofs.Common.{◌+◌, List, length, ap, ◌∙◌, subst, sym}
use Rattle.retro_base.specs.declared.row.Row.{Row}
use Rattle.pq_fusion.specs.Searches.{EditedWithin}
use Rattle.pq_fusion.specs.Wear.{WornRows}
use Rattle.pq_fusion.proofs.Worn.{on_ok, rare_seen}
use Rattle.pq_fusion.proofs.fused_queue.FusedQueue.insert_counted.Goals as goal

pub returns-clause-rare : goal.returns-clause-rare
returns-clause-rare g c =
    let seen = sym c.self.view_is in
    on_ok _ _ c.insert_into_both.result
    (rare_seen c.self.inside.rows c.insert_into_both.new.rows c.args.self.now c.insert_into_both.new.queue _ _ (ap (λ (s : WornRows). s.rows) seen ∙ sym c.self.invariant) (ap (λ (s : WornRows). s.wear) seen))
    c.insert_into_both.ensures.rare

pub returns-clause-visits : goal.returns-clause-visits
returns-clause-visits g c =
    subst (λ (l : List Row). EditedWithin (length l + 1) c.args.steps.now c.insert_into_both.new.steps) (ap (λ (s : WornRows). s.rows) c.self.view_is) c.insert_into_both.ensures.visits
