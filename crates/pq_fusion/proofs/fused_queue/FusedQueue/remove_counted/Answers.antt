use Rattle.std.proofs.Common.{length, ap, ◌∙◌, arith, sym}
use Rattle.std.specs.List.{remove}
use Rattle.pq_fusion.specs.Wear.{WornRows}
use Rattle.pq_fusion.proofs.Walked.{queue_visits, row_and_tree, row_visits, tree_and_queue, tree_visits}
use Rattle.pq_fusion.proofs.Worn.{rare_seen}
use Rattle.pq_fusion.proofs.fused_queue.FusedQueue.remove_counted.Goals as goal

pub returns-clause-rare : goal.returns-clause-rare
returns-clause-rare g c =
    let seen = sym c.self.view_is in
    rare_seen c.self.inside.rows c.edit.new.self c.args.self.now c.remove.new.self _ _ (ap (λ (s : WornRows). s.rows) seen ∙ sym c.self.invariant) (ap (λ (s : WornRows). s.wear) seen) c.in_ok-edit.ensures.rare

pub returns-in_err-edit-clause-visits : goal.returns-in_err-edit-clause-visits
returns-in_err-edit-clause-visits g c =
    let n = length c.args.self.now.rows in
    let size = ap length (ap (λ (s : WornRows). s.rows) (sym c.self.view_is) ∙ sym c.self.invariant) in
    row_and_tree n _ c.row_at-row.new.steps _ (row_visits n c.self.inside.rows.rows _ _ (omega (arith, size)) c.row_at-row.ensures.visits)
    (tree_visits n c.self.inside.rows.rows _ _ (omega (arith, size)) c.edit.ensures.visits)

pub returns-clause-visits : goal.returns-clause-visits
returns-clause-visits g c =
    let n = length c.args.self.now.rows in
    let size = ap length (ap (λ (s : WornRows). s.rows) (sym c.self.view_is) ∙ sym c.self.invariant) in
    tree_and_queue n _ c.row_at-row.new.steps c.edit.new.steps _ (row_visits n c.self.inside.rows.rows _ _ (omega (arith, size)) c.row_at-row.ensures.visits)
    (tree_visits n c.self.inside.rows.rows _ _ (omega (arith, size)) c.edit.ensures.visits)
    (queue_visits n (length c.self.inside.queue) _ _ (omega (arith, size, ap length c.self.invariant)) c.remove.ensures.visits)

pub invariant_of-self-2 : goal.invariant_of-self-2
invariant_of-self-2 g c =
    c.in_ok-edit.ensures.rows ∙ ap (λ rows. remove rows c.args.place) c.self.invariant ∙ sym c.remove.ensures.rows
