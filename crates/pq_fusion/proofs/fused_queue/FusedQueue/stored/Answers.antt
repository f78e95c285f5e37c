use Rattle.std.proofs.Common.{◌≡◌, ap, ◌+◌, ◌*◌, ◌^◌, ◌≤◌, length, ◌∙◌, arith, subst}
use Rattle.retro_base.specs.BridgeTable.{added}
use Rattle.costs.specs.Digits.{digits}
use Rattle.pq_fusion.specs.Wear.{WornRows}
use Rattle.pq_fusion.proofs.Stored.{levels-of_digits, added_few, more_rows}
use Rattle.pq_fusion.proofs.fused_queue.FusedQueue.stored.Goals as goal

pub returns-clause-levels : goal.returns-clause-levels
returns-clause-levels c = λ levels.
    let same : c.self.inside.rows.rows ≡ c.args.self.now.rows = c.self.invariant ∙ ap (λ (seen : WornRows). seen.rows) c.self.view_is in
    subst (λ xs. levels * length (added xs) ≤ c.stored.result + 16 * 2 ^ levels) same (c.stored.ensures.levels levels)

pub returns-clause-entries : goal.returns-clause-entries
returns-clause-entries c =
    let same : c.self.inside.rows.rows ≡ c.args.self.now.rows = c.self.invariant ∙ ap (λ (seen : WornRows). seen.rows) c.self.view_is in
    let rows = c.args.self.now.rows in
    let most : c.stored.result ≤ length (added rows) * (3 * digits (length rows + 1)) =
    subst (λ xs. c.stored.result ≤ length (added xs) * (3 * digits (length xs + 1))) same
    (c.stored.ensures.most (3 * digits (length c.self.inside.rows.rows + 1)) (levels-of_digits (length c.self.inside.rows.rows + 1))) in
    omega (arith, most)

pub returns-clause-most : goal.returns-clause-most
returns-clause-most c =
    let rows = c.args.self.now.rows in
    more_rows c.stored.result (length (added rows)) (length rows) (digits (length rows + 1)) (added_few rows) (omega (arith, returns-clause-entries c))
