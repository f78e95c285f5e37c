use Rattle.std.proofs.Common.{ℕ, ◌+◌, ◌-◌, ◌*◌, ◌≤◌, ◌∙◌, List, length, ap, arith}
use Rattle.std.proofs.lemmas.List.{length-take-le}
use Rattle.std.specs.List.{insert}
use Rattle.retro_base.specs.declared.row.Row.{Row}
use Rattle.costs.specs.VisitsLaws.{visits-more, visits-then}
use Rattle.retro_base.specs.lemmas.FirstRows.{insert_next, next_can_come}
use Rattle.retro_base.proofs.partial.Partial.copy_after.Goals as goal

pub insert-requires-clause-replayable : goal.insert-requires-clause-replayable
insert-requires-clause-replayable g c =
    next_can_come _ _ _ _ c.loop-at.at _ c.loop-at.invariant.kind c.loop-at.invariant.rows c.kind-kind.ensures.replayable c.row_at.ensures.row

pub returns-in_err-insert-clause-visits : goal.returns-in_err-insert-clause-visits
returns-in_err-insert-clause-visits g c =
    let own = length (g.Self.Partial.rows c.args.self.now) in
    let later = g.Self.Partial.rows c.args.later.now in
    let at : ℕ = c.loop-at.at in
    let within : at ≤ length later = omega (arith, c.loop-at-test.true, c.requires.within) in
    let long = ap (λ (rows : List Row). length rows) (c.in_err-insert.ensures.err ∙ c.loop-at.invariant.rows) ∙ length-take-le at later within in
    visits-more (288 * (at - own) + 144 + 144) _ _ _ _ (omega (arith, c.loop-at.auto.at, c.loop-at-test.true, c.len-at.ensures.length))
    (visits-then (288 * (at - own) + 144) 144 _ _ _ _ _ (omega (arith, long))
    (visits-then (288 * (at - own)) 144 _ _ _ _ _ (omega arith) c.loop-at.invariant.visits c.row_at.ensures.visits) c.insert.ensures.visits)

pub loop-at-preserved : goal.loop-at-preserved
loop-at-preserved g c =
    let own = length (g.Self.Partial.rows c.args.self.now) in
    let later = g.Self.Partial.rows c.args.later.now in
    let at : ℕ = c.loop-at.at in
    let next = c.in_ok-insert.ensures.rows ∙ ap (λ (rows : List Row). insert rows at c.row_at.result) c.loop-at.invariant.rows
    ∙ insert_next later at c.row_at.result c.row_at.ensures.row in
    let within : at + 1 ≤ length later = omega (arith, c.loop-at-test.true, c.requires.within) in
    let long = ap (λ (rows : List Row). length rows) next ∙ length-take-le (at + 1) later within in
    record {
      kind = c.insert.ensures.kind ∙ c.loop-at.invariant.kind;
      rows = next;
      visits = visits-more (288 * (at - own) + 144 + 144) _ _ _ _ (omega (arith, c.loop-at.auto.at, c.loop-at-test.true, c.len-at.ensures.length))
          (visits-then (288 * (at - own) + 144) 144 _ _ _ _ _ (omega (arith, long))
          (visits-then (288 * (at - own)) 144 _ _ _ _ _ (omega arith) c.loop-at.invariant.visits c.row_at.ensures.visits) c.insert.ensures.visits);
    }
