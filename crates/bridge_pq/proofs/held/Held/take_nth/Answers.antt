use Rattle.std.proofs.Common.{◌≡◌, ◌+◌, ◌-◌, ◌∙◌, min, ap, arith}
use Rattle.std.specs.List.{slice_get}
use Rattle.costs.specs.VisitsLaws.{visits-again}
use Rattle.bridge_pq.specs.Gathered.{HeldLater}
use Rattle.bridge_pq.proofs.GatheredEntries.{at_most_index, nth_beyond}
use Rattle.bridge_pq.proofs.held.Held.take_nth.Goals as goal
use Rattle.retro_base.specs.Facts.{get_drop}

pub loop-preserved : goal.loop-preserved
loop-preserved g c =
    record {
      of = c.take.ensures.of ∙ c.loop.invariant.of;
      entries = λ further. ap (λ xs. slice_get xs further) c.take.ensures.taken.others ∙ get_drop c.loop.self.entries 1 further ∙ c.loop.invariant.entries (1 + further)
          ∙ ap (slice_get c.pass.new.self.entries) (let same : c.loop.counter + (1 + further) ≡ c.loop.counter + 1 + further = omega arith in same);
      visits = visits-again 56 (c.loop.counter + 1) (c.loop.counter + 1 + 1) _ _ _ _ _ (omega arith) (omega (arith, c.loop.invariant.of, c.pass.ensures.of)) c.loop.invariant.visits c.take.ensures.visits;
    }

pub returns-clause-entry : goal.returns-clause-entry
returns-clause-entry g c =
    let near : c.loop.counter + 0 ≡ c.min-near.result = omega (arith, c.loop.auto.counter-end, c.loop-test.false) in
    c.take-2.ensures.taken.first ∙ c.loop.invariant.entries 0 ∙ ap (slice_get c.pass.new.self.entries) near
    ∙ nth_beyond c.args.self.now.entries c.pass.new.self.entries c.args.self.now.fresh c.min-near.result (c.min-index.result - c.min-near.result) c.min-index.result
    (c.min-near.ensures ∙ ap (λ n. min n c.from-2.result) (c.len.ensures ∙ ap (λ (v : HeldLater). v.fresh) c.self.view_is) ∙ ap (min c.args.self.now.fresh) c.from-2.ensures) (let same : c.min-index.result - c.min-near.result ≡ c.min-index.result - c.min-near.result = omega arith in same)
    c.pass.ensures.none c.pass.ensures.beyond
    ∙ ap (slice_get c.args.self.now.entries) (c.min-index.ensures ∙ ap (min c.args.index) c.from.ensures)
    ∙ at_most_index c.args.self.now.entries c.args.index 131072 c.requires.few
