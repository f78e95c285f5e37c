use Rattle.std.proofs.Common.{◌≡◌, ◌≤◌, ◌+◌, ◌∙◌, drop, length, ap, sym, subst, arith, rules}
use Rattle.bridge_pq.specs.declared.cursor.Cursor.TheInside.{Inside}
use Rattle.bridge_pq.specs.Gathered.{IsWindow, Left}
use Rattle.bridge_pq.specs.MarkedEntries.{present_in}
use Rattle.bridge_pq.proofs.CursorEntries.{dead_passed, next_read, passed_fits, window_further}
use Rattle.bridge_pq.proofs.cursor.Cursor.take_read.Goals as goal

pub overflow_add-self : goal.overflow_add-self
overflow_add-self c =
    let now = c.loop-place.self-inside in
    let window = subst (λ (s : Inside). IsWindow s.entries.now s.window s.passed s.place s.start s.end) (sym c.loop-place.invariant.same) c.self.invariant in
    let long : length now.window ≡ 32 = search rules in
    let live = c.loop-place.invariant.live c.loop-place-test.true in
    let within : now.passed + 1 ≤ length now.entries.now = passed_fits now.entries.now now.window now.passed now.place now.start now.end c.loop-place.place window long live c.loop-place-test.true c.if-item.true in
    let same : now.entries.now ≡ c.self.inside.entries.now = ap (λ (s : Inside). s.entries.now) c.loop-place.invariant.same in
    let few : now.passed + 1 ≤ c.len-few.result = omega (arith, within, ap length same, c.len-few.ensures) in
    search rules

pub invariant_of-self : goal.invariant_of-self
invariant_of-self c =
    let now = c.loop-place.self-inside in
    let window = subst (λ (s : Inside). IsWindow s.entries.now s.window s.passed s.place s.start s.end) (sym c.loop-place.invariant.same) c.self.invariant in
    let long : length now.window ≡ 32 = search rules in
    let live = c.loop-place.invariant.live c.loop-place-test.true in
    window_further now.entries.now now.window now.passed now.place now.start now.end c.loop-place.place window long live c.loop-place-test.true c.if-item.true

pub returns-then-item-clause-taken : goal.returns-then-item-clause-taken
returns-then-item-clause-taken c =
    let now = c.loop-place.self-inside in
    let window = subst (λ (s : Inside). IsWindow s.entries.now s.window s.passed s.place s.start s.end) (sym c.loop-place.invariant.same) c.self.invariant in
    let long : length now.window ≡ 32 = search rules in
    let live = c.loop-place.invariant.live c.loop-place-test.true in
    ap (λ (v : Left). v.entries) (sym c.self.view_is) ∙ ap (λ (s : Inside). drop s.passed (present_in s.entries.now)) (sym c.loop-place.invariant.same)
    ∙ next_read now.entries.now now.window now.passed now.place now.start now.end c.loop-place.place window long live c.loop-place-test.true c.if-item.true

pub loop-place-preserved : goal.loop-place-preserved
loop-place-preserved c =
    let now = c.loop-place.self-inside in
    let window = subst (λ (s : Inside). IsWindow s.entries.now s.window s.passed s.place s.start s.end) (sym c.loop-place.invariant.same) c.self.invariant in
    let long : length now.window ≡ 32 = search rules in
    let live = c.loop-place.invariant.live c.loop-place-test.true in
    record {
      same = c.loop-place.invariant.same;
      live = λ more. (omega (arith, live.0), dead_passed now.entries.now now.window now.passed now.place now.start now.end c.loop-place.place window long live c.loop-place-test.true c.if-item.false);
    }
