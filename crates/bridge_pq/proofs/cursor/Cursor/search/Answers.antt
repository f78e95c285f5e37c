use Rattle.std.proofs.Common.{◌≡◌, ◌≤◌, ◌+◌, ◌-◌, ◌∙◌, length, ap, sym, subst, arith, rules}
use Rattle.std.specs.List.{slice_get}
use Rattle.costs.specs.Visits.{VisitsWithin}
use Rattle.bridge_pq.specs.Gathered.{count_to, EndsAt, Left}
use Rattle.bridge_pq.specs.MarkedEntries.{present_in}
use Rattle.bridge_pq.proofs.Costs.{visits_read}
use Rattle.bridge_pq.proofs.CursorEntries.{count_up_to, found_first, none_found, window_read}
use Rattle.bridge_pq.proofs.cursor.Cursor.search.Goals as goal

pub returns-in_err-end-clause-taken : goal.returns-in_err-end-clause-taken
returns-in_err-end-clause-taken g c =
    none_found c.self.inside.entries.now c.self.inside.passed _ _ (ap (λ (v : Left). v.entries) (sym c.self.view_is))
    (ap (slice_get (present_in c.self.inside.entries.now)) (sym c.from.ensures) ∙ c.in_err-end.ensures.end) c.from_residual.ensures

pub overflow_add-self : goal.overflow_add-self
overflow_add-self g c =
    let ends = c.in_ok-end.ensures.end in
    let within : (c.in_ok-end.end - 1) + c.read-count.result ≤ length c.self.inside.entries.now = omega (arith, ends.some, ends.within, c.read-count.ensures.count) in
    search rules

pub overflow_add-self-2 : goal.overflow_add-self-2
overflow_add-self-2 g c =
    let passed : count_to c.self.inside.entries.now c.in_ok-end.end ≡ c.self.inside.passed + 1 = subst (λ i. count_to c.self.inside.entries.now c.in_ok-end.end ≡ i + 1) c.from.ensures c.in_ok-end.ensures.end.passed in
    let within : c.self.inside.passed + 1 ≤ length c.self.inside.entries.now = omega (arith, passed, count_up_to c.self.inside.entries.now c.in_ok-end.end) in
    search rules

pub invariant_of-self : goal.invariant_of-self
invariant_of-self g c =
    window_read c.self.inside.entries.now c.self.inside.window c.read-count.new.items c.self.inside.passed c.in_ok-end.end c.read-count.result
    (subst (λ i. EndsAt c.self.inside.entries.now i c.in_ok-end.end) c.from.ensures c.in_ok-end.ensures.end) (omega (arith, c.read-count.ensures.count)) (search rules)
    (c.read-count.ensures.items (λ item. item) (λ item answer call. search rules))

pub returns-clause-taken : goal.returns-clause-taken
returns-clause-taken g c =
    let long : length c.self.inside.window ≡ 32 = search rules in
    found_first c.self.inside.entries.now c.self.inside.window c.read-count.new.items c.self.inside.passed c.in_ok-end.end c.read-count.result
    (subst (λ i. EndsAt c.self.inside.entries.now i c.in_ok-end.end) c.from.ensures c.in_ok-end.ensures.end) (omega (arith, c.read-count.ensures.count)) (search rules)
    (c.read-count.ensures.items (λ item. item) (λ item answer call. search rules)) _ _ (ap (λ (v : Left). v.entries) (sym c.self.view_is)) (omega (arith, c.in_ok-end.ensures.end.some, c.in_ok-end.ensures.end.within, c.read-count.ensures.count, long)) (search rules)

pub returns-clause-visits : goal.returns-clause-visits
returns-clause-visits g c =
    subst (λ (v : Left). VisitsWithin 56 v.of c.args.steps.now c.read-count.new.steps) c.self.view_is
    (visits_read c.read-count.result (length c.self.inside.entries.now) _ _ _ (search rules) c.end_of_present.ensures.visits c.read-count.ensures.visits)
