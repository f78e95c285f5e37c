use Rattle.std.proofs.Common.{◌≡◌, ℕ, ◌+◌, ◌*◌}
use Rattle.std.specs.List.{slice_get}
use Rattle.costs.specs.Visits.{VisitsWithin}
use Rattle.bridge_pq.proofs.held.Held.take_nth.Given as goal

abbrev pub invariant-loop : goal.invariant-loop
invariant-loop g l = record {
  of : l.self.of ≡ l.initial.self.of;
  entries : (further : ℕ) → slice_get l.self.entries further ≡ slice_get l.initial.self.entries (l.counter + further);
  visits : VisitsWithin (56 * (l.counter + 1)) l.fn.self.of l.fn.steps l.steps;
}
