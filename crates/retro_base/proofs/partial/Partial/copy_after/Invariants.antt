use Rattle.std.proofs.Common.{◌≡◌, ◌-◌, ◌*◌, length, take}
use Rattle.costs.specs.Visits.{VisitsWithin}
use Rattle.retro_base.proofs.partial.Partial.copy_after.Given as goal

abbrev pub invariant-loop-at : goal.invariant-loop-at
invariant-loop-at g l = record {
  kind : g.Self.Partial.kind l.copy ≡ g.Self.Partial.kind l.later;
  rows : g.Self.Partial.rows l.copy ≡ take l.at (g.Self.Partial.rows l.later);
  visits : VisitsWithin (288 * (l.at - length (g.Self.Partial.rows l.fn.self))) (length (g.Self.Partial.rows l.later)) l.fn.steps l.steps;
}
