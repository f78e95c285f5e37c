use Rattle.std.proofs.Common.{◌≡◌, ◌-◌, ◌*◌}
use Rattle.costs.specs.Visits.{VisitsWithin}
use Rattle.checkpoint_full.specs.Checkpoints.{HoldsFirstRows, place_of}
use Rattle.checkpoint_full.proofs.snapshot.Snapshot.roll_forward.Given as goal

abbrev pub invariant-loop : goal.invariant-loop
invariant-loop g l = record {
  first : HoldsFirstRows l.timeline l.self;
  place : place_of l.self ≡ l.counter;
  visits : VisitsWithin (288 * (l.counter - place_of l.fn.self)) (place_of l.timeline) l.fn.steps l.steps;
}
