use Rattle.std.proofs.Common.{◌≡◌, ◌+◌, ◌-◌, ◌*◌}
use Rattle.costs.specs.Visits.{VisitsWithin}
use Rattle.checkpoint_full.specs.Checkpoints.{first_of, place_of}
use Rattle.checkpoint_full.proofs.snapshot.Snapshot.roll_back.Given as goal

abbrev pub invariant-loop : goal.invariant-loop
invariant-loop g l = record {
  rows : l.self ≡ first_of (place_of l.fn.self + l.place - l.counter) l.fn.self;
  end : l.end ≡ place_of l.fn.self;
  visits : VisitsWithin (144 * (l.counter - l.place)) (place_of l.fn.self) l.fn.steps l.steps;
}
