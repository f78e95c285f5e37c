use Rattle.std.proofs.Common.{◌≡◌, ◌-◌, ◌≤◌, length, map}
use Rattle.std.specs.List.{AllByRecursion}
use Rattle.checkpoint_full.specs.Checkpoints.{place_of, HoldsFirstRows}
use Rattle.checkpoint_full.specs.Widths.{thinned}
use Rattle.checkpoint_full.proofs.Settled.{thinned_from}
use Rattle.checkpoint_full.proofs.settle.thin.Given as goal

abbrev pub invariant-loop-index : goal.invariant-loop-index
invariant-loop-index g l = record {
  within : l.index ≤ length l.checkpoints.items;
  first : AllByRecursion (HoldsFirstRows l.present) l.checkpoints.items;
  spares : AllByRecursion (HoldsFirstRows l.present) l.spares.items;
  left : thinned_from l.index l.width (place_of l.present) (map place_of l.checkpoints.items)
      ≡ thinned l.width (place_of l.present) (map place_of l.fn.checkpoints.items);
}

abbrev pub decreases-loop-index : goal.decreases-loop-index
decreases-loop-index g l = length l.checkpoints.items - l.index
