use Rattle.std.proofs.Common.{◌∷◌, ◌++◌, [], map}
use Rattle.std.specs.List.{AllByRecursion}
use Rattle.checkpoint_full.specs.Checkpoints.{place_of, HoldsFirstRows}
use Rattle.checkpoint_full.specs.Widths.{multiples_below, AreClose}
use Rattle.checkpoint_full.proofs.Made.{AreToCome}
use Rattle.checkpoint_full.proofs.checkpoints.make.Given as goal

abbrev pub invariant-loop-latest : goal.invariant-loop-latest
invariant-loop-latest g l = record {
  first : AllByRecursion (HoldsFirstRows l.present) l.checkpoints.items;
  latest : HoldsFirstRows l.present l.latest;
  close : AreClose l.width (place_of l.present) (map place_of l.checkpoints.items ++ place_of l.latest ∷ []) (place_of l.latest);
  to_come : AreToCome l.width (multiples_below l.width (place_of l.present)) (place_of l.present) l.checkpoints.items l.latest;
}

abbrev pub decreases-loop-latest : goal.decreases-loop-latest
decreases-loop-latest g l = place_of l.latest
