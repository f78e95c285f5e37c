use Rattle.std.proofs.Common.{◌≡◌, ◌++◌, map}
use Rattle.retro_base.specs.declared.question.Item.TheVariants.{Pair}
use Rattle.retro_base.proofs.pairs.listing_of_pairs.Given as goal

abbrev pub invariant-loop-key : goal.invariant-loop-key
invariant-loop-key l = l.listing ++ map (λ pair. Pair pair.0 pair.1) l.key-iterator ≡ map (λ pair. Pair pair.0 pair.1) l.held.entries
