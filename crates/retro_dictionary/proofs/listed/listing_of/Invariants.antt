use Rattle.retro_dictionary.proofs.ListedPairs.{IsListed}
use Rattle.retro_dictionary.proofs.listed.listing_of.Given as goal

abbrev pub invariant-loop-pair : goal.invariant-loop-pair
invariant-loop-pair l = IsListed l.held l.listing l.pair-index
