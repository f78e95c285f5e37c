use Rattle.std.proofs.Common.{SFits, refl, arith, rules}
use Rattle.std.specs.Int.{w128}
use Rattle.std.proofs.lemmas.Int.{wrapping_add_is}
use Rattle.retro_dictionary.proofs.MeasuredPairs.{same}
use Rattle.retro_dictionary.proofs.RangeOfPairs.{counts-fit}
use Rattle.retro_dictionary.proofs.search.PairSearchDecomposable.combine.Goals as goal

pub overflow_add-result : goal.overflow_add-result
overflow_add-result c = omega (arith, counts-fit c.args.first c.args.second c.requires.together)

pub returns : goal.returns
returns c =
    let first_fits : SFits w128 c.args.first.sum = search rules in
    let second_fits : SFits w128 c.args.second.sum = search rules in
    same _ _ _ _ _ _ _ _ refl (wrapping_add_is w128 c.args.first.sum c.args.second.sum first_fits second_fits) c.lesser.ensures c.greater.ensures
