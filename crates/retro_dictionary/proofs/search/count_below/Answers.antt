use Rattle.std.proofs.Common.{◌≤ℤ◌, arith}
use Rattle.std.proofs.lemmas.Int.{ints}
use Rattle.retro_dictionary.specs.declared.search.Bound.TheVariants.{Below}
use Rattle.retro_dictionary.proofs.RangeOfPairs.{none_up_to, not_below}
use Rattle.retro_dictionary.proofs.search.count_below.Goals as goal

pub returns-then-low-eqminus9223372036854775808-clause-below : goal.returns-then-low-eqminus9223372036854775808-clause-below
returns-then-low-eqminus9223372036854775808-clause-below c = λ number.
    none_up_to (Below c.args.low) c.args.items.now c.requires.lawful.ordered
    (λ pair there. not_below c.args.low pair (let least : c.args.low ≤ℤ pair.0 = omega (arith, ints, (number pair there).0) in least))
