use Rattle.std.proofs.Common.{ap, ◌∙◌, subst, arith}
use Rattle.std.proofs.lemmas.Int.{ints}
use Rattle.monoid_laws.specs.Walk.{lowest_of, IsGreatestPrefix}
use Rattle.monoid_laws.specs.WalkLaws.{highest-opposite_walk_of}
use Rattle.monoid_laws.proofs.prefix.GreatestPrefix.greatest.Goals as goal

pub returns-clause-list : goal.returns-clause-list
returns-clause-list c xs is =
    let below = ap lowest_of (c.opposite.view_is ∙ c.self.view_is ∙ is) in
    subst (IsGreatestPrefix xs) (omega (arith, ints)) (highest-opposite_walk_of xs)
