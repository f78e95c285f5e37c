use Rattle.std.proofs.Common.{ap, ◌∙◌, arith}
use Rattle.std.proofs.lemmas.Int.{ints}
use Rattle.monoid_laws.specs.Walk.{end_of}
use Rattle.monoid_laws.specs.WalkLaws.{end-opposite_walk_of}
use Rattle.monoid_laws.proofs.prefix.GreatestPrefix.sum.Goals as goal

pub returns-clause-list : goal.returns-clause-list
returns-clause-list c xs is =
    let end = ap end_of (c.opposite.view_is ∙ c.self.view_is ∙ is) in
    omega (arith, ints, end-opposite_walk_of xs)
