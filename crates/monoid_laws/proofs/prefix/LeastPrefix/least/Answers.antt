use Rattle.std.proofs.Common.{ap, ◌∙◌, subst, arith}
use Rattle.std.proofs.lemmas.Int.{ints}
use Rattle.monoid_laws.specs.Walk.{lowest_of, IsLeastPrefix}
use Rattle.monoid_laws.specs.WalkLaws.{lowest-walk_of}
use Rattle.monoid_laws.proofs.prefix.LeastPrefix.least.Goals as goal

pub returns-clause-list : goal.returns-clause-list
returns-clause-list c xs is =
    let below = ap lowest_of (c.self.view_is ∙ is) in
    subst (IsLeastPrefix xs) (omega (arith, ints)) (lowest-walk_of xs)
