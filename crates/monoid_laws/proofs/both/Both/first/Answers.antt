use Rattle.std.proofs.Common.{ap, ◌∙◌, rules}
use Rattle.monoid_laws.specs.BothLaws.{first-both_of}
use Rattle.monoid_laws.proofs.both.Both.first.Goals as goal

pub returns-clause-list : goal.returns-clause-list
returns-clause-list g c pairs is = (search rules) ∙ ap (λ p. p.0) (c.self.view_is ∙ is) ∙ first-both_of _ _ _ _ pairs
