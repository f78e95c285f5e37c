use Rattle.std.proofs.Common.{ap, ◌∙◌, rules}
use Rattle.monoid_laws.specs.SummedLaws.{sum-measure_of}
use Rattle.monoid_laws.proofs.sum.Sum.sum.Goals as goal

pub returns-clause-list : goal.returns-clause-list
returns-clause-list c xs is =
    (search rules) ∙ ap (λ a. a.sum) (c.self.view_is ∙ is) ∙ sum-measure_of xs
