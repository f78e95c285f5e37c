use Rattle.std.proofs.Common.{ap, ◌∙◌, rules}
use Rattle.monoid_laws.specs.Walk.{end_of}
use Rattle.monoid_laws.specs.WalkLaws.{end-walk_of}
use Rattle.monoid_laws.proofs.prefix.LeastPrefix.sum.Goals as goal

pub returns-clause-list : goal.returns-clause-list
returns-clause-list c xs is = (search rules) ∙ ap end_of (c.self.view_is ∙ is) ∙ end-walk_of xs
