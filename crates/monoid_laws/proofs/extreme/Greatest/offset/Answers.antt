use Rattle.std.proofs.Common.{ap, sym, ◌∙◌, subst, rules}
use Rattle.std.specs.Option.{option_map}
use Rattle.monoid_laws.specs.Extreme.{IsGreatestOffset}
use Rattle.monoid_laws.specs.ExtremeLaws.{offset-extreme_of}
use Rattle.monoid_laws.proofs.extreme.Greatest.offset.Goals as goal

pub returns-clause-list : goal.returns-clause-list
returns-clause-list g c items is =
    subst (IsGreatestOffset g.E.Ord.cmp items) (ap (λ v. option_map (λ p. p.1) v.first) (sym (c.self.view_is ∙ is)) ∙ (search rules)) (offset-extreme_of g.met.E.Ord.total items)
