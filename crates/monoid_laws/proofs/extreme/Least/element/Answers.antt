use Rattle.std.proofs.Common.{ap, sym, ◌∙◌, subst, rules}
use Rattle.std.specs.Option.{option_map}
use Rattle.std.specs.Ordering.{flip_args}
use Rattle.std.specs.Cmp.{back_total}
use Rattle.monoid_laws.specs.Extreme.{IsGreatestElement}
use Rattle.monoid_laws.specs.ExtremeLaws.{element-extreme_of}
use Rattle.monoid_laws.proofs.extreme.Least.element.Goals as goal

pub returns-clause-list : goal.returns-clause-list
returns-clause-list g c items is =
    subst (IsGreatestElement (flip_args g.E.Ord.cmp) items) (ap (λ v. option_map (λ p. p.0) v.first) (sym (c.self.view_is ∙ is)) ∙ (search rules)) (element-extreme_of (back_total g.met.E.Ord.total) items)
