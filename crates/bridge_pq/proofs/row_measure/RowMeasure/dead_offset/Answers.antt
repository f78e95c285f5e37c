use Rattle.std.proofs.Common.{ap, sym, ◌∙◌, subst, rules}
use Rattle.std.specs.Option.{option_map}
use Rattle.monoid_laws.specs.Extreme.{IsGreatestOffset}
use Rattle.monoid_laws.specs.ExtremeLaws.{offset-extreme_of}
use Rattle.bridge_pq.specs.EntryOrder.{entry_order, entry_total}
use Rattle.bridge_pq.proofs.row_measure.RowMeasure.dead_offset.Goals as goal

pub returns : goal.returns
returns c added is =
    subst (IsGreatestOffset entry_order added) (ap (λ v. option_map (λ p. p.1) v.first) (sym (ap (λ m. m.1.0) c.self.view_is ∙ is)) ∙ (search rules)) (offset-extreme_of entry_total added)
