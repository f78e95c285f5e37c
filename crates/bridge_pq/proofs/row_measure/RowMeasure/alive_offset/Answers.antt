use Rattle.std.proofs.Common.{ap, sym, ◌∙◌, subst, rules}
use Rattle.std.specs.Cmp.{back_total}
use Rattle.std.specs.Option.{option_map}
use Rattle.std.specs.Ordering.{flip_args}
use Rattle.monoid_laws.specs.Extreme.{IsGreatestOffset}
use Rattle.monoid_laws.specs.ExtremeLaws.{offset-extreme_of}
use Rattle.bridge_pq.specs.EntryOrder.{entry_order, entry_total}
use Rattle.bridge_pq.proofs.row_measure.RowMeasure.alive_offset.Goals as goal

pub returns : goal.returns
returns c added is =
    subst (IsGreatestOffset (flip_args entry_order) added) (ap (λ v. option_map (λ p. p.1) v.first) (sym (ap (λ m. m.1.1) c.self.view_is ∙ is)) ∙ (search rules)) (offset-extreme_of (back_total entry_total) added)
