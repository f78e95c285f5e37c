-- Rows with a mark that tells whether the entry that they add survives: what they weigh, and what a range of them measures.
use Rattle.std.specs.Prelude.{◌≡◌, ℤ, pos, negsuc, Bool, List, map, if◌then◌else◌, refl}
use Rattle.std.specs.Prelude.{Option, Some, None}
use Rattle.std.specs.List.{AllByRecursion}
use Rattle.std.specs.Ordering.{flip_args}
use Rattle.monoid_laws.specs.Both.{joined_both}
use Rattle.monoid_laws.specs.BothLaws.{both_laws}
use Rattle.monoid_laws.specs.Extreme.{Extreme, no_extreme, joined_extreme, one_element}
use Rattle.monoid_laws.specs.ExtremeLaws.{extreme_laws, least_laws}
use Rattle.monoid_laws.specs.Laws.{MonoidLaws}
use Rattle.bridge_pq.specs.EntryOrder.{entry_order, entry_total}
use Rattle.retro_base.specs.declared.row.Entry.{Entry}
use Rattle.retro_base.specs.declared.row.Row.{Row}
use Rattle.retro_base.specs.MarkedChange.{is_one_of, dead_in, alive_in}
use Rattle.retro_base.specs.Weights.{added_by}
use Rattle.bridge_pq.specs.Dips.{Dip, no_dip, one_dip, joined_dip}
use Rattle.bridge_pq.specs.DipLaws.{dip_laws}
use Rattle.bridge_pq.specs.declared.marked_row.MarkedRow.{MarkedRow}

-- the rows alone
abbrev pub rows_of : List MarkedRow → List Row
rows_of items = map (λ item. item.row) items

-- each mark tells whether the entry that the row adds is among these
abbrev pub AreMarked : List Entry → List MarkedRow → Type 0
AreMarked alive items = AllByRecursion (λ item. item.survives ≡ is_one_of alive (added_by item.row)) items

-- by its mark, what a row weighs that adds this entry, or takes one
abbrev pub weight_in : Bool → Option Entry → ℤ
weight_in survives None = negsuc 0
weight_in survives (Some entry) = if survives then pos 0 else pos 1

-- the weights of marked rows
abbrev pub weights_of : List MarkedRow → List ℤ
weights_of items = map (λ item. weight_in item.survives (added_by item.row)) items

-- what rows measure: none of them, and one range after another
abbrev pub no_rows : Dip × (Extreme Entry × Extreme Entry)
no_rows = (no_dip, (no_extreme, no_extreme))

abbrev pub joined_rows : Dip × (Extreme Entry × Extreme Entry) → Dip × (Extreme Entry × Extreme Entry) → Dip × (Extreme Entry × Extreme Entry)
joined_rows = joined_both joined_dip (joined_both (joined_extreme entry_order) (joined_extreme (flip_args entry_order)))

pub rows_laws : MonoidLaws (λ m. m.0.items) no_rows joined_rows
rows_laws = both_laws dip_laws (both_laws (extreme_laws entry_total) (least_laws entry_total))

-- what one marked row measures
abbrev pub row_measure : MarkedRow → Dip × (Extreme Entry × Extreme Entry)
row_measure item = (
  one_dip (weight_in item.survives (added_by item.row)),
  (one_element (dead_in item.survives (added_by item.row)), one_element (alive_in item.survives (added_by item.row))),
)

pub one_dip-items : (x : ℤ) → (one_dip x).items ≡ 1
one_dip-items (pos n) = refl
one_dip-items (negsuc n) = refl

pub row_measure-items : (item : MarkedRow) → (row_measure item).0.items ≡ 1
row_measure-items item = one_dip-items (weight_in item.survives (added_by item.row))
