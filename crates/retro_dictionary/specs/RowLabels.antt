-- The rule by which a row of a dictionary gets its label, which knows how many rows were put in since all were relabelled, and what came in lately beside
-- its place.
use Rattle.std.specs.Prelude.{ℕ, ◌+◌, ◌-◌, ◌/◌, ◌^◌, Bool, false, ◌&&◌, max, min, nat_eq, nat_le, nat_lt, Option, Some, None, List, length, slice_get, if◌then◌else◌}
use Rattle.std.specs.Int.{next_multiple_of}
use Rattle.order_labels.specs.LabelLaws.{least_insertions}
use Rattle.order_labels.specs.Labels.{label_limit, label_before, label_after as label_later, has_room, exponent}
use Rattle.std.specs.Option.{option_map_or}
use Rattle.retro_base.specs.declared.row.Row.{Row}
use Rattle.retro_base.specs.Limits.{most_rows}
use Rattle.retro_dictionary.specs.declared.recent.RecentNeighbour.{RecentNeighbour}
use Rattle.retro_dictionary.specs.declared.recent.RecentNeighbour.TheVariants.{Before, After, Neither}
use Rattle.retro_dictionary.specs.RelabellingLaw.{CountingRule}

-- the greatest power of two up to a distance: lifetimes between round labels are made up of few spans
abbrev pub rounded : ℕ → ℕ
rounded distance = 2 ^ exponent (max distance 1)

-- the place is after all rows, and there are some
abbrev pub is_after_all : List ℕ → ℕ → Bool
is_after_all labels place = nat_eq place (length labels) && nat_lt 0 place

-- how far it may come from the last one: half the gap between that one and the one before it, but a quarter of the room that
-- is left at the most, and at the least as much as there is for each row if as many more came as there may be
abbrev pub distance_after : ℕ → ℕ → ℕ
distance_after gap room = max (room / most_rows) (min (gap / 2) (room / 4))

abbrev pub unit_after : ℕ → ℕ → ℕ
unit_after gap room = rounded (distance_after gap room)

-- the first multiple of a unit that lies a whole unit after a label
abbrev pub unit_further : ℕ → ℕ → ℕ
unit_further unit label = next_multiple_of label unit + unit

-- the label of such a row, by the last two labels
abbrev pub label_after : ℕ → ℕ → ℕ
label_after former last = unit_further (unit_after (last - former) (label_limit - last)) last

-- so far apart labels have to lie after the next insertion, that there are enough of them before all rows are relabelled
abbrev pub owed : ℕ → ℕ
owed so_far = 2 ^ (least_insertions - 1 - so_far)

-- the gap before the label before a place, and the one after the label after it; the limit where there is no such label
abbrev pub gap_before : List ℕ → ℕ → ℕ
gap_before labels place = if nat_lt 0 place then label_before 0 labels place - label_before 0 labels (place - 1) else label_limit

abbrev pub gap_after : List ℕ → ℕ → ℕ
gap_after labels place = if nat_lt place (length labels) then label_later label_limit labels (place + 1) - label_later label_limit labels place else label_limit

-- a row came in lately before another one: its number is less, by 8 at the most
abbrev pub is_recent : ℕ → ℕ → Bool
is_recent number next = nat_lt number next && nat_le next (number + 8)

abbrev pub is_lately : Option Row → ℕ → Bool
is_lately found next = option_map_or (λ (row : Row). is_recent row.number next) found false

-- what came in lately beside a place, before the row with a number: the row before it, the one after it, or neither; after all rows none is looked at
abbrev pub recent_beside : List Row → ℕ → ℕ → RecentNeighbour
recent_beside rows place next =
    if nat_eq place (length rows) then Neither else if nat_lt 0 place && is_lately (slice_get rows (place - 1)) next then Before else if is_lately (slice_get rows place) next then After else Neither

-- how far a row comes from one that came in lately, with this gap beyond that one: the next ones come on the other side of it, most
-- likely. So it is half that gap, but a quarter of the gap at the place at the most, and a part of it at the least
abbrev pub distance_beside : ℕ → ℕ → ℕ
distance_beside near gap = max (gap / 4096) (min (near / 2) (gap / 4))

-- and the middle where neither came in lately
abbrev pub distance_by : RecentNeighbour → ℕ → ℕ → ℕ → ℕ
distance_by Before left gap right = distance_beside left gap
distance_by After left gap right = distance_beside right gap
distance_by Neither left gap right = gap / 2

-- as far as is owed too, but half the gap at the place at the most
abbrev pub unit_beside : RecentNeighbour → ℕ → ℕ → ℕ → ℕ → ℕ
unit_beside recent so_far left gap right = rounded (min (gap / 2) (max (owed so_far) (distance_by recent left gap right)))

-- the label of a row before others, by the labels beside it and the gaps beyond them
abbrev pub label_beside : RecentNeighbour → ℕ → ℕ → ℕ → ℕ → ℕ → ℕ
label_beside Before so_far left before after right = before + unit_beside Before so_far left (after - before) right
label_beside After so_far left before after right = after - unit_beside After so_far left (after - before) right
label_beside Neither so_far left before after right = before + unit_beside Neither so_far left (after - before) right

-- the label of a row at a place
abbrev pub row_label : RecentNeighbour → ℕ → List ℕ → ℕ → ℕ
row_label recent so_far labels place =
    if is_after_all labels place then
    label_after (label_before 0 labels (place - 1)) (label_before 0 labels place)
    else
    label_beside recent so_far (gap_before labels place) (label_before 0 labels place) (label_later label_limit labels place) (gap_after labels place)

-- it gets this label where a number lies between those beside the place
abbrev pub row_rule : RecentNeighbour → CountingRule
row_rule recent so_far labels place = if has_room labels place then Some (row_label recent so_far labels place) else None
