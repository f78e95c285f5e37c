-- The change of an edit, read off rows that are marked by whether their entries survive.
use Rattle.std.specs.Prelude.{ℕ, suc, ◌-◌, Bool, false, List, take, drop, if◌then◌else◌}
use Rattle.std.specs.Prelude.{Option, Some, None, option_map}
use Rattle.std.specs.Option.{option_map_or}
use Rattle.retro_base.specs.declared.row.Change.{Change}
use Rattle.retro_base.specs.declared.row.Change.TheVariants.{Gain, Lose}
use Rattle.retro_base.specs.declared.row.Entry.{Entry}
use Rattle.retro_base.specs.declared.row.Row.{Row}
use Rattle.retro_base.specs.Better.{comes_after, better_of, best_among}
use Rattle.retro_base.specs.Bridges.{survivors, survives, is_among, last_bridge, first_bridge}
use Rattle.retro_base.specs.Edits.{Edit, add, cut}
use Rattle.retro_base.specs.State.{comes_before}
use Rattle.retro_base.specs.Weights.{added_by}

-- the mark of a row that adds this entry, where these survive
abbrev pub is_one_of : List Entry → Option Entry → Bool
is_one_of alive added = option_map_or (is_among alive) added false

-- by its mark, the added entry if it is dead, and if it survives
abbrev pub dead_in : Bool → Option Entry → Option Entry
dead_in survives added = if survives then None else added

abbrev pub alive_in : Bool → Option Entry → Option Entry
alive_in survives added = if survives then added else None

abbrev pub dead_entry : List Entry → Row → Option Entry
dead_entry alive row = dead_in (is_one_of alive (added_by row)) (added_by row)

abbrev pub alive_entry : List Entry → Row → Option Entry
alive_entry alive row = alive_in (is_one_of alive (added_by row)) (added_by row)

-- the greatest dead entry from a place on, and the least survivor before a place
abbrev pub greatest_dead : List Row → ℕ → Option Entry
greatest_dead rows place = best_among comes_before (dead_entry (survivors rows)) None (drop place rows)

abbrev pub least_survivor : List Row → ℕ → Option Entry
least_survivor rows place = best_among comes_after (alive_entry (survivors rows)) None (take place rows)

-- the greatest of an entry and the dead ones from a bridge on is gained, and the least survivor before a bridge is lost
abbrev pub gained : List Row → ℕ → Option Entry → Option Change
gained rows bridge new = option_map (λ entry. Gain bridge entry) (better_of comes_before new (greatest_dead rows bridge))

abbrev pub lost : List Row → ℕ → Option Change
lost rows bridge = option_map (λ entry. Lose (Some bridge) entry) (least_survivor rows bridge)

-- a row that takes, or adds this entry, is put in
abbrev pub added_change : List Row → ℕ → Option Entry → Option Change
added_change rows place None = lost rows (first_bridge rows place)
added_change rows place (Some new) = gained rows (last_bridge rows place) (Some new)

-- it is cut
abbrev pub cut_change : List Row → ℕ → Option Entry → Option Change
cut_change rows place None = gained rows (last_bridge rows place) None
cut_change rows place (Some own) = if survives rows own then Some (Lose None own) else lost rows (first_bridge rows (suc place))

-- the change of an edit; there is none where the rows after it do not replay
abbrev pub marked_change : List Row → Edit → Option Change
marked_change rows (add place row) = added_change rows place (added_by row)
marked_change rows (cut place row) = cut_change rows place (added_by row)

-- the index at which they fail first
abbrev pub marked_failure : List Row → Edit → ℕ
marked_failure rows (add place row) = first_bridge rows place
marked_failure rows (cut place row) = first_bridge rows (suc place) - 2
