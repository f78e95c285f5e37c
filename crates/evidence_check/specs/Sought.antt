-- What is sought among marked rows beside a place.
use Rattle.std.specs.Prelude.{ℕ, Bool, List, take, drop, Option}
use Rattle.retro_base.specs.declared.row.Entry.{Entry}
use Rattle.retro_base.specs.Better.{comes_after}
use Rattle.retro_base.specs.State.{comes_before}
use Rattle.evidence_check.specs.declared.better.Sought.{Sought}
use Rattle.evidence_check.specs.declared.better.Sought.TheVariants.{Dead, Alive}
use Rattle.evidence_check.specs.declared.weighed_row.WeighedRow.{WeighedRow}
use Rattle.evidence_check.specs.Marks.{alive_entry, dead_entry, greatest_dead, least_alive}

-- the entry of a row that counts, and whether it is worse than another one
abbrev pub shown_by : Sought → WeighedRow → Option Entry
shown_by Dead = dead_entry
shown_by Alive = alive_entry

abbrev pub beaten_in : Sought → Entry → Entry → Bool
beaten_in Dead = comes_before
beaten_in Alive = comes_after

-- the greatest dead entry from a place on, or the least one that survives before it
abbrev pub best_beside : Sought → ℕ → List WeighedRow → Option Entry
best_beside Dead place marked = greatest_dead (drop place marked)
best_beside Alive place marked = least_alive (take place marked)
