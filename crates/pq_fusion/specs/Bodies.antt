-- How a list of entries is kept: in one vector, or in chunks.
use Rattle.std.specs.Prelude.{◌<◌, ◌≤◌, List, length, vec_capacity, vec_len}
use Rattle.retro_base.specs.declared.row.Entry.{Entry}
use Rattle.retro_base.specs.EntriesInOrder.{AreInOrder}
use Rattle.retro_base.specs.Limits.{most_rows}
use Rattle.pq_fusion.specs.declared.entry_list.Body.{Body}
use Rattle.pq_fusion.specs.declared.entry_list.Body.TheVariants.{Whole, Parted}
use Rattle.pq_fusion.specs.declared.entry_list.RoomyBody.{RoomyBody}
use Rattle.pq_fusion.specs.declared.entry_list.RoomyBody.TheVariants as roomy

abbrev pub kept_in : Body → List Entry
kept_in (Whole entries) = entries.items
kept_in (Parted chunks) = chunks

abbrev pub IsSoundBody : Body → Type 0
IsSoundBody (Whole entries) = AreInOrder entries.items × (length entries.items ≤ most_rows)
IsSoundBody (Parted chunks) = Unit {0}

-- the same with room for one more entry
abbrev pub kept_in_roomy : RoomyBody → List Entry
kept_in_roomy (roomy.Whole entries) = entries.items
kept_in_roomy (roomy.Parted chunks) = chunks

abbrev pub IsRoomyBody : RoomyBody → Type 0
IsRoomyBody (roomy.Whole entries) = AreInOrder entries.items × (length entries.items ≤ most_rows) × (vec_len entries < vec_capacity entries)
IsRoomyBody (roomy.Parted chunks) = Unit {0}
