-- The checkpoints of a timeline: structures that perform its first rows, so close to one another that few rows lie between.
use Rattle.std.specs.Prelude.{◌≡◌, ℕ, ◌+◌, ◌<◌, ◌≤◌, nat_le, nat_lt, if◌then◌else◌, Bool, true, false, List, [], ◌∷◌, length, take, drop, map, reverse}
use Rattle.std.specs.Prelude.{Option, Some, None}
use Rattle.std.specs.List.{insert, remove, AllByRecursion}
use Rattle.retro_base.specs.declared.kind.Kind.{Kind}
use Rattle.retro_base.specs.declared.row.Row.{Row}
use Rattle.retro_base.specs.Edits.{Edit, add, edited}
use Rattle.retro_base.specs.Replay.{IsValid}
use Rattle.retro_base.specs.Timeline.{IsReplayable, Structure}
use Rattle.checkpoint_full.specs.Widths.{most_checkpoints, AreClose, IsThin, IsWidth}

-- what is seen of a structure with checkpoints: beside its rows whether the checkpoints were made, the most rows between
-- neighbours, and the places of those after the start, rising
pub record Checkpointed : Type 0 where
  pub kind : Kind
  pub rows : List Row
  pub made : Bool
  pub width : ℕ
  pub places : List ℕ

-- the structure after an edit
abbrev pub after : Structure → Edit → Structure
after now edit = record { kind = now.kind; rows = edited now.rows edit }

-- the structure with the first rows alone
abbrev pub first_of : ℕ → Structure → Structure
first_of count now = record { kind = now.kind; rows = take count now.rows }

-- a row can be put in at the place
abbrev pub CanTake : Structure → ℕ → Row → Type 0
CanTake now place row = IsReplayable now.kind (insert now.rows place row)

-- the place of a checkpoint: it stands after so many rows
abbrev pub place_of : Structure → ℕ
place_of checkpoint = length checkpoint.rows

-- it performs the first rows of the timeline, as many as it stands for
abbrev pub HoldsFirstRows : Structure → Structure → Type 0
HoldsFirstRows now checkpoint = checkpoint ≡ first_of (place_of checkpoint) now

-- the checkpoints of a timeline once they were made, the latest first: neighbours are close, the present and the start
-- among them, and the start is the last of them
pub record AreCheckpoints (width : ℕ) (now : Structure) (checkpoints : List Structure) : Type 0 where
  pub first_rows : AllByRecursion (HoldsFirstRows now) checkpoints
  pub close : AreClose width (place_of now) (map place_of checkpoints) 0

-- none of them would be dropped, and there are at most 31 besides the start
pub record AreSettled (width : ℕ) (now : Structure) (checkpoints : List Structure) : Type 0 where
  pub thin : IsThin width (place_of now) (map place_of checkpoints)
  pub few : length checkpoints ≤ 1 + most_checkpoints

-- whether they were made
abbrev pub were_made : List Structure → Bool
were_made [] = false
were_made (checkpoint ∷ checkpoints) = true

-- the places of those after the start, rising
abbrev pub places_of : List Structure → List ℕ
places_of checkpoints = drop 1 (reverse (map place_of checkpoints))

-- a structure stands between two places, or at one of them
abbrev pub stands_within : ℕ → ℕ → Structure → Bool
stands_within from to structure = if nat_le from (place_of structure) then nat_le (place_of structure) to else false

-- they are kept where they were made
abbrev pub KeepsCheckpoints : ℕ → Structure → List Structure → Type 0
KeepsCheckpoints width now checkpoints = were_made checkpoints ≡ true → AreCheckpoints width now checkpoints

-- what stays true of them, whatever is edited and asked
pub record KeepsRule (width : ℕ) (now : Structure) (checkpoints : List Structure) : Type 0 where
  pub of_widths : IsWidth width
  pub kept : KeepsCheckpoints width now checkpoints
  pub settled : AreSettled width now checkpoints

-- what is seen of a present and its checkpoints
abbrev pub seen : ℕ → Structure → List Structure → Checkpointed
seen width now checkpoints =
    record { kind = now.kind; rows = now.rows; made = were_made checkpoints; width = width; places = places_of checkpoints }

-- a checkpoint after a row was put into the timeline at a place: it has the row where it stands after the place
abbrev pub with_row : ℕ → Row → Structure → Structure
with_row place row checkpoint = if nat_lt place (place_of checkpoint) then after checkpoint (add place row) else checkpoint

-- a checkpoint after the row at a place was taken out of the timeline
abbrev pub without_row : ℕ → Structure → Structure
without_row place checkpoint =
    if nat_lt place (place_of checkpoint) then record { kind = checkpoint.kind; rows = remove checkpoint.rows place } else checkpoint

-- one more row fits between the neighbours of the place
abbrev pub FitsBetween : ℕ → ℕ → ℕ → List ℕ → Type 0
FitsBetween width place later [] = Unit {0}
FitsBetween width place later (earlier ∷ places) = (place < earlier → FitsBetween width place earlier places) × (earlier ≤ place → later < earlier + width)

-- a checkpoint can follow an insertion, and be taken back from it
abbrev pub CanFollow : ℕ → Row → Structure → Type 0
CanFollow place row checkpoint = place < place_of checkpoint → CanTake checkpoint place row × IsValid checkpoint.kind checkpoint.rows

-- a checkpoint can follow a removal
abbrev pub CanLose : ℕ → Structure → Type 0
CanLose place checkpoint = place < place_of checkpoint → IsValid checkpoint.kind (remove checkpoint.rows place)

-- the checkpoints without the one that was made at this index, where one was
abbrev pub without_made : Option ℕ → List Structure → List Structure
without_made None checkpoints = checkpoints
without_made (Some index) checkpoints = remove checkpoints index
