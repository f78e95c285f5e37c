-- The rule of checkpoints at an edit, over the width, the places and the number of rows alone: where a checkpoint is made for a row that
-- is put in, how all of them move with the rows, and which of them are left, at which width.
use Rattle.std.specs.Prelude.{◌≡◌, ℕ, ◌+◌, ◌-◌, ◌/◌, ◌≤◌, nat_eq, nat_lt, if◌then◌else◌, true, false, List, [], ◌∷◌, ◌++◌, length, drop, map, reverse, Result, IfOk, OnOk, OnErr}
use Rattle.retro_base.specs.Edits.{Edit, add, cut}
use Rattle.checkpoint_full.specs.Checkpoints.{Checkpointed}
use Rattle.checkpoint_full.specs.Widths.{least_width, made_places, settled, settled_width}

-- a checkpoint after the place stands one further once a row is put in there, and one earlier once the row there is taken out
abbrev pub one_further : ℕ → ℕ → ℕ
one_further place checkpoint = if nat_lt place checkpoint then checkpoint + 1 else checkpoint

abbrev pub one_earlier : ℕ → ℕ → ℕ
one_earlier place checkpoint = if nat_lt place checkpoint then checkpoint - 1 else checkpoint

-- where a checkpoint is made between two neighbours: before a row that comes after all others, and in the middle otherwise
abbrev pub between : ℕ → ℕ → ℕ → ℕ
between earlier later place = if nat_eq place later then later else earlier + (later - earlier) / 2

-- the places once there is room for a row at the place: where the neighbours that it stands between are a width apart or more, one is made
-- between them
abbrev pub with_room : ℕ → ℕ → ℕ → List ℕ → List ℕ
with_room width place later [] = []
with_room width place later (earlier ∷ places) =
    if nat_lt place earlier then earlier ∷ with_room width place earlier places
    else if nat_lt later (earlier + width) then earlier ∷ places
    else between earlier later place ∷ earlier ∷ places

-- all places, the latest first and the start last; none where no checkpoints were made
abbrev pub latest_first : Checkpointed → List ℕ
latest_first now = if now.made then reverse now.places ++ 0 ∷ [] else []

-- those after the start, rising
abbrev pub rising : List ℕ → List ℕ
rising places = drop 1 (reverse places)

-- the places with a row more: first there is room for it, and then each after it stands one further
abbrev pub with_row_more : Checkpointed → ℕ → List ℕ
with_row_more now place = map (one_further place) (with_room now.width place (length now.rows) (latest_first now))

-- the places with a row less: each after it stands one earlier
abbrev pub with_row_less : Checkpointed → ℕ → List ℕ
with_row_less now place = map (one_earlier place) (latest_first now)

-- the width and the places after a row is put in at a place: those with a row more are settled. Where no checkpoints were made there are no
-- places, and the width stays
unfoldable pub width_after_insertion : Checkpointed → ℕ → ℕ
width_after_insertion now place = settled_width now.width (length now.rows + 1) (with_row_more now place)

unfoldable pub places_after_insertion : Checkpointed → ℕ → List ℕ
places_after_insertion now place = rising (settled now.width (length now.rows + 1) (with_row_more now place))

-- the width and the places after the row at a place is taken out: those with a row less are settled
unfoldable pub width_after_removal : Checkpointed → ℕ → ℕ
width_after_removal now place = settled_width now.width (length now.rows - 1) (with_row_less now place)

unfoldable pub places_after_removal : Checkpointed → ℕ → List ℕ
places_after_removal now place = rising (settled now.width (length now.rows - 1) (with_row_less now place))

-- the width and the places after an edit
abbrev pub width_after : Checkpointed → Edit → ℕ
width_after now (add place row) = width_after_insertion now place
width_after now (cut place row) = width_after_removal now place

abbrev pub places_after : Checkpointed → Edit → List ℕ
places_after now (add place row) = places_after_insertion now place
places_after now (cut place row) = places_after_removal now place

-- an edit follows the rule: whether the checkpoints were made stays as it was, the width and the places are those of the rule, and the width
-- never falls
pub record FollowsRule (before : Checkpointed) (edit : Edit) (after : Checkpointed) : Type 0 where
  pub made : after.made ≡ before.made
  pub width : after.width ≡ width_after before edit
  pub places : after.places ≡ places_after before edit
  pub wider : before.width ≤ after.width

-- a question about the past leaves all as it was where the checkpoints were made; where they were not, it makes them, at each multiple of
-- the least width
pub record MakesCheckpoints (before after : Checkpointed) : Type 0 where
  pub made : after.made ≡ true
  pub width : before.made ≡ false → after.width ≡ least_width (length before.rows)
  pub places : before.made ≡ false → after.places ≡ made_places after.width (length before.rows)
  pub same : before.made ≡ true → after ≡ before

-- a question about the past with this answer: the kind and the rows stay; where it is answered, it is so by this answer, and the checkpoints
-- are made; after out of memory all is as before
pub record IsAsked {A E : Type 0} (before : Checkpointed) (answer_there : A) (result : Result A E) (after : Checkpointed) : Type 0 where
  pub kind : after.kind ≡ before.kind
  pub rows : after.rows ≡ before.rows
  pub answer : IfOk result (λ answer. answer ≡ answer_there)
  pub checkpoints : OnOk result (MakesCheckpoints before after)
  pub err : OnErr result (after ≡ before)
