-- The rule of checkpoints, over their places alone: how far apart they may stand, where they are made, and which of them are dropped.
-- Places are those after which a checkpoint has all rows; they are listed the latest first, and the start is the last of them.
use Rattle.std.specs.Prelude.{◌≡◌, ◌⊎◌, ℕ, zero, suc, ◌+◌, ◌-◌, ◌*◌, ◌/◌, ◌<◌, ◌≤◌, nat_le, if◌then◌else◌, List, [], ◌∷◌, ◌++◌, length}

-- the least width, and the greatest
abbrev pub narrowest : ℕ
narrowest = 1024

abbrev pub widest : ℕ
widest = 8192

-- the most checkpoints, the start apart
abbrev pub most_checkpoints : ℕ
most_checkpoints = 31

-- the widths: the most rows between two neighbours, the start and the present among them
abbrev pub IsWidth : ℕ → Type 0
IsWidth width = (width ≡ 1024) ⊎ (width ≡ 2048) ⊎ (width ≡ 4096) ⊎ (width ≡ 8192)

-- how many positive multiples of a width are below so many rows
abbrev pub multiples_below : ℕ → ℕ → ℕ
multiples_below width rows = (rows - 1) / width

-- the least width of which at most 31 positive multiples are below so many rows
abbrev pub least_width : ℕ → ℕ
least_width rows =
    if nat_le (multiples_below 1024 rows) most_checkpoints then 1024
    else if nat_le (multiples_below 2048 rows) most_checkpoints then 2048
    else if nat_le (multiples_below 4096 rows) most_checkpoints then 4096
    else 8192

-- so many positive multiples of a width, rising
abbrev pub multiples : ℕ → ℕ → List ℕ
multiples width zero = []
multiples width (suc count) = multiples width count ++ suc count * width ∷ []

-- the places at which checkpoints are made for so many rows, the start apart, rising
abbrev pub made_places : ℕ → ℕ → List ℕ
made_places width rows = multiples width (multiples_below width rows)

-- from a place back to the last, each is at most a width before the one after it
abbrev pub AreClose : ℕ → ℕ → List ℕ → ℕ → Type 0
AreClose width later [] last = later ≡ last
AreClose width later (place ∷ places) last = (place ≤ later) × (later ≤ place + width) × AreClose width place places last

-- the places that are left when each was dropped whose neighbours, the one that is left after it and the one before it, are at most
-- a width apart
abbrev pub thinned : ℕ → ℕ → List ℕ → List ℕ
thinned width later [] = []
thinned width later (place ∷ []) = place ∷ []
thinned width later (place ∷ earlier ∷ places) =
    if nat_le later (earlier + width) then thinned width later (earlier ∷ places) else place ∷ thinned width place (earlier ∷ places)

-- the first of some places is more than a width before a later one
abbrev pub IsFarFrom : ℕ → ℕ → List ℕ → Type 0
IsFarFrom width later [] = Unit {0}
IsFarFrom width later (earlier ∷ places) = earlier + width < later

-- the neighbours of each place are more than a width apart, so that none of them is dropped
abbrev pub IsThin : ℕ → ℕ → List ℕ → Type 0
IsThin width later [] = Unit {0}
IsThin width later (place ∷ places) = IsFarFrom width later places × IsThin width place places

-- what an edit leaves of the places: they are thinned, and where more than 31 are left besides the start, the width is doubled and they
-- are thinned again
abbrev pub settled_width : ℕ → ℕ → List ℕ → ℕ
settled_width width later places = if nat_le (length (thinned width later places)) (1 + most_checkpoints) then width else 2 * width

abbrev pub settled : ℕ → ℕ → List ℕ → List ℕ
settled width later places =
    if nat_le (length (thinned width later places)) (1 + most_checkpoints) then thinned width later places
    else thinned (2 * width) later (thinned width later places)
