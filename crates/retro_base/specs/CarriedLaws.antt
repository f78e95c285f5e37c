-- Laws on the entry that an edit carries along; each is the contract of a function of `src/laws.rt`. After an edit both
-- lists have the same rows, and their states differ by one entry. Where a row takes this entry from the one list, it takes the
-- next one from the other, and the states differ by that one from then on.
--
--     rows              ins 4    ins 6    delmin
--     held          .        4       4 6       6
--     with ins 2    2       2 4     2 4 6     4 6        put in at the beginning
--     carried       2        2        2        4         so the 4 is gained
use Rattle.std.specs.Prelude.{◌≡◌, ℕ, ◌+◌, suc, ◌≤◌, true, false, List, length, slice_get, Some}
use Rattle.retro_base.specs.declared.kind.Kind.TheVariants.{Pq}
use Rattle.retro_base.specs.declared.row.Entry.{Entry}
use Rattle.retro_base.specs.declared.row.Row.{Row}
use Rattle.retro_base.specs.Edits.{Edit, IsAccepted}
use Rattle.retro_base.specs.Bridges.{IsBridge}
use Rattle.retro_base.specs.Weights.{added_by}
use Rattle.retro_base.specs.Carried.{IsPqEdit, old_start, gives, Carries, ChangesBy}

-- an edit that gives is accepted
abbrev pub GivingIsAccepted : Type 0
GivingIsAccepted = (rows : List Row) (edit : Edit) → IsPqEdit rows edit → gives edit ≡ true → IsAccepted Pq rows edit

-- at each place after an accepted edit the states differ by exactly one entry
abbrev pub OneIsCarried : Type 0
OneIsCarried = (rows : List Row) (edit : Edit) (more : ℕ) → IsPqEdit rows edit → IsAccepted Pq rows edit
    → (entry : Entry) × Carries rows edit more entry

-- so do the presents
abbrev pub PresentsDifferByOne : Type 0
PresentsDifferByOne = (rows : List Row) (edit : Edit) → IsPqEdit rows edit → IsAccepted Pq rows edit
    → (entry : Entry) × ChangesBy rows edit entry

-- a row that adds an entry leaves the carried one as it is
abbrev pub AddingCarriesOn : Type 0
AddingCarriesOn = (rows : List Row) (edit : Edit) (more : ℕ) (row : Row) (added entry : Entry) → IsPqEdit rows edit → IsAccepted Pq rows edit
    → slice_get rows (old_start edit + more) ≡ Some row → added_by row ≡ Some added
    → Carries rows edit more entry → Carries rows edit (suc more) entry

-- an entry that is missing at a bridge is the one that is missing from there on
abbrev pub MissingStaysFromBridge : Type 0
MissingStaysFromBridge = (rows : List Row) (edit : Edit) (more further : ℕ) (entry : Entry) → IsPqEdit rows edit → IsAccepted Pq rows edit
    → gives edit ≡ false → old_start edit + more ≤ length rows → IsBridge rows (old_start edit + more)
    → Carries rows edit more entry → Carries rows edit (more + further) entry
