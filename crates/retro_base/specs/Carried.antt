-- An edit of a priority queue carries one entry along: after it the new states are the old ones with one entry more, or
-- with one fewer.
use Rattle.std.specs.Prelude.{◌≡◌, ℕ, ◌+◌, suc, Bool, true, false, not, is_some, List}
use Rattle.retro_base.specs.declared.kind.Kind.TheVariants.{Pq}
use Rattle.retro_base.specs.declared.row.Entry.{Entry}
use Rattle.retro_base.specs.declared.row.Row.{Row}
use Rattle.retro_base.specs.Kind.{kind_of}
use Rattle.retro_base.specs.Replay.{IsValid}
use Rattle.retro_base.specs.Timeline.{IsFresh, HaveOwnNumbers, AreOfKind}
use Rattle.retro_base.specs.Edits.{Edit, add, cut, edited, inverse, IsWithin}
use Rattle.retro_base.specs.Bridges.{entries_at, survivors}
use Rattle.retro_base.specs.Changes.{Joins}
use Rattle.retro_base.specs.Weights.{added_by}

-- rows of a priority queue, with numbers of their own, that replay whole
pub record IsPqHistory (rows : List Row) : Type 0 where
  pub of_kind : AreOfKind Pq rows
  pub own_numbers : HaveOwnNumbers rows
  pub valid : IsValid Pq rows

-- an added row is of the kind and has a number of its own
abbrev pub AddsOwnRow : List Row → Edit → Type 0
AddsOwnRow rows (add place row) = (kind_of row.op ≡ Pq) × IsFresh row.number rows
AddsOwnRow rows (cut place row) = Unit {0}

-- an edit that can be made in such rows
pub record IsPqEdit (rows : List Row) (edit : Edit) : Type 0 where
  pub history : IsPqHistory rows
  pub within : IsWithin rows edit
  pub own_row : AddsOwnRow rows edit

-- the place just after an edit among the rows before it, and among those after it
abbrev pub old_start : Edit → ℕ
old_start (add place row) = place
old_start (cut place row) = suc place

abbrev pub new_start : Edit → ℕ
new_start edit = old_start (inverse edit)

-- the edit gives: a row that adds is put in, or one that takes is taken out
abbrev pub gives : Edit → Bool
gives (add place row) = is_some (added_by row)
gives (cut place row) = not (is_some (added_by row))

-- the new entries are the old ones and this one, or the old ones without it
abbrev pub Differ : Bool → Entry → List Entry → List Entry → Type 0
Differ true entry old new = Joins entry old new
Differ false entry old new = Joins entry new old

-- the edit carries this entry so many rows after it
abbrev pub Carries : List Row → Edit → ℕ → Entry → Type 0
Carries rows edit more entry = Differ (gives edit) entry (entries_at rows (old_start edit + more)) (entries_at (edited rows edit) (new_start edit + more))

-- the presents before and after the edit differ by this entry
abbrev pub ChangesBy : List Row → Edit → Entry → Type 0
ChangesBy rows edit entry = Differ (gives edit) entry (survivors rows) (survivors (edited rows edit))
