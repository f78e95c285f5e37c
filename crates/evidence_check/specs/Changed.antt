-- The row whose mark changes by an edit.
use Rattle.std.specs.Prelude.{◌≡◌, ℕ, ◌+◌, Bool, true, false, nat_lt, List, if◌then◌else◌, Option, Some, None}
use Rattle.retro_base.specs.declared.row.Change.{Change}
use Rattle.retro_base.specs.declared.row.Change.TheVariants.{Plain, Gain, Lose}
use Rattle.retro_base.specs.declared.row.Entry.{Entry}
use Rattle.retro_base.specs.Weights.{added_as}
use Rattle.evidence.specs.declared.evidence.Evidence.{Evidence}
use Rattle.evidence_check.specs.declared.weighed_row.WeighedRow.{WeighedRow}
use Rattle.evidence_check.specs.Marks.{entry_of}
use Rattle.evidence_check.specs.Parts.{marked_at, shows_at}

-- the entry that a change names, and whether it survives from now on
abbrev pub changed_entry : Change → Option Entry
changed_entry Plain = None
changed_entry (Gain bridge entry) = Some entry
changed_entry (Lose bridge entry) = Some entry

abbrev pub is_gain : Change → Bool
is_gain Plain = false
is_gain (Gain bridge entry) = true
is_gain (Lose bridge entry) = false

-- where it stands before the edit; nowhere, where it is the row of the edit itself
abbrev pub IsChanged : List WeighedRow → Evidence → Option ℕ → Type 0
IsChanged marked e None = added_as e.op e.number ≡ changed_entry e.change
IsChanged marked e (Some place) = shows_at entry_of marked place ≡ changed_entry e.change

-- where it stands once a row was put in
abbrev pub moved_place : ℕ → Option ℕ → ℕ
moved_place added None = added
moved_place added (Some place) = if nat_lt place added then place else place + 1

-- the rows with this mark there, if it stands somewhere
abbrev pub marked_where : Option ℕ → Bool → List WeighedRow → List WeighedRow
marked_where None alive marked = marked
marked_where (Some place) alive marked = marked_at place alive marked
