-- A row more or less.
use Rattle.std.specs.Prelude.{◌≡◌, ℕ, ◌+◌, ◌-◌, ◌<◌, ◌≤◌, Bool, List, length, slice_get, is_some, not, nat_le, nat_lt, Option, Some}
use Rattle.std.specs.List.{insert, remove}
use Rattle.retro_base.specs.declared.kind.Kind.TheVariants.{Pq}
use Rattle.retro_base.specs.declared.row.Entry.{Entry}
use Rattle.retro_base.specs.declared.row.Row.{Row}
use Rattle.retro_base.specs.Kind.{kind_of}
use Rattle.retro_base.specs.Limits.{most_rows}
use Rattle.retro_base.specs.Weights.{added_by}
use Rattle.pq_fusion.specs.declared.bound.Bound.{Bound}
use Rattle.pq_fusion.specs.declared.row_edit.RowEdit.{RowEdit}
use Rattle.pq_fusion.specs.declared.row_edit.Way.{Way}
use Rattle.pq_fusion.specs.declared.row_edit.Way.TheVariants.{Put, Cut}
use Rattle.pq_fusion.specs.Edits.{Passes, own_of}
use Rattle.pq_fusion.specs.Pieces.{tolerant}

-- there is room for the row that is put in, or the row that is taken out stands there
abbrev pub IsPossible : Way → List Row → ℕ → Row → Type 0
IsPossible Put rows place row = (place ≤ length rows) × (length rows < most_rows) × (kind_of row.op ≡ Pq)
IsPossible Cut rows place row = slice_get rows place ≡ Some row

abbrev pub CanBeMade : RowEdit → List Row → Type 0
CanBeMade edit rows = IsPossible edit.way rows edit.place edit.row

-- the rows after the edit
abbrev pub rows_after : Way → List Row → ℕ → Row → List Row
rows_after Put rows place row = insert rows place row
rows_after Cut rows place row = remove rows place

abbrev pub edited : RowEdit → List Row → List Row
edited edit rows = rows_after edit.way rows edit.place edit.row

-- how many rows so many are after it
abbrev pub count_after : Way → ℕ → ℕ
count_after Put rows = rows + 1
count_after Cut rows = rows - 1

-- the edit is made in the earlier of two sides, which has so many rows
abbrev pub is_first : Way → ℕ → ℕ → Bool
is_first Put place earlier = nat_le place earlier
is_first Cut place earlier = nat_lt place earlier

-- the edit as it is seen behind so many rows
abbrev pub past : RowEdit → ℕ → RowEdit
past edit rows = record { way = edit.way; place = edit.place - rows; row = edit.row }

-- the rows leave an entry more, or one less
abbrev pub gains_by : Way → Option Entry → Bool
gains_by Put added = is_some added
gains_by Cut added = not (is_some added)

-- what passes between what rows leave and what they do not, where the edit leads from one to the other
abbrev pub PassesAs : Way → Row → Bound → List Row → List Row → Type 0
PassesAs way row x before after = Passes (gains_by way (added_by row)) (own_of (added_by row)) x (tolerant before) (tolerant after)

abbrev pub PassesBy : RowEdit → Bound → List Row → Type 0
PassesBy edit x rows = PassesAs edit.way edit.row x rows (edited edit rows)
