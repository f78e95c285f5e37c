-- Evidence is accepted exactly where it is true: by the relations of an edit and its change, over rows that evidence has reported.
use Rattle.std.specs.Prelude.{◌≡◌, ◌↔◌, ◌<◌, ◌≤◌, ℕ, true, false, List, length, map, None}
use Rattle.std.specs.List.{AllByRecursion}
use Rattle.retro_base.specs.declared.kind.Kind.TheVariants.{Pq}
use Rattle.retro_base.specs.declared.row.Row.{Row}
use Rattle.retro_base.specs.declared.row.Change.{Change}
use Rattle.retro_base.specs.Carried.{IsPqEdit, IsPqHistory}
use Rattle.retro_base.specs.Changes.{IsChange, change_of}
use Rattle.retro_base.specs.Edits.{Edit, IsAccepted, add, cut, edited}
use Rattle.retro_base.specs.Limits.{most_rows}
use Rattle.retro_base.specs.Name.{is_name}
use Rattle.evidence.specs.declared.evidence.Evidence.{Evidence}
use Rattle.evidence.specs.Evidence.{IsEvidence, IsPqOp, IsRowNumber}
use Rattle.evidence_check.specs.Truth.{cause_of, has_wrong_number, has_wrong_op, is_full, is_outside, rows_after, reported_edit}

-- rows that evidence has reported: a history of a priority queue, without times
pub record AreReported (rows : List Row) : Type 0 where
  pub history : IsPqHistory rows
  pub timeless : AllByRecursion (λ row. row.time ≡ 0) rows

-- the edit can be made and is accepted, and the change is the one that it makes
pub record IsTrueOf (rows : List Row) (e : Evidence) : Type 0 where
  pub room : is_full e.added rows ≡ false
  pub inside : is_outside e.added e.place rows ≡ false
  pub own_number : has_wrong_number e.added e.number e.place rows ≡ false
  pub own_op : has_wrong_op e.added e.op e.place rows ≡ false
  pub accepted : IsAccepted Pq rows (reported_edit e)
  pub change : IsChange Pq rows (reported_edit e) e.change

-- no cause is found exactly where the evidence is true
abbrev pub TrueIsAccepted : Type 0
TrueIsAccepted = (rows : List Row) (e : Evidence) → AreReported rows → IsEvidence e → (cause_of rows e ≡ None) ↔ IsTrueOf rows e

-- rows that were reported are so still after evidence that is accepted
abbrev pub ReportedStays : Type 0
ReportedStays = (rows : List Row) (e : Evidence) → AreReported rows → IsEvidence e → cause_of rows e ≡ None → AreReported (rows_after rows e)

-- a row without its time, and rows without theirs
abbrev pub without_time : Row → Row
without_time row = record row { time = 0 }

abbrev pub timeless : List Row → List Row
timeless rows = map without_time rows

-- the evidence of an edit of a timeline, with its change
abbrev pub evidence_for : List ℕ → Edit → Change → Evidence
evidence_for name (add place row) change = record { name = name; added = true; place = place; number = row.number; op = row.op; change = change }
evidence_for name (cut place row) change = record { name = name; added = false; place = place; number = row.number; op = row.op; change = change }

-- there is room for the row of an edit
abbrev pub HasRoom : List Row → Edit → Type 0
HasRoom rows (add place row) = length rows < most_rows
HasRoom rows (cut place row) = Unit {0}

-- the evidence of an accepted edit is accepted after the rows without their times, and tells the rows after it
pub record IsReported (rows : List Row) (edit : Edit) (e : Evidence) : Type 0 where
  pub accepted : cause_of (timeless rows) e ≡ None
  pub after : rows_after (timeless rows) e ≡ timeless (edited rows edit)

abbrev pub EditsAreReported : Type 0
EditsAreReported = (rows : List Row) (edit : Edit) (name : List ℕ) → IsPqEdit rows edit → IsAccepted Pq rows edit → HasRoom rows edit
    → IsReported rows edit (evidence_for name edit (change_of Pq rows edit))

-- a row whose number and key are in their ranges, and the row of an edit
abbrev pub IsInRange : Row → Type 0
IsInRange row = IsRowNumber row.number × IsPqOp row.op

abbrev pub edit_row : Edit → Row
edit_row (add place row) = row
edit_row (cut place row) = row

-- where rows are in range the evidence of an accepted edit can be spelled
abbrev pub EditsAreSpelled : Type 0
EditsAreSpelled = (rows : List Row) (edit : Edit) (name : List ℕ) → IsPqEdit rows edit → IsAccepted Pq rows edit → length rows ≤ most_rows
    → is_name name ≡ true → AllByRecursion IsInRange rows → IsInRange (edit_row edit) → IsEvidence (evidence_for name edit (change_of Pq rows edit))
