-- What was reported of a timeline, after evidence that is taken or refused.
use Rattle.std.proofs.Common.{◌≡◌, ℕ, List, ap, Result, Ok, Err}
use Rattle.std.specs.Prelude.{OnOk}
use Rattle.retro_base.specs.declared.row.Row.{Row}
use Rattle.evidence.specs.declared.evidence.Evidence.{Evidence}
use Rattle.evidence_check.specs.declared.error.CheckError.{CheckError}
use Rattle.evidence_check.specs.declared.weighed_row.WeighedRow.{WeighedRow}
use Rattle.evidence_check.specs.Judgement.{Reported}
use Rattle.evidence_check.specs.Marks.{changed_marks, edited_rows, weighed_row, rows_of}
use Rattle.evidence_check.specs.Truth.{rows_after}
use Rattle.evidence_check.proofs.Marks.{rows_reported}

abbrev reported_as : List ℕ → List Row → Reported
reported_as name rows = record { name = name; rows = rows }

-- the marked rows after evidence
abbrev pub marked_after : List WeighedRow → Evidence → List WeighedRow
marked_after marked e = changed_marks e.change (edited_rows marked e.added e.place (weighed_row e))

pub reported_by : {X : Type 0} (r : Result X CheckError) (name : List ℕ) (old new : List WeighedRow) (now : Reported) (e : Evidence) → ◌≡◌ {A = Reported} (record { name = name; rows = rows_of old }) now
    → OnOk r (new ≡ marked_after old e) → OnOk r (◌≡◌ {A = Reported} (record { name = name; rows = rows_of new }) (record { name = now.name; rows = rows_after now.rows e }))
reported_by (Ok x) name old new now e view ok = rw (← view, ok) (ap (λ rows. reported_as name rows) (rows_reported old e))
reported_by (Err error) name old new now e view ok = tt
