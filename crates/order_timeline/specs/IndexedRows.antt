-- What a timeline keeps, as one.
use Rattle.order_timeline.specs.declared.indexed_rows.IndexedRows.{IndexedRows}
use Rattle.order_timeline.specs.Runs.{IsInRuns, RepresentsRows}

-- its rows are in runs
abbrev pub AreInRuns : IndexedRows → Type 0
AreInRuns kept = IsInRuns kept.rows kept.runs kept.names kept.numbers

-- its rows are those of a timeline, in runs
abbrev pub KeepsRows : IndexedRows → Type 0
KeepsRows kept = RepresentsRows kept.rows kept.runs kept.names kept.numbers
