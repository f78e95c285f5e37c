use Rattle.std.proofs.Common.{◌+◌, ◌≤◌, take}
use Rattle.pq_fusion.specs.Searches.{VisitsUpTo}
use Rattle.pq_fusion.specs.EntryCounts.{LeadsCounts}
use Rattle.pq_fusion.proofs.entry_counts.EntryCounts.after_rows.Given as goal

abbrev pub invariant-loop-row : goal.invariant-loop-row
invariant-loop-row g l =
    LeadsCounts l.bound l.fn.self (take l.row-index l.rows) l.counts
    × (l.counts.left ≤ l.fn.self.left + l.row-index)
    × VisitsUpTo l.row-index l.initial.steps l.steps
