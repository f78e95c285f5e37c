-- What the rows before a place leave, counted without making their piece.
use Rattle.std.specs.Prelude.{◌≡◌, ℕ, ◌+◌, List, [], ◌∷◌, length, if◌then◌else◌}
use Rattle.retro_base.specs.declared.row.Entry.{Entry}
use Rattle.retro_base.specs.declared.row.Row.{Row}
use Rattle.retro_base.specs.State.{comes_before}
use Rattle.pq_fusion.specs.declared.entry_counts.EntryCounts.{EntryCounts}
use Rattle.pq_fusion.specs.Pieces.{PieceParts, IsRising, after_rows, tolerant}

-- the entries that rows leave
abbrev pub left_by : List Row → List Entry
left_by rows = (tolerant rows).left

-- how many entries do not come before this one
abbrev pub reaching : Entry → List Entry → ℕ
reaching bound [] = 0
reaching bound (entry ∷ entries) = (if comes_before entry bound then 0 else 1) + reaching bound entries

-- how many entries there are, and how many do not come before this one
abbrev pub counts_of : Entry → List Entry → EntryCounts
counts_of bound entries = record { left = length entries; reaching = reaching bound entries }

-- where the entries that are left before some rows are as the first says, those that are left after them are as the second says
abbrev pub Carries : (List Entry → Type 0) → List Row → (List Entry → Type 0) → Type 0
Carries Before rows After = (piece : PieceParts) → IsRising piece → Before piece.left → After (after_rows rows piece).left

-- the counts of what is left before some rows and after them
abbrev pub LeadsCounts : Entry → EntryCounts → List Row → EntryCounts → Type 0
LeadsCounts bound before rows after = Carries (λ entries. before ≡ counts_of bound entries) rows (λ entries. after ≡ counts_of bound entries)
