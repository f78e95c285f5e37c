-- How many visits a question about the past may make, and an edit: a node that is opened is one, and so is each turn of a search in one of
-- its lists, and each row of a run that is gone through.
use Rattle.std.specs.Prelude.{ℕ, zero, suc, min, ◌+◌, ◌-◌, ◌*◌, ◌/◌, ◌^◌, ◌<◌, ◌≤◌, List, length}
use Rattle.retro_base.specs.declared.row.Entry.{Entry}
use Rattle.retro_base.specs.declared.row.Row.{Row}
use Rattle.costs.specs.Digits.{digits}
use Rattle.pq_fusion.specs.Pieces.{PieceParts}
use Rattle.pq_fusion.specs.Nodes.{weight, IsWithinLevels}

-- so many visits more, at most
pub record VisitsUpTo (most before after : ℕ) : Type 0 where
  pub none_lost : before ≤ after
  pub few : after ≤ before + most

-- so many searches of lists with no more entries than this
abbrev pub SearchesWithin : ℕ → ℕ → ℕ → ℕ → Type 0
SearchesWithin times entries before after = (k : ℕ) → entries < 2 ^ k → VisitsUpTo (times * k) before after

-- so many searches, each of one of two lists
abbrev pub SearchesBoth : ℕ → List Entry → List Entry → ℕ → ℕ → Type 0
SearchesBoth times first second before after = (k : ℕ) → length first < 2 ^ k → length second < 2 ^ k → VisitsUpTo (times * k) before after

-- the searches of an edit of a piece: in both lists one entry comes in and another goes, and each is sought among chunks and within one
abbrev pub EditsWithin : PieceParts → ℕ → ℕ → Type 0
EditsWithin piece before after = (k : ℕ) → length piece.left + 1 < 2 ^ k → length piece.removed + 1 < 2 ^ k → VisitsUpTo (8 * k) before after

-- an edit on its way down: on each level a pair is opened, its boundary is sought and its piece is edited; and so many searches and visits more
abbrev pub EditVisits : ℕ → ℕ → List Row → ℕ → ℕ → Type 0
EditVisits searches more rows before after = (levels k : ℕ) → IsWithinLevels (weight rows) levels → weight rows < 2 ^ k
    → VisitsUpTo (levels * (14 * k + 1) + (searches * k + more)) before after

-- an edit of a queue of so many rows, with the edited one: 60 visits for each pair of digits of one more, in the tree of rows, and 288 for each
-- digit, in the queue beside it
abbrev pub EditedWithin : ℕ → ℕ → ℕ → Type 0
EditedWithin rows before after = VisitsUpTo ((60 * digits (rows + 1) + 288) * digits (rows + 1)) before after

-- the turns of a search in a list of fewer than 2 ^ k entries: among its chunks and then within one, which has fewer than 2 ^ 9
abbrev pub turns_in : ℕ → ℕ
turns_in k = min (2 * k) (k + 9)

-- and of one in each of two lists that have together fewer than 2 ^ k: one of them has fewer than half as many
abbrev pub turns_in_both : ℕ → ℕ
turns_in_both k = turns_in k + turns_in (k - 1)

-- a search of a list of so many entries, and of both lists of a piece that has so many, after so many visits more
abbrev pub SearchesList : ℕ → ℕ → ℕ → Type 0
SearchesList entries before after = (k : ℕ) → entries < 2 ^ k → VisitsUpTo (turns_in k) before after

abbrev pub SearchesPiece : ℕ → ℕ → ℕ → ℕ → Type 0
SearchesPiece more entries before after = (k : ℕ) → entries < 2 ^ k → VisitsUpTo (more + turns_in_both k) before after

-- a node so many levels below one of so many rows has at most so many: a side has at most 3 quarters of them
abbrev pub rows_down : ℕ → ℕ → ℕ
rows_down zero rows = rows
rows_down (suc levels) rows = rows_down levels (3 * rows / 4)

-- the visits of a walk from a node of so many rows at most, down so many levels: on each level a pair is opened, and the node beside the path, both
-- of whose lists are searched. Where that node has more rows than is counted here, the side on the path has so few that it may stand two levels down
abbrev pub walk_of : ℕ → ℕ → ℕ
walk_of zero rows = 3
walk_of (suc levels) rows = 2 + turns_in_both (digits (rows - 1 - rows_down 2 rows)) + walk_of levels (3 * rows / 4)

abbrev pub WalksWithin : List Row → ℕ → ℕ → Type 0
WalksWithin rows before after = (levels most : ℕ) → length rows ≤ most → rows_down levels most ≤ 1 → VisitsUpTo (walk_of levels most) before after

-- a pair on each level, and the node beside it
abbrev pub StepsWithin : List Row → ℕ → ℕ → Type 0
StepsWithin rows before after = (levels : ℕ) → IsWithinLevels (weight rows) levels → VisitsUpTo ((levels + 1) * 2) before after

-- an entry is read and a path is walked, once for each digit
abbrev pub SeeksWithin : List Row → ℕ → ℕ → Type 0
SeeksWithin rows before after = (levels most turns : ℕ) → length rows ≤ most → rows_down levels most ≤ 1 → most + 1 < 2 ^ turns
    → VisitsUpTo (turns * (12 * digits (length rows + 1) + walk_of levels most)) before after

-- a question about the past of a queue of so many rows visits at most 4 d² (d + 4), with d digits of one more than the rows, and one about its size,
-- which is one walk, 4 d (d + 1)
abbrev pub AskedWithin : ℕ → ℕ → ℕ → Type 0
AskedWithin rows before after = VisitsUpTo (4 * (digits (rows + 1) + 4) * digits (rows + 1) * digits (rows + 1)) before after

abbrev pub SizedWithin : ℕ → ℕ → ℕ → Type 0
SizedWithin rows before after = VisitsUpTo (4 * (digits (rows + 1) + 1) * digits (rows + 1)) before after
