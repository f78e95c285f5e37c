-- How many nodes a call visits on the levels of a balanced tree.
use Rattle.std.specs.Prelude.{ℕ, zero, suc, ◌+◌, ◌*◌, ◌≤◌}

-- a balanced tree of this weight has no path of more levels: a side weighs at most 3 quarters of the whole
abbrev pub IsWithinLevels : ℕ → ℕ → Type 0
IsWithinLevels whole zero = whole ≤ 1
IsWithinLevels whole (suc levels) = (side : ℕ) → 4 * side ≤ 3 * whole → IsWithinLevels side levels

-- at most four visits a level, and four at the end of the way
abbrev pub FourALevel : ℕ → ℕ → ℕ → Type 0
FourALevel whole before after = (levels : ℕ) → IsWithinLevels whole levels → after ≤ before + 4 * levels + 4

-- the same in one tree and in another
abbrev pub FourALevelOfBoth : ℕ → ℕ → ℕ → ℕ → Type 0
FourALevelOfBoth near far before after = (near_levels far_levels : ℕ) → IsWithinLevels near near_levels → IsWithinLevels far far_levels → after ≤ before + 4 * near_levels + 4 * far_levels + 8

-- at most one visit a level, and one at the end of the way
abbrev pub OneALevel : ℕ → ℕ → ℕ → Type 0
OneALevel whole before after = (levels : ℕ) → IsWithinLevels whole levels → after ≤ before + levels + 1
