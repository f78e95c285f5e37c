-- What an edit does to a piece: one entry passes between what is left and what is not. Each law is the contract of a function of
-- `src/laws.rt`, which has no body.
--
--     rows                     left    removed   unmet
--     ins 3  ins 5  delmin     5       3         0
--     with ins 4 before        4 5     3         0        the entry itself comes to what is left
--     with ins 1 before        3 5     1         0        3 does, and 1 is removed in its place
--     with delmin behind       none    3 5       0        5 is removed
use Rattle.std.specs.Prelude.{◌≡◌, ℕ, ◌+◌, Bool, true, false, List, ◌∷◌, ◌++◌, length, Option, Some, None}
use Rattle.retro_base.specs.declared.kind.Kind.TheVariants.{Pq}
use Rattle.retro_base.specs.declared.row.Entry.{Entry}
use Rattle.retro_base.specs.declared.row.Row.{Row}
use Rattle.retro_base.specs.Kind.{kind_of}
use Rattle.retro_base.specs.Weights.{added_by}
use Rattle.pq_fusion.specs.declared.bound.Bound.{Bound}
use Rattle.pq_fusion.specs.declared.bound.Bound.TheVariants.{Low, At, Top}
use Rattle.pq_fusion.specs.Bounds.{is_below, higher, lower, with_bound, tops, at_rank, last_of}
use Rattle.pq_fusion.specs.Pieces.{PieceParts, IsRising, tolerant, met, fuse}

-- two pieces that an edit leads from one to the other: `own` is the entry of the edited row, or Low for a taking. The second has x
-- left besides; x is not removed in it, and `own` is removed in its place; where x is Top, one more taking is met
pub record Apart (own x : Bound) (fewer more : PieceParts) : Type 0 where
  pub left : more.left ≡ with_bound x fewer.left
  pub removed : with_bound own fewer.removed ≡ with_bound x more.removed
  pub unmet : fewer.unmet ≡ more.unmet + tops x
  pub order : is_below x own ≡ false
  pub some : is_below Low x ≡ true
  pub no_top : is_below own Top ≡ true

-- the pieces without a row and with it: a row that adds an entry gains one, and a taking loses one
abbrev pub DiffersBy : Option Entry → Bound → PieceParts → PieceParts → Type 0
DiffersBy (Some entry) x without with_it = Apart (At entry) x without with_it
DiffersBy None x without with_it = Apart Low x with_it without

-- how many takings the rows of a piece make
abbrev pub takings : PieceParts → ℕ
takings piece = length piece.removed + piece.unmet

-- the greatest entry that the takings of the second piece get, and the least one that stays
abbrev pub last_taken : PieceParts → PieceParts → Bound
last_taken first second = last_of (met first second) (takings second)

abbrev pub first_staying : PieceParts → PieceParts → Bound
first_staying first second = at_rank (met first second) (takings second)

-- one row more or less anywhere among rows passes one entry
abbrev pub EditsPassOne : Type 0
EditsPassOne = (before after : List Row) (row : Row) → kind_of row.op ≡ Pq
    → (x : Bound) × DiffersBy (added_by row) x (tolerant (before ++ after)) (tolerant (before ++ row ∷ after))

-- what passes in the earlier of two pieces passes in both, or the greatest entry taken where that is higher; the least one that
-- stays tells the same after the gain
abbrev pub EarlierPasses : Type 0
EarlierPasses = (own x : Bound) (fewer more second : PieceParts) → IsRising fewer → IsRising more → IsRising second → Apart own x fewer more
    → Apart own (higher x (last_taken fewer second)) (fuse fewer second) (fuse more second)
    × (higher x (last_taken fewer second) ≡ higher x (first_staying more second))

-- what passes in the later of two pieces passes in both, or the greatest entry taken where that is lower, or the edited one itself
abbrev pub LaterPasses : Type 0
LaterPasses = (own x : Bound) (first fewer more : PieceParts) → IsRising first → IsRising fewer → IsRising more → Apart own x fewer more
    → Apart own (higher own (lower x (last_taken first fewer))) (fuse first fewer) (fuse first more)
    × (higher own (lower x (last_taken first fewer)) ≡ higher own (lower x (first_staying first more)))

-- the entry of an edited row, or Low for a taking
abbrev pub own_of : Option Entry → Bound
own_of (Some entry) = At entry
own_of None = Low

-- a piece before an edit and after it
abbrev pub Passes : Bool → Bound → Bound → PieceParts → PieceParts → Type 0
Passes true own x before after = Apart own x before after
Passes false own x before after = Apart own x after before

-- what stands at the boundary of n takings, seen from before an edit by which what is left gains, or loses
abbrev pub boundary_at : Bool → List Entry → ℕ → Bound
boundary_at true entries n = last_of entries n
boundary_at false entries n = at_rank entries n

abbrev pub boundary_of : Bool → PieceParts → PieceParts → Bound
boundary_of gains first second = boundary_at gains (met first second) (takings second)
