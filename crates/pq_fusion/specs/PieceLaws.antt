-- Laws of pieces; each is the contract of a function of `src/laws.rt`, which has no body.
--
--     rows               ins 4    ins 2  |  delmin   delmin   delmin   ins 7
--     left               2 4             |  7
--     removed                            |
--     unmet              0               |  3
--     fused              left 7, removed 2 4, unmet 1
use Rattle.std.specs.Prelude.{◌≡◌, ◌↔◌, List, ◌++◌}
use Rattle.retro_base.specs.declared.kind.Kind.TheVariants.{Pq}
use Rattle.retro_base.specs.declared.row.Row.{Row}
use Rattle.retro_base.specs.Replay.{IsValid, present}
use Rattle.retro_base.specs.State.{entries}
use Rattle.retro_base.specs.Timeline.{AreOfKind}
use Rattle.pq_fusion.specs.Pieces.{PieceParts, IsRising, no_parts, tolerant, fuse}

-- what rows come to rises, and what two pieces fuse to
abbrev pub RowsRise : Type 0
RowsRise = (rows : List Row) → IsRising (tolerant rows)

abbrev pub FusedRise : Type 0
FusedRise = (first second : PieceParts) → IsRising first → IsRising second → IsRising (fuse first second)

-- three pieces in a row can be fused in either order
abbrev pub FuseIsAssociative : Type 0
FuseIsAssociative = (first second third : PieceParts) → IsRising first → IsRising second → IsRising third
    → fuse (fuse first second) third ≡ fuse first (fuse second third)

-- the piece of no rows changes nothing, before a piece and after it
abbrev pub NothingIsUnit : Type 0
NothingIsUnit = (piece : PieceParts) → IsRising piece → (fuse no_parts piece ≡ piece) × (fuse piece no_parts ≡ piece)

-- what two lists of rows come to one after the other is what they come to apart, fused
abbrev pub RowsFuse : Type 0
RowsFuse = (before after : List Row) → tolerant (before ++ after) ≡ fuse (tolerant before) (tolerant after)

-- rows replay whole exactly where no taking is unmet
abbrev pub MetIsValid : Type 0
MetIsValid = (rows : List Row) → AreOfKind Pq rows → IsValid Pq rows ↔ ((tolerant rows).unmet ≡ 0)

-- and what is left is then the state
abbrev pub LeftIsPresent : Type 0
LeftIsPresent = (rows : List Row) → AreOfKind Pq rows → IsValid Pq rows → present Pq rows ≡ entries (tolerant rows).left
