-- The table of changes, line by line; each is the contract of a function of `src/laws.rt`. An entry that comes in is
-- exchanged for each greater one that is taken after it, and no dead entry reaches over a bridge: so the greatest dead one from
-- the bridge on is gained. An entry that goes is made up for by the next one where it would be taken, until a bridge is reached:
-- so the least survivor from before it is lost, or nothing is left to be taken.
--
--     edit at place p         bridge b             entry                                           refused
--     add an ins              the last up to p     gain the greatest of it and the dead from b on   never
--     cut a delmin            the last up to p     gain the greatest dead one from b on             never
--     add a delmin            the first from p     lose the least survivor from before b            at b
--     cut an ins, dead        the first after p   lose the least survivor from before b            at b - 2
--     cut an ins, survivor    none                 lose it                                          never
use Rattle.std.specs.Prelude.{◌≡◌, ◌↔◌, ◌⊎◌, ℕ, suc, ◌-◌, List, Contains, Some, None}
use Rattle.retro_base.specs.declared.kind.Kind.TheVariants.{Pq}
use Rattle.retro_base.specs.declared.row.Entry.{Entry}
use Rattle.retro_base.specs.declared.row.Row.{Row}
use Rattle.retro_base.specs.Replay.{failure}
use Rattle.retro_base.specs.Edits.{Edit, add, cut, edited, IsAccepted}
use Rattle.retro_base.specs.Bridges.{survivors, IsLastBridge, IsFirstBridge}
use Rattle.retro_base.specs.Changes.{Gains, Loses}
use Rattle.retro_base.specs.Weights.{added_by}
use Rattle.retro_base.specs.Carried.{IsPqEdit}
use Rattle.retro_base.specs.BridgeTable.{IsDeadFrom, IsSurvivorBefore, IsGreatest, IsLeast}

-- an added row that adds an entry gains the greatest of it and the dead entries that were added from the last bridge on
abbrev pub AddedEntryGains : Type 0
AddedEntryGains = (rows : List Row) (place : ℕ) (row : Row) (new : Entry) (bridge : ℕ) (entry : Entry) → IsPqEdit rows (add place row)
    → added_by row ≡ Some new → IsLastBridge rows place bridge
    → Gains rows (add place row) entry ↔ IsGreatest (λ e. (e ≡ new) ⊎ IsDeadFrom rows bridge e) entry

-- a row that takes and is cut gains the greatest dead entry that was added from the last bridge on
abbrev pub CutTakeGains : Type 0
CutTakeGains = (rows : List Row) (place : ℕ) (row : Row) (bridge : ℕ) (entry : Entry) → IsPqEdit rows (cut place row)
    → added_by row ≡ None → IsLastBridge rows place bridge
    → Gains rows (cut place row) entry ↔ IsGreatest (IsDeadFrom rows bridge) entry

-- what an edit loses that takes an entry away: the least survivor that was added before the bridge. It is accepted exactly
-- where there is one, and else the rows after it fail first at this index
pub record LosesAt (rows : List Row) (edit : Edit) (bridge failing : ℕ) : Type 0 where
  pub accepted : IsAccepted Pq rows edit ↔ ((entry : Entry) × IsSurvivorBefore rows bridge entry)
  pub lost : (entry : Entry) → IsAccepted Pq rows edit → Loses rows edit entry ↔ IsLeast (IsSurvivorBefore rows bridge) entry
  pub fails : ¬ ((entry : Entry) × IsSurvivorBefore rows bridge entry) → failure Pq (edited rows edit) ≡ Some failing

-- an added row that takes loses before the first bridge from its place on, and fails there
abbrev pub AddedTakeLoses : Type 0
AddedTakeLoses = (rows : List Row) (place : ℕ) (row : Row) (bridge : ℕ) → IsPqEdit rows (add place row) → added_by row ≡ None
    → IsFirstBridge rows place bridge → LosesAt rows (add place row) bridge bridge

-- a row that is cut and whose entry is dead loses before the first bridge after it, and the rows fail at the row that ended there
abbrev pub CutDeadLoses : Type 0
CutDeadLoses = (rows : List Row) (place : ℕ) (row : Row) (entry : Entry) (bridge : ℕ) → IsPqEdit rows (cut place row) → added_by row ≡ Some entry
    → ¬ Contains (survivors rows) entry → IsFirstBridge rows (suc place) bridge → LosesAt rows (cut place row) bridge (bridge - 2)

-- a row that is cut and whose entry survives loses this entry, and is always accepted
abbrev pub CutSurvivorLoses : Type 0
CutSurvivorLoses = (rows : List Row) (place : ℕ) (row : Row) (entry : Entry) → IsPqEdit rows (cut place row) → added_by row ≡ Some entry
    → Contains (survivors rows) entry → IsAccepted Pq rows (cut place row) × Loses rows (cut place row) entry
