-- What the evidence of an edit is, and which line spells it.
use Rattle.std.specs.Prelude.{◌≡◌, ℕ, ◌^◌, ◌<◌, ◌≤◌, true, ℤ, pos, negsuc, List, Option, Some, None}
use Rattle.retro_base.specs.declared.op.Op.{Op}
use Rattle.retro_base.specs.declared.op.Op.TheVariants.{Ins, DelMin}
use Rattle.retro_base.specs.declared.row.Change.{Change}
use Rattle.retro_base.specs.declared.row.Change.TheVariants.{Plain, Gain, Lose}
use Rattle.retro_base.specs.declared.row.Entry.{Entry}
use Rattle.retro_base.specs.Limits.{next_limit}
use Rattle.retro_base.specs.Name.{is_name}
use Rattle.evidence.specs.declared.evidence.Evidence.{Evidence}
use Rattle.evidence.specs.Spelling.{spelling}

-- a number that a row can have
abbrev pub IsRowNumber : ℕ → Type 0
IsRowNumber number = (1 ≤ number) × (number < next_limit)

-- a value of 64 bits
abbrev pub IsValue : ℤ → Type 0
IsValue (pos n) = n < 2 ^ 63
IsValue (negsuc n) = n < 2 ^ 63

-- an operation of a priority queue, with a key of 64 bits
abbrev pub IsPqOp : Op → Type 0
IsPqOp (Ins key) = IsValue key
IsPqOp DelMin = Unit {0}
IsPqOp op = ⊥

-- an entry with a key of 64 bits and the number of a row
abbrev pub IsPqEntry : Entry → Type 0
IsPqEntry entry = IsValue entry.key × IsRowNumber entry.number

-- a place of 32 bits, or none
abbrev pub IsPlaceOrNone : Option ℕ → Type 0
IsPlaceOrNone None = Unit {0}
IsPlaceOrNone (Some place) = place < 2 ^ 32

-- a change of a priority queue
abbrev pub IsStatedChange : Change → Type 0
IsStatedChange Plain = ⊥
IsStatedChange (Gain bridge entry) = (bridge < 2 ^ 32) × IsPqEntry entry
IsStatedChange (Lose bridge entry) = IsPlaceOrNone bridge × IsPqEntry entry

-- the evidence of an edit of a priority queue
pub record IsEvidence (e : Evidence) : Type 0 where
  pub named : is_name e.name ≡ true
  pub place : e.place < 2 ^ 32
  pub number : IsRowNumber e.number
  pub op : IsPqOp e.op
  pub change : IsStatedChange e.change

-- the line spells this evidence
pub record Spells (line : List ℕ) (e : Evidence) : Type 0 where
  pub evidence : IsEvidence e
  pub spelled : line ≡ spelling e
