-- What the sources and the sink in memory are seen as, and what their calls do.
use Rattle.std.specs.Prelude.{◌≡◌, ℕ, ◌-◌, Bool, true, ◌==◌, ◌||◌, nat_le, min, List, length, take, Result, Ok, is_err, IfOk, IsOk}
use Rattle.std.specs.List.{list_any}
use Rattle.retro_io.specs.Faults.{count_after, faults_after}

-- the bytes left, how many were taken, and whether the last read into a buffer that is not empty gave nothing
pub record Stocked : Type 0 where
  pub left : List ℕ
  pub taken : ℕ
  pub ended : Bool

-- a source that gives at most a piece a call, and whose calls of these numbers fail
pub record Pieced : Type 0 where
  pub stock : Stocked
  pub piece : ℕ
  pub failing : List ℕ
  pub calls : ℕ
  pub faults : ℕ

-- a sink that takes at most a piece a call and so many bytes in all, and whose write calls of these numbers fail
pub record Roomed : Type 0 where
  pub written : List ℕ
  pub room : ℕ
  pub piece : ℕ
  pub failing : List ℕ
  pub calls : ℕ
  pub flushed : Bool
  pub faults : ℕ

-- a read that never fails gives as many bytes as the buffer holds and as there are
abbrev pub ReadsWhole : {E : Type 0} → Stocked → ℕ → Result (List ℕ) E → Stocked → Type 0
ReadsWhole before room answer after = answer ≡ Ok (take room before.left)

-- a read fails exactly where its number is among those chosen; it gives a piece at the most, and no more than the buffer holds and than there is
abbrev pub ReadsPieced : {E : Type 0} → Pieced → ℕ → Result (List ℕ) E → Pieced → Type 0
ReadsPieced before room answer after =
    (is_err answer ≡ list_any (λ number. number == before.calls) before.failing)
    × IfOk answer (λ bytes. bytes ≡ take (min before.piece room) before.stock.left)
    × (after.calls ≡ count_after before.calls 1)
    × (after.faults ≡ faults_after before.faults answer)
    × (after.piece ≡ before.piece) × (after.failing ≡ before.failing)

-- a write fails exactly where its number is among those chosen or the room is full; it takes a piece at the most, and no more than there is room for
abbrev pub WritesRoomed : {E : Type 0} → Roomed → List ℕ → Result ℕ E → Roomed → Type 0
WritesRoomed before piece answer after =
    (is_err answer ≡ (list_any (λ number. number == before.calls) before.failing || nat_le before.room (length before.written)))
    × IfOk answer (λ count. count ≡ min (min before.piece (length piece)) (before.room - length before.written))
    × (after.calls ≡ count_after before.calls 1)
    × (after.faults ≡ faults_after before.faults answer)
    × (after.room ≡ before.room) × (after.piece ≡ before.piece) × (after.failing ≡ before.failing)

-- a flush never fails, and changes nothing but that the sink is flushed
abbrev pub FlushesRoomed : {E : Type 0} → Roomed → Result (Unit {0}) E → Roomed → Type 0
FlushesRoomed before answer after = IsOk answer × (after ≡ record before { flushed = true })
