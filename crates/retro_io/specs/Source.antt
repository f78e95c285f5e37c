-- What a read does to the meanings of a source.
use Rattle.std.specs.Prelude.{◌≡◌, ℕ, Bool, ◌==◌, ◌≤◌, List, [], ◌∷◌, ◌++◌, length, take, drop, Option, None, Some, Result, Ok, Err}
use Rattle.retro_io.specs.Faults.{count_after}

-- the bytes left, and none where the source does not tell them
abbrev pub bytes_left : Option (List ℕ) → List ℕ
bytes_left None = []
bytes_left (Some bytes) = bytes

-- these bytes were taken from the first of the bytes left, where the source tells them
abbrev pub Gives : Option (List ℕ) → List ℕ → Option (List ℕ) → Type 0
Gives None first after = after ≡ None
Gives (Some bytes) first None = ⊥
Gives (Some bytes) first (Some rest) = bytes ≡ first ++ rest

-- so many bytes were taken from the first of the bytes left, where the source tells them
abbrev pub GivesCount : Option (List ℕ) → ℕ → Option (List ℕ) → Type 0
GivesCount None count after = after ≡ None
GivesCount (Some bytes) count after = (count ≤ length bytes) × (after ≡ Some (drop count bytes))

-- whether the source answered its end, after a read that gave so many bytes; a read into an empty buffer says nothing
abbrev pub ended_at : Bool → ℕ → List ℕ → Bool
ended_at before count [] = before
ended_at before count (b ∷ bs) = count == 0

-- the same of any read; one that fails does not answer the end
abbrev pub ended_after : {E : Type 0} → Bool → Result ℕ E → List ℕ → Bool
ended_after before (Ok count) buffer = ended_at before count buffer
ended_after before (Err failed) buffer = ended_at before 1 buffer

-- how many bytes were taken, after a read
abbrev pub taken_after : {E : Type 0} → ℕ → Result ℕ E → ℕ
taken_after before (Ok count) = count_after before count
taken_after before (Err failed) = before

-- the answer of a read, with the bytes that it gave at the start of the buffer
abbrev pub bytes_given : {E : Type 0} → Result ℕ E → List ℕ → Result (List ℕ) E
bytes_given (Ok count) buffer = Ok (take count buffer)
bytes_given (Err failed) buffer = Err failed
