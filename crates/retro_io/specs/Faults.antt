-- A count that stands still at the last value of 64 bits, and what a call does to a count of faults.
use Rattle.std.specs.Prelude.{◌≡◌, ℕ, Bool, true, false, ◌+◌, ◌-◌, ◌^◌, ◌≤◌, ◌<◌, ◌⊎◌, min, max, Result, Ok, Err}

-- the last value of a count
abbrev pub last_count : ℕ
last_count = 2 ^ 64 - 1

-- a count after so many more; it stands still at its last value
abbrev pub count_after : ℕ → ℕ → ℕ
count_after count more = max count (min (count + more) last_count)

-- a count of faults rose in a call: it is greater at the exit than at the entry, or it stands at its last value
abbrev pub HasRisen : ℕ → ℕ → Type 0
HasRisen before after = (before < after) ⊎ (after ≡ last_count)

-- what a call does to a count of faults: the count never falls, and where the call fails it rises
abbrev pub CountsFaults : Bool → ℕ → ℕ → Type 0
CountsFaults true before after = (before ≤ after) × HasRisen before after
CountsFaults false before after = before ≤ after

-- a count of faults after a call: one that fails counts
abbrev pub faults_after : {V E : Type 0} → ℕ → Result V E → ℕ
faults_after before (Ok value) = before
faults_after before (Err failed) = count_after before 1
