-- The prefix sums of signs with marks, and the places that are searched among them.
use Rattle.std.specs.Prelude.{◌≡◌, ℕ, ◌+◌, ◌<◌, ◌≤◌, ℤ, ◌<ℤ◌, ◌≤ℤ◌, Bool, true, List, [], ◌∷◌, map, take, slice_get}
use Rattle.std.specs.Prelude.{Option, Some, MatchOption, if◌then◌else◌}
use Rattle.monoid_laws.specs.Summed.{sum_to}

-- the signs alone
abbrev pub signs_of : List (ℤ × Bool) → List ℤ
signs_of items = map (λ item. item.0) items

-- the sum of the first so many signs
abbrev pub prefix : List (ℤ × Bool) → ℕ → ℤ
prefix items place = sum_to (signs_of items) place

-- the least place from `from` to `to` whose prefix sum is at most the value
pub record IsFirstAtMost (items : List (ℤ × Bool)) (from to : ℕ) (value : ℤ) (place : ℕ) : Type 0 where
  pub above : from ≤ place
  pub within : place ≤ to
  pub reached : prefix items place ≤ℤ value
  pub not_before : (earlier : ℕ) → from ≤ earlier → earlier < place → value <ℤ prefix items earlier

-- the greatest such place
pub record IsLastAtMost (items : List (ℤ × Bool)) (from to : ℕ) (value : ℤ) (place : ℕ) : Type 0 where
  pub above : from ≤ place
  pub within : place ≤ to
  pub reached : prefix items place ≤ℤ value
  pub not_after : (later : ℕ) → place < later → later ≤ to → value <ℤ prefix items later

-- there is no such place
abbrev pub NoneAtMost : List (ℤ × Bool) → ℕ → ℕ → ℤ → Type 0
NoneAtMost items from to value = (place : ℕ) → from ≤ place → place ≤ to → value <ℤ prefix items place

-- the first or the last such place, or none where there is none
abbrev pub FindsFirstAtMost : List (ℤ × Bool) → ℕ → ℕ → ℤ → Option ℕ → Type 0
FindsFirstAtMost items from to value answer = MatchOption answer (NoneAtMost items from to value) (IsFirstAtMost items from to value)

abbrev pub FindsLastAtMost : List (ℤ × Bool) → ℕ → ℕ → ℤ → Option ℕ → Type 0
FindsLastAtMost items from to value answer = MatchOption answer (NoneAtMost items from to value) (IsLastAtMost items from to value)

-- how many are marked
abbrev pub marks_in : List (ℤ × Bool) → ℕ
marks_in [] = 0
marks_in (item ∷ items) = (if item.1 then 1 else 0) + marks_in items

-- the place is marked, and k marks stand before it
pub record IsKthMarked (items : List (ℤ × Bool)) (k place : ℕ) : Type 0 where
  pub marked : (sign : ℤ) × (slice_get items place ≡ Some (sign, true))
  pub before : marks_in (take place items) ≡ k

-- the k-th marked place, from 0, or none where there are no more than k marks
abbrev pub FindsKthMarked : List (ℤ × Bool) → ℕ → Option ℕ → Type 0
FindsKthMarked items k answer = MatchOption answer (marks_in items ≤ k) (IsKthMarked items k)
