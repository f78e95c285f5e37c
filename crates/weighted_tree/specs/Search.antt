-- The first and the last place at which a test holds of a measure, and the one at which it turns false of the items.
use Rattle.std.specs.Prelude.{◌≡◌, ℕ, ◌<◌, ◌≤◌, Bool, true, false, List, Option, MatchOption}
use Rattle.std.specs.List.Sorted.{IsPartitionedBy, IsPartitionPoint}
use Rattle.std.specs.Fn.{Shared, FnReturnsAt}
use Rattle.std.specs.Borrow.{Bor}

-- whatever the test answers of the measure at a place is what `holds` says of that place
abbrev pub Tells : {F M : Type 0} → Shared F (Bor M × Unit {0}) Bool → F → (ℕ → M) → (ℕ → Bool) → ℕ → ℕ → Type 0
Tells calls test measures holds from to = (place : ℕ) (answer : Bool) → from ≤ place → place ≤ to → FnReturnsAt calls test (measures place) answer → answer ≡ holds place

-- where it holds at one place, it holds at each later one
abbrev pub IsRising : (ℕ → Bool) → ℕ → ℕ → Type 0
IsRising holds from to = (place later : ℕ) → from ≤ place → place ≤ later → later ≤ to → holds place ≡ true → holds later ≡ true

-- where it holds at one place, it holds at each earlier one
abbrev pub IsFalling : (ℕ → Bool) → ℕ → Type 0
IsFalling holds to = (place earlier : ℕ) → earlier ≤ place → place ≤ to → holds place ≡ true → holds earlier ≡ true

-- it holds at no place from `from` to `to`
abbrev pub HoldsNowhere : (ℕ → Bool) → ℕ → ℕ → Type 0
HoldsNowhere holds from to = (place : ℕ) → from ≤ place → place ≤ to → holds place ≡ false

-- the least place from `from` to `to` at which it holds
pub record IsFirstPlace (holds : ℕ → Bool) (from to place : ℕ) : Type 0 where
  pub above : from ≤ place
  pub within : place ≤ to
  pub holds_there : holds place ≡ true
  pub not_before : (earlier : ℕ) → from ≤ earlier → earlier < place → holds earlier ≡ false

-- the greatest place up to `to` at which it holds
pub record IsLastPlace (holds : ℕ → Bool) (to place : ℕ) : Type 0 where
  pub within : place ≤ to
  pub holds_there : holds place ≡ true
  pub not_after : (later : ℕ) → place < later → later ≤ to → holds later ≡ false

-- that place, or none where it holds at none
abbrev pub IsFirstOrNone : (ℕ → Bool) → ℕ → ℕ → Option ℕ → Type 0
IsFirstOrNone holds from to answer = MatchOption answer (HoldsNowhere holds from to) (IsFirstPlace holds from to)

abbrev pub IsLastOrNone : (ℕ → Bool) → ℕ → Option ℕ → Type 0
IsLastOrNone holds to answer = MatchOption answer (HoldsNowhere holds 0 to) (IsLastPlace holds to)

-- the first place at which the test holds of the measure, where it rises
abbrev pub FindsFirst : {F M : Type 0} → Shared F (Bor M × Unit {0}) Bool → F → (ℕ → M) → ℕ → ℕ → Option ℕ → Type 0
FindsFirst calls test measures from to answer = (holds : ℕ → Bool) → Tells calls test measures holds from to → IsRising holds from to → IsFirstOrNone holds from to answer

-- the last place at which it holds, where it falls
abbrev pub FindsLast : {F M : Type 0} → Shared F (Bor M × Unit {0}) Bool → F → (ℕ → M) → ℕ → Option ℕ → Type 0
FindsLast calls test measures to answer = (holds : ℕ → Bool) → Tells calls test measures holds 0 to → IsFalling holds to → IsLastOrNone holds to answer

-- whatever the test answers of an item is what `holds` says of it
abbrev pub TellsItems : {F A : Type 0} → Shared F (Bor A × Unit {0}) Bool → F → (A → Bool) → Type 0
TellsItems {F} {A} calls test holds = (item : A) (answer : Bool) → FnReturnsAt calls test item answer → answer ≡ holds item

-- the number of the items for which the test holds, where it holds of none after one for which it does not
abbrev pub FindsPartition : {F A : Type 0} → Shared F (Bor A × Unit {0}) Bool → F → List A → ℕ → Type 0
FindsPartition {F} {A} calls test items count = (holds : A → Bool) → TellsItems calls test holds → IsPartitionedBy holds items → IsPartitionPoint (λ item. holds item ≡ true) (λ item. holds item ≡ false) items count
