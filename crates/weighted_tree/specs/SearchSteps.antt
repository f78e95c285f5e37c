-- How far a search came. It counts items from where it starts.
use Rattle.std.specs.Prelude.{◌≡◌, ℕ, ◌+◌, ◌-◌, ◌≤◌, Bool, true, false}
use Rattle.std.specs.Fn.{Shared}
use Rattle.std.specs.Borrow.{Bor}
use Rattle.weighted_tree.specs.Search.{Tells}
use Rattle.weighted_tree.specs.Levels.{OneALevel, FourALevel}
use Rattle.weighted_tree.specs.declared.search.Search.{Search}
use Rattle.weighted_tree.specs.declared.search.Search.TheVariants.{Found, Open}

-- it holds there, and not one item before
pub record IsBoundary (holds : ℕ → Bool) (place : ℕ) : Type 0 where
  pub holds_there : holds place ≡ true
  pub not_before : (before : ℕ) → before + 1 ≡ place → holds before ≡ false

-- a turn was found, or the test does not hold at the end
abbrev pub HasBoundaryAt : {M : Type 0} → (ℕ → Bool) → ℕ → Search M → Type 0
HasBoundaryAt holds to (Found place) = IsBoundary holds place
HasBoundaryAt holds to (Open measure) = holds to ≡ false

-- the place is one of these, or the measure is that of all
abbrev pub EndsAt : {M : Type 0} → (M → ℕ) → (ℕ → M) → ℕ → Search M → Type 0
EndsAt items measures to (Found place) = place ≤ to
EndsAt items measures to (Open measure) = (measure ≡ measures to) × (items measure ≡ to)

-- how many items were joined after a measure
abbrev pub joined_after : {M : Type 0} → (M → ℕ) → M → M → ℕ
joined_after items before measure = items measure - items before

-- what a search answers of the places up to `to`
pub record IsSought {F M : Type 0} (calls : Shared F (Bor M × Unit {0}) Bool) (test : F) (items : M → ℕ) (measures : ℕ → M) (to : ℕ) (answer : Search M) : Type 0 where
  pub boundary : (holds : ℕ → Bool) → Tells calls test measures holds 0 to → HasBoundaryAt holds to answer
  pub end : EndsAt items measures to answer

-- the same, where the test holds at the end
pub record IsBoundaryWithin {F M : Type 0} (calls : Shared F (Bor M × Unit {0}) Bool) (test : F) (measures : ℕ → M) (to place : ℕ) : Type 0 where
  pub boundary : (holds : ℕ → Bool) → Tells calls test measures holds 0 to → holds to ≡ true → IsBoundary holds place
  pub within : place ≤ to

-- a search that came to the end visited one node a level, and else it went down once more
abbrev pub VisitsOfSearch : {M : Type 0} → ℕ → ℕ → ℕ → Search M → Type 0
VisitsOfSearch whole before after (Found place) = FourALevel whole before after
VisitsOfSearch whole before after (Open measure) = OneALevel whole before after
