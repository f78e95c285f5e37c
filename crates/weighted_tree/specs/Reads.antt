-- What a read of neighbouring items writes, and how many nodes it visits.
use Rattle.std.specs.Prelude.{◌≡◌, ℕ, zero, suc, ◌+◌, ◌≤◌, List, ◌++◌, map, take, drop, length}
use Rattle.std.specs.Fn.{Shared, FnReturnsAt}
use Rattle.std.specs.Borrow.{Bor}
use Rattle.weighted_tree.specs.Levels.{IsWithinLevels}

-- a list with these elements in place of as many from a place on
abbrev pub overwritten : {A : Type 0} → List A → ℕ → List A → List A
overwritten former place fresh = take place former ++ fresh ++ drop (place + length fresh) former

-- whatever the closure makes of an item is what `shows` says of it
abbrev pub Shows : {F A B : Type 0} → Shared F (Bor A × Unit {0}) B → F → (A → B) → Type 0
Shows {F} {A} {B} calls shown shows = (item : A) (answer : B) → FnReturnsAt calls shown item answer → answer ≡ shows item

-- from a place on what it makes of these items was written, and all else is as before
abbrev pub Writes : {F A B : Type 0} → Shared F (Bor A × Unit {0}) B → F → List A → ℕ → List B → List B → Type 0
Writes {F} {A} {B} calls shown items place former new = (shows : A → B) → Shows calls shown shows → new ≡ overwritten former place (map shows items)

-- at an end of what is read, one node a level where there are items beyond it
abbrev pub edge : ℕ → ℕ → ℕ
edge zero levels = 0
edge (suc beyond) levels = levels

-- beside one visit an item
abbrev pub VisitsOfRead : ℕ → ℕ → ℕ → ℕ → ℕ → Type 0
VisitsOfRead whole from rest before after = (levels : ℕ) → IsWithinLevels whole levels → after ≤ before + edge from levels + edge rest levels
