-- Items in the order of a number.
use Rattle.std.specs.Prelude.{ℕ, ◌≤◌, nat_le, List, [], ◌∷◌, count_by}
use Rattle.std.specs.List.{AllByRecursion}

-- no item has a lesser number than one before it
abbrev pub NeverFalls : {A : Type 0} → (A → ℕ) → List A → Type 0
NeverFalls number [] = Unit {0}
NeverFalls number (item ∷ items) = AllByRecursion (λ later. number item ≤ number later) items × NeverFalls number items

-- how many items have a number up to this one
abbrev pub count_up_to : {A : Type 0} → (A → ℕ) → List A → ℕ → ℕ
count_up_to number items limit = count_by (λ item. nat_le (number item) limit) items
