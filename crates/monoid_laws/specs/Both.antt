-- Two values of the same items, side by side.
use Rattle.std.specs.Prelude.{List}
use Rattle.monoids.specs.Measure.{measure_of}

-- each part joined by its own join
abbrev pub joined_both : {A B : Type 0} → (A → A → A) → (B → B → B) → A × B → A × B → A × B
joined_both join_first join_second p q = (join_first p.0 q.0, join_second p.1 q.1)

-- the value of a list of pairs
abbrev pub both_of : {A B : Type 0} → A → B → (A → A → A) → (B → B → B) → List (A × B) → A × B
both_of unit_first unit_second join_first join_second pairs = measure_of (unit_first, unit_second) (joined_both join_first join_second) (λ p. p) pairs
