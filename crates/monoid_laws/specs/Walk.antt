-- A walk of steps up and down: how deep it falls below its start, and how high it ends above its
-- lowest point. Walks are a monoid (the bicyclic one), so no fact about them has to be kept.
use Rattle.std.specs.Prelude.{◌≡◌, ℕ, ◌+◌, ◌-◌, ◌≤◌, ℤ, pos, negsuc, ◌-ℤ◌, neg_ℤ, ◌≤ℤ◌, List, take}
use Rattle.monoid_laws.specs.Summed.{sum_of}
use Rattle.monoids.specs.Measure.{measure_of}

pub record Walk : Type 0 where
  pub items : ℕ
  pub falls : ℕ
  pub rises : ℕ

-- no step
abbrev pub no_walk : Walk
no_walk = record { items = 0; falls = 0; rises = 0 }

-- one step
abbrev pub one_step : ℤ → Walk
one_step (pos n) = record { items = 1; falls = 0; rises = n }
one_step (negsuc n) = record { items = 1; falls = n + 1; rises = 0 }

-- one step of the walk turned upside down
abbrev pub opposite_step : ℤ → Walk
opposite_step x = one_step (neg_ℤ x)

-- one walk after another
abbrev pub joined_walk : Walk → Walk → Walk
joined_walk a b = record {
  items = a.items + b.items;
  falls = a.falls + (b.falls - a.rises);
  rises = b.rises + (a.rises - b.falls);
}

-- the depth and the rise take a step each
abbrev pub IsShort : Walk → Type 0
IsShort a = a.falls + a.rises ≤ a.items

-- where the walk ends
abbrev pub end_of : Walk → ℤ
end_of a = pos a.rises -ℤ pos a.falls

-- its lowest point
abbrev pub lowest_of : Walk → ℤ
lowest_of a = neg_ℤ (pos a.falls)

-- how high it ends above its lowest point
abbrev pub height_of : Walk → ℤ
height_of a = pos a.rises

-- a step up, a step down or none
abbrev pub IsSign : ℤ → Type 0
IsSign x = (neg_ℤ (pos 1) ≤ℤ x) × (x ≤ℤ pos 1)

-- m is the least sum of a prefix, the empty one among them
pub record IsLeastPrefix (xs : List ℤ) (m : ℤ) : Type 0 where
  pub reached : (k : ℕ) × (m ≡ sum_of (take k xs))
  pub least : (k : ℕ) → m ≤ℤ sum_of (take k xs)

-- m is the greatest sum of a prefix, the empty one among them
pub record IsGreatestPrefix (xs : List ℤ) (m : ℤ) : Type 0 where
  pub reached : (k : ℕ) × (m ≡ sum_of (take k xs))
  pub greatest : (k : ℕ) → sum_of (take k xs) ≤ℤ m

-- the walk of these steps
abbrev pub walk_of : List ℤ → Walk
walk_of xs = measure_of no_walk joined_walk one_step xs

-- the walk of these steps, turned upside down
abbrev pub opposite_walk_of : List ℤ → Walk
opposite_walk_of xs = measure_of no_walk joined_walk opposite_step xs
