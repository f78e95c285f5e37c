-- A walk of steps up and down, by its end and by the place where it is first at its lowest point. Such walks are a monoid.
use Rattle.std.specs.Prelude.{◌≡◌, ℕ, zero, suc, ◌+◌, ◌-◌, ◌≤◌, ℤ, pos, negsuc, nat_lt, nat_le, Bool, if◌then◌else◌, List, drop, Option, Some, None}
use Rattle.monoid_laws.specs.Measure.{measure_of}

-- how many steps there are, and how high the walk ends above its lowest point. Where it falls below its start, `low` has one
-- less than how far it falls, and after how many steps it first is there
pub record Dip : Type 0 where
  pub items : ℕ
  pub rises : ℕ
  pub low : Option (ℕ × ℕ)

-- how far the lowest point is below the start, and after how many steps it is first reached
abbrev pub falls_in : Option (ℕ × ℕ) → ℕ
falls_in None = 0
falls_in (Some p) = suc p.0

abbrev pub place_in : Option (ℕ × ℕ) → ℕ
place_in None = 0
place_in (Some p) = p.1

-- the lowest point of a walk that ends so high above its own, after so many steps, and of another one after it
abbrev pub lower : ℕ → ℕ → Option (ℕ × ℕ) → Option (ℕ × ℕ) → Option (ℕ × ℕ)
lower rises items low None = low
lower rises items low (Some q) = if nat_lt q.0 rises then low else Some (falls_in low + (q.0 - rises), items + q.1)

-- where the numbers are kept side by side
abbrev pub low_of : ℕ → ℕ → Option (ℕ × ℕ)
low_of zero place = None
low_of (suc falls) place = Some (falls, place)

-- the falls and the rise take a step each, the place is one of the walk, and where it does not fall it is the start
abbrev pub IsDip : ℕ → ℕ → ℕ → ℕ → Type 0
IsDip items falls rises place = (falls + rises ≤ items) × (place ≤ items) × (falls ≡ 0 → place ≡ 0)

-- no step, one step, and one walk after another
abbrev pub no_dip : Dip
no_dip = record { items = 0; rises = 0; low = None }

abbrev pub one_dip : ℤ → Dip
one_dip (pos n) = record { items = 1; rises = n; low = None }
one_dip (negsuc n) = record { items = 1; rises = 0; low = Some (n, 1) }

abbrev pub joined_dip : Dip → Dip → Dip
joined_dip a b = record {
  items = a.items + b.items;
  rises = b.rises + (a.rises - falls_in b.low);
  low = lower a.rises a.items a.low b.low;
}

-- what these steps come to
abbrev pub dip_of : List ℤ → Dip
dip_of xs = measure_of no_dip joined_dip one_dip xs

-- where the walk from a place on is first at its lowest point
abbrev pub lowest_from : List ℤ → ℕ → ℕ
lowest_from xs place = place + place_in (dip_of (drop place xs)).low

-- whether that is at a place up to this one
abbrev pub is_lowest_up_to : List ℤ → ℕ → ℕ → Bool
is_lowest_up_to xs to place = nat_le (lowest_from xs place) to
