-- The first of the greatest elements that are there, with its offset. In the order turned round it is
-- the first of the least.
use Rattle.std.specs.Prelude.{◌≡◌, ℕ, ◌+◌, ◌<◌, false, Option, Some, None, List, slice_get, MatchOption}
use Rattle.std.specs.declared.cmp.Ordering.{Ordering}
use Rattle.std.specs.declared.cmp.Ordering.TheVariants.{Less, Equal, Greater}
use Rattle.std.specs.Ordering.{is_gt}
use Rattle.monoids.specs.Measure.{measure_of}

-- how many items there are, and the first of the greatest elements with its offset
pub record Extreme (E : Type 0) : Type 0 where
  pub items : ℕ
  pub first : Option (E × ℕ)

-- the element n items further on
abbrev pub moved : {E : Type 0} → ℕ → Option (E × ℕ) → Option (E × ℕ)
moved n None = None
moved n (Some p) = Some (p.0, n + p.1)

-- the later one where the earlier one is less
abbrev pub greater_of : {P : Type 0} → Ordering → P → P → P
greater_of Less a b = b
greater_of Equal a b = a
greater_of Greater a b = a

-- the first of the greatest in an earlier and a later range
abbrev pub first_greatest : {E : Type 0} → (E → E → Ordering) → Option (E × ℕ) → Option (E × ℕ) → Option (E × ℕ)
first_greatest order None b = b
first_greatest order (Some a) None = Some a
first_greatest order (Some a) (Some b) = Some (greater_of (order a.0 b.0) a b)

-- no items
abbrev pub no_extreme : {E : Type 0} → Extreme E
no_extreme = record { items = 0; first = None }

-- the element at the start
abbrev pub at_start : {E : Type 0} → Option E → Option (E × ℕ)
at_start None = None
at_start (Some e) = Some (e, 0)

-- one item
abbrev pub one_element : {E : Type 0} → Option E → Extreme E
one_element o = record { items = 1; first = at_start o }

-- the items of both
abbrev pub joined_extreme : {E : Type 0} → (E → E → Ordering) → Extreme E → Extreme E → Extreme E
joined_extreme order a b = record { items = a.items + b.items; first = first_greatest order a.first (moved a.items b.first) }

-- the offset is that of an item
abbrev pub IsOffsetWithin : {E : Type 0} → ℕ → Option (E × ℕ) → Type 0
IsOffsetWithin n None = Unit {0}
IsOffsetWithin n (Some p) = p.1 < n

-- the value of these items
abbrev pub extreme_of : {E : Type 0} → (E → E → Ordering) → List (Option E) → Extreme E
extreme_of order items = measure_of no_extreme (joined_extreme order) one_element items

-- e is the first of the greatest elements, and k its offset
pub record IsFirstGreatest {E : Type 0} (order : E → E → Ordering) (items : List (Option E)) (e : E) (k : ℕ) : Type 0 where
  pub there : slice_get items k ≡ Some (Some e)
  pub greatest : (j : ℕ) (x : E) → slice_get items j ≡ Some (Some x) → is_gt (order x e) ≡ false
  pub first : (j : ℕ) (x : E) → j < k → slice_get items j ≡ Some (Some x) → order x e ≡ Less

-- no item has an element
abbrev pub NoElement : {E : Type 0} → List (Option E) → Type 0
NoElement {E} items = (j : ℕ) (x : E) → slice_get items j ≡ Some (Some x) → ⊥

-- the first of the greatest elements, or none where no item has one
abbrev pub IsGreatestElement : {E : Type 0} → (E → E → Ordering) → List (Option E) → Option E → Type 0
IsGreatestElement order items o = MatchOption o (NoElement items) (λ e. (k : ℕ) × IsFirstGreatest order items e k)

-- its offset, or none where no item has an element
abbrev pub IsGreatestOffset : {E : Type 0} → (E → E → Ordering) → List (Option E) → Option ℕ → Type 0
IsGreatestOffset {E} order items o = MatchOption o (NoElement items) (λ k. (e : E) × IsFirstGreatest order items e k)
