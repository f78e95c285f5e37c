-- What a monoid over ranges of items owes.
use Rattle.std.specs.Prelude.{◌≡◌, ℕ, ◌+◌}

-- a unit of no items, a join that adds them, and the three laws of a monoid
pub record MonoidLaws {M : Type 0} (items : M → ℕ) (unit : M) (join : M → M → M) : Type 0 where
  pub unit_items : items unit ≡ 0
  pub join_items : (a b : M) → items (join a b) ≡ items a + items b
  pub left_unit : (a : M) → join unit a ≡ a
  pub right_unit : (a : M) → join a unit ≡ a
  pub assoc : (a b c : M) → join (join a b) c ≡ join a (join b c)
