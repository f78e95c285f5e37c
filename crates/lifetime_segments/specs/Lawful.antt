-- What a search over items in their order owes.
use Rattle.std.specs.Prelude.{◌≡◌, ℕ, ◌+◌, ◌*◌, ◌≤◌, ◌<◌, Bool, true, false, List, [], ◌++◌, length}
use Rattle.std.specs.List.{AllByRecursion}
use Rattle.retro_base.specs.Limits.{most_rows}
use Rattle.lifetime_segments.specs.Ordered.{AreInOrder, in_order}

-- the items of a lawful list
abbrev pub most_items : ℕ
most_items = 2 * most_rows

-- items in their order, and not too many
pub record IsLawful {A : Type 0} (before : A → A → Bool) (items : List A) : Type 0 where
  pub ordered : AreInOrder before items
  pub few : length items ≤ most_items

-- two lists of items in their order, not too many together
pub record AreLawful {A : Type 0} (before : A → A → Bool) (first second : List A) : Type 0 where
  pub first_ordered : AreInOrder before first
  pub second_ordered : AreInOrder before second
  pub few : length first + length second ≤ most_items

-- the answers to one query over two such lists
pub record AnswerTogether {A Q P : Type 0} (before : A → A → Bool) (answer : List A → Q → P) (first second : P) : Type 0 where
  pub query : Q
  pub first_items : List A
  pub second_items : List A
  pub lawful : AreLawful before first_items second_items
  pub first_is : first ≡ answer first_items query
  pub second_is : second ≡ answer second_items query

-- the laws, over lawful lists whose items together are not too many
pub record SearchLaws {A Q P : Type 0} (before : A → A → Bool) (answer : List A → Q → P) (empty : P) (combined : P → P → P) : Type 0 where
  -- the answer over the items of two lists together is the combination of the two answers
  pub together : (xs ys : List A) (query : Q) → AreLawful before xs ys → answer (in_order before (xs ++ ys)) query ≡ combined (answer xs query) (answer ys query)
  pub commutes : (xs ys : List A) (query : Q) → AreLawful before xs ys → combined (answer xs query) (answer ys query) ≡ combined (answer ys query) (answer xs query)
  pub regroups : (xs ys zs : List A) (query : Q) → AreLawful before xs ys → IsLawful before zs → length xs + length ys + length zs ≤ most_items
      → combined (combined (answer xs query) (answer ys query)) (answer zs query) ≡ combined (answer xs query) (combined (answer ys query) (answer zs query))
  -- the answer over no items changes no other
  pub of_none : (query : Q) → answer [] query ≡ empty
  pub left_unit : (xs : List A) (query : Q) → IsLawful before xs → combined empty (answer xs query) ≡ answer xs query
  pub right_unit : (xs : List A) (query : Q) → IsLawful before xs → combined (answer xs query) empty ≡ answer xs query

-- the answer to a query over some items in their order, which may be one more
pub record IsAnswer {A Q P : Type 0} (before : A → A → Bool) (answer : List A → Q → P) (query : Q) (part : P) : Type 0 where
  pub items : List A
  pub ordered : AreInOrder before items
  pub room : length items < most_items
  pub answers : part ≡ answer items query

-- a query has a lower and an upper end in the order: what stands before an item below the lower end is below it too, what stands
-- after an item above the upper end is above it too, and items that are all below, or all above, answer as none do
pub record RangeLaws {A Q P : Type 0} (before : A → A → Bool) (answer : List A → Q → P) (below above : Q → A → Bool) : Type 0 where
  pub below_downward : (query : Q) (x y : A) → before y x ≡ false → below query y ≡ true → below query x ≡ true
  pub above_upward : (query : Q) (x y : A) → before y x ≡ false → above query x ≡ true → above query y ≡ true
  pub of_below : (xs : List A) (query : Q) → AllByRecursion (λ x. below query x ≡ true) xs → answer xs query ≡ answer [] query
  pub of_above : (xs : List A) (query : Q) → AllByRecursion (λ x. above query x ≡ true) xs → answer xs query ≡ answer [] query
