-- A balanced tree has at most three levels for each digit of its weight.
use Rattle.std.proofs.Common.{◌≡◌, ℕ, zero, suc, ◌+◌, ◌*◌, ◌^◌, ◌<◌, ◌≤◌, refl, subst, arith}
use Rattle.std.proofs.lemmas.Nat.{pow-add}
use Rattle.weighted_tree.specs.Balance.{Part, weight}
use Rattle.weighted_tree.specs.Nodes.{IsRoot}
use Rattle.weighted_tree.specs.declared.subtree.Node.{Node}
use Rattle.costs.specs.Digits.{digits}
use Rattle.costs.specs.Visits.{VisitsWithin}
use Rattle.costs.specs.VisitsLaws.{below-digits, digits-monotone}
use Rattle.weighted_tree.specs.Levels.{IsWithinLevels, OneALevel, FourALevel, FourALevelOfBoth}
use Rattle.weighted_tree.specs.SearchSteps.{VisitsOfSearch}
use Rattle.weighted_tree.specs.declared.node.Side.{Side}
use Rattle.weighted_tree.specs.declared.search.Search.{Search}
use Rattle.weighted_tree.specs.declared.search.Search.TheVariants.{Found, Open}
use Rattle.weighted_tree.specs.Sides.{IsOpened}

triple : ℕ → ℕ
triple zero = zero
triple (suc n) = suc (suc (suc (triple n)))

triple-is : (n : ℕ) → triple n ≡ 3 * n
unfolding triple
triple-is zero = omega arith
triple-is (suc n) = omega (arith, triple-is n)

three_levels : (digits whole : ℕ) → whole < 2 ^ suc digits → IsWithinLevels whole (triple digits)
unfolding triple
three_levels zero whole below = omega arith
three_levels (suc digits) whole below = λ first a second b third c. three_levels digits third (omega (arith, pow-add 2 (suc digits) 1))

-- the levels of a tree of this weight: three for each digit but the first
pub levels-of_digits : (whole fewer : ℕ) → digits whole ≡ suc fewer → IsWithinLevels whole (3 * fewer)
levels-of_digits whole fewer is = subst (IsWithinLevels whole) (triple-is fewer) (three_levels fewer whole (subst (λ d. whole < 2 ^ d) is (below-digits whole)))

-- four visits a level, and twelve at the end, are no more than twelve a digit
pub few_beside : (whole length before after : ℕ) → 1 ≤ whole → whole ≤ length + 1 → before ≤ after → ((levels : ℕ) → IsWithinLevels whole levels → after ≤ before + 4 * levels + 12) → VisitsWithin 12 length before after
few_beside whole length before after some light none_lost visits = record { none_lost = none_lost; few = by_digits (digits whole) refl } where
  by_digits : (count : ℕ) → digits whole ≡ count → after ≤ before + 12 * digits (length + 1)
  by_digits zero is = absurd (omega (arith, subst (λ d. whole < 2 ^ d) is (below-digits whole)))
  by_digits (suc fewer) is = omega (arith, visits (3 * fewer) (levels-of_digits whole fewer is), digits-monotone whole (length + 1) light, is)

-- four visits a level, and four at the end
pub few-by_levels : (whole length before after : ℕ) → 1 ≤ whole → whole ≤ length + 1 → before ≤ after → FourALevel whole before after → VisitsWithin 12 length before after
few-by_levels whole length before after some light none_lost visits = few_beside whole length before after some light none_lost (λ levels within. omega (arith, visits levels within))

-- beside a subtree without nodes
pub few_by_root : (whole leaf length before after : ℕ) → 1 ≤ whole → whole ≤ length + 1 → leaf ≤ 1 → before ≤ after → FourALevelOfBoth whole leaf before after → VisitsWithin 12 length before after
few_by_root whole leaf length before after some light none none_lost visits = few_beside whole length before after some light none_lost (λ levels within. omega (arith, visits levels 0 within none))

pub few_after_leaf : (leaf whole length before after : ℕ) → 1 ≤ whole → whole ≤ length + 1 → leaf ≤ 1 → before ≤ after → FourALevelOfBoth leaf whole before after → VisitsWithin 12 length before after
few_after_leaf leaf whole length before after some light none none_lost visits = few_beside whole length before after some light none_lost (λ levels within. omega (arith, visits 0 levels none within))

-- a few visits of a leaf alone
pub few_in_leaf : (length before after : ℕ) → before ≤ after → after ≤ before + 12 → VisitsWithin 12 length before after
few_in_leaf length before after none_lost few = few_beside 1 length before after (omega arith) (omega arith) none_lost (λ levels within. omega arith)

-- a level more: the node is visited on the way down and may be on the way back, and a rotation visits two more
pub level_more : (whole side start visited middle end : ℕ) → visited ≡ start + 1 → 2 ≤ whole → 4 * side ≤ 3 * whole → FourALevel side visited middle → end ≤ middle + 3 → FourALevel whole start end
level_more whole side start visited middle end visit some light below up zero within = absurd (omega arith)
level_more whole side start visited middle end visit some light below up (suc levels) within = omega (arith, below levels (within side light))

level_here : (whole start end : ℕ) → 2 ≤ whole → end ≤ start + 4 → FourALevel whole start end
level_here whole start end some up zero within = absurd (omega arith)
level_here whole start end some up (suc levels) within = omega arith

-- the left side is a level down, and the right one
module _ {A M : Type 0} (part : Part A) (node : Node A M) (start visited middle end : ℕ) (root : IsRoot part node) where
  pub level_left : visited ≡ start + 1 → FourALevel (weight node.left) visited middle → end ≤ middle + 3 → FourALevel (weight part) start end
  level_left visit below up =
      let whole = root.nodes_are in
      level_more (weight part) (weight node.left) start visited middle end visit (omega arith) (omega arith) below up

  pub level_right : visited ≡ start + 1 → FourALevel (weight node.right) visited middle → end ≤ middle + 3 → FourALevel (weight part) start end
  level_right visit below up =
      let whole = root.nodes_are in
      level_more (weight part) (weight node.right) start visited middle end visit (omega arith) (omega arith) below up

  -- the node alone
  pub level_end : visited ≡ start + 1 → end ≤ visited + 3 → FourALevel (weight part) start end
  level_end visit up = level_here (weight part) start end (omega (arith, root.nodes_are)) (omega arith)

-- one visit a level
pub one_more : (whole side start visited end : ℕ) → visited ≡ start + 1 → 2 ≤ whole → 4 * side ≤ 3 * whole → OneALevel side visited end → OneALevel whole start end
one_more whole side start visited end visit some light below zero within = absurd (omega arith)
one_more whole side start visited end visit some light below (suc levels) within = omega (arith, below levels (within side light))

-- down on one side, and then on the other
pub two_more : (whole near far start visited middle end : ℕ) → visited ≡ start + 1 → 2 ≤ whole → 4 * near ≤ 3 * whole → 4 * far ≤ 3 * whole
    → OneALevel near visited middle → OneALevel far middle end → FourALevel whole start end
two_more whole near far start visited middle end visit some light_near light_far first second zero within = absurd (omega arith)
two_more whole near far start visited middle end visit some light_near light_far first second (suc levels) within = omega (arith, first levels (within near light_near), second levels (within far light_far))

module _ {A M : Type 0} (part : Part A) (node : Node A M) (start visited : ℕ) (root : IsRoot part node) (visit : visited ≡ start + 1) where
  sides : weight part ≡ weight node.left + weight node.right
  sides = omega (arith, root.nodes_are)

  pub one_left : (end : ℕ) → OneALevel (weight node.left) visited end → OneALevel (weight part) start end
  one_left end below = one_more (weight part) (weight node.left) start visited end visit (omega (arith, sides)) (omega (arith, sides, root.balanced)) below

  pub one_right : (end : ℕ) → OneALevel (weight node.right) visited end → OneALevel (weight part) start end
  one_right end below = one_more (weight part) (weight node.right) start visited end visit (omega (arith, sides)) (omega (arith, sides, root.balanced)) below

  pub both_sides : (middle end : ℕ) → OneALevel (weight node.left) visited middle → OneALevel (weight node.right) middle end → FourALevel (weight part) start end
  both_sides middle end left right = two_more (weight part) (weight node.left) (weight node.right) start visited middle end visit (omega (arith, sides))
      (omega (arith, sides, root.balanced)) (omega (arith, sides, root.balanced)) left right

-- of a root that is seen from a side
module _ {A M : Type 0} {side : Side} {part near far : Part A} {node : Node A M} (root : IsOpened side part near far node) (start visited : ℕ) (visit : visited ≡ start + 1) where
  pub one_near : (end : ℕ) → OneALevel (weight near) visited end → OneALevel (weight part) start end
  one_near end below = one_more (weight part) (weight near) start visited end visit (omega (arith, root.counts)) (omega (arith, root.counts, root.balanced)) below

  pub one_far : (end : ℕ) → OneALevel (weight far) visited end → OneALevel (weight part) start end
  one_far end below = one_more (weight part) (weight far) start visited end visit (omega (arith, root.counts)) (omega (arith, root.counts, root.balanced)) below

  pub four_near : (end : ℕ) → FourALevel (weight near) visited end → FourALevel (weight part) start end
  four_near end below = level_more (weight part) (weight near) start visited end end visit (omega (arith, root.counts)) (omega (arith, root.counts, root.balanced)) below (omega arith)

  pub near_then_far : (middle end : ℕ) → OneALevel (weight near) visited middle → OneALevel (weight far) middle end → FourALevel (weight part) start end
  near_then_far middle end first second = two_more (weight part) (weight near) (weight far) start visited middle end visit (omega (arith, root.counts))
      (omega (arith, root.counts, root.balanced)) (omega (arith, root.counts, root.balanced)) first second

  -- whatever the search of the far side answers
  pub search_far : (end : ℕ) (answer : Search M) → VisitsOfSearch (weight far) visited end answer → VisitsOfSearch (weight part) start end answer
  search_far end (Found count) below = level_more (weight part) (weight far) start visited end end visit (omega (arith, root.counts)) (omega (arith, root.counts, root.balanced)) below (omega arith)
  search_far end (Open measure) below = one_far end below

-- one visit a level is no more than four
pub few_of_one : (whole before after : ℕ) → OneALevel whole before after → FourALevel whole before after
few_of_one whole before after visits levels within = omega (arith, visits levels within)

-- whatever a search answers
pub few_of_search : {M : Type 0} (whole before after : ℕ) (answer : Search M) → VisitsOfSearch whole before after answer → FourALevel whole before after
few_of_search whole before after (Found count) visits = visits
few_of_search whole before after (Open measure) visits = few_of_one whole before after visits

-- a visit of the root, and then one visit a level
pub once_more : (whole start visited end : ℕ) → visited ≡ start + 1 → 2 ≤ whole → OneALevel whole visited end → FourALevel whole start end
once_more whole start visited end visit some below zero within = absurd (omega arith)
once_more whole start visited end visit some below (suc levels) within = omega (arith, below (suc levels) within)

-- a leaf is one visit
pub leaf_search : {M : Type 0} (whole before after : ℕ) (answer : Search M) → after ≤ before + 1 → VisitsOfSearch whole before after answer
leaf_search whole before after (Found count) few = λ levels within. omega arith
leaf_search whole before after (Open measure) few = λ levels within. omega arith
