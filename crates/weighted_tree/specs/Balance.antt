-- When the two sides of a node are in balance.
use Rattle.std.specs.Prelude.{ℕ, ◌+◌, ◌*◌, ◌<◌, ◌≤◌, List, []}

-- the items of a subtree, and how many nodes it has
pub record Part (A : Type 0) : Type 0 where
  pub items : List A
  pub nodes : ℕ

-- neither an item nor a node
abbrev pub no_part : {A : Type 0} → Part A
no_part = record { items = []; nodes = 0 }

-- the weight of a subtree: its nodes and one
abbrev pub weight : {A : Type 0} → Part A → ℕ
weight part = part.nodes + 1

-- as many nodes as before, or one more
pub record IsUpToOneMore (fewer more : ℕ) : Type 0 where
  pub no_less : fewer ≤ more
  pub no_more : more ≤ fewer + 1

-- neither weighs over 3 times the other
pub record IsBalanced (left right : ℕ) : Type 0 where
  pub left_light : left ≤ 3 * right
  pub right_light : right ≤ 3 * left

-- one node more on one side, or one less on the other, brings two balanced sides no further than this
pub record IsNearlyBalanced (left right : ℕ) : Type 0 where
  pub left_light : left ≤ 3 * right + 3
  pub right_light : right ≤ 3 * left + 3

-- so much too heavy may one side be
pub record IsTooHeavy (near far : ℕ) : Type 0 where
  pub heavy : 3 * far < near
  pub nearly : near ≤ 3 * far + 3
