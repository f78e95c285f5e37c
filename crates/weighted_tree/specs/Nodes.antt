-- What a link leads to.
use Rattle.std.specs.Prelude.{◌≡◌, ℕ, ◌+◌, ◌^◌, ◌<◌, ◌≤◌, List, [], ◌∷◌, ◌++◌, length}
use Rattle.monoids.specs.Measure.{measure_of}
use Rattle.weighted_tree.specs.Balance.{Part, no_part, weight, IsBalanced, IsNearlyBalanced}
use Rattle.weighted_tree.specs.declared.subtree.Link.{Link}
use Rattle.weighted_tree.specs.declared.subtree.Link.TheVariants.{Empty, Leaf, Full}
use Rattle.weighted_tree.specs.declared.subtree.Node.{Node}

-- the items below a node, in order
abbrev pub node_items : {A M : Type 0} → Node A M → List A
node_items node = node.left.items ++ node.item ∷ node.right.items

-- the node and those below it
abbrev pub node_count : {A M : Type 0} → Node A M → ℕ
node_count node = node.left.nodes + 1 + node.right.nodes

-- the items that a link leads to, in order
abbrev pub items_of : {A M : Type 0} → Link A M → List A
items_of Empty = []
items_of (Leaf closed measure) = closed.items.items
items_of (Full size nodes closed measure) = node_items closed.node.value

-- how many nodes a link leads to
abbrev pub nodes_of : {A M : Type 0} → Link A M → ℕ
nodes_of Empty = 0
nodes_of (Leaf closed measure) = 0
nodes_of (Full size nodes closed measure) = node_count closed.node.value

-- what a link leads to
abbrev pub part_of : {A M : Type 0} → Link A M → Part A
part_of link = record { items = items_of link; nodes = nodes_of link }

-- what a node and those below it hold
abbrev pub node_part : {A M : Type 0} → Node A M → Part A
node_part node = record { items = node_items node; nodes = node_count node }

-- the sides are in balance
abbrev pub HasBalance : {A M : Type 0} → Node A M → Type 0
HasBalance node = IsBalanced (weight node.left) (weight node.right)

-- so many items fill a leaf
abbrev pub full : ℕ
full = 32

-- the measure is that of the items of a leaf, which are no more than fill one
pub record IsLeaf {A M : Type 0} (unit : M) (join : M → M → M) (measured : A → M) (measure : M) (items : List A) : Type 0 where
  pub measure_is : measure ≡ measure_of unit join measured items
  pub few : length items ≤ full

-- the sizes and the measure are those of what is below the node, whose sides are in balance
pub record IsNode {A M : Type 0} (unit : M) (join : M → M → M) (measured : A → M) (size nodes : ℕ) (measure : M) (node : Node A M) : Type 0 where
  pub size_is : size ≡ length (node_items node)
  pub nodes_are : nodes ≡ node_count node
  pub measure_is : measure ≡ measure_of unit join measured (node_items node)
  pub balanced : HasBalance node
  pub fits : length (node_items node) < 2 ^ 32
  pub few : nodes ≤ length (node_items node)

-- a link tells the sizes and the measure of what it leads to
abbrev pub IsSound : {A M : Type 0} → M → (M → M → M) → (A → M) → Link A M → Type 0
IsSound unit join measured Empty = Unit {0}
IsSound unit join measured (Leaf closed measure) = IsLeaf unit join measured measure closed.items.items
IsSound unit join measured (Full size nodes closed measure) = IsNode unit join measured size nodes measure closed.node.value

-- one side of the node gained or lost a node at most; where there are as many nodes as the link told before, the sides are in balance
-- as before
pub record HasChangedSide {A M : Type 0} (nodes : ℕ) (node : Node A M) : Type 0 where
  pub nearly : IsNearlyBalanced (weight node.left) (weight node.right)
  pub fits : length (node_items node) < 2 ^ 32
  pub unchanged : nodes ≡ node_count node → HasBalance node

-- there is a node, and the link tells its number of nodes, and no more, as it was before a side changed
abbrev pub IsUnsettled : {A M : Type 0} → Link A M → Type 0
IsUnsettled Empty = 1 ≤ 0
IsUnsettled (Leaf closed measure) = 1 ≤ 0
IsUnsettled (Full size nodes closed measure) = HasChangedSide nodes closed.node.value

-- there is a node, and nothing on its right
abbrev pub HasNoRight : {A M : Type 0} → Link A M → Type 0
HasNoRight Empty = 1 ≤ 0
HasNoRight (Leaf closed measure) = 1 ≤ 0
HasNoRight (Full size nodes closed measure) = closed.node.value.right ≡ no_part

-- the node is the root of a subtree, the number of whose items has 32 bits
pub record IsRoot {A M : Type 0} (part : Part A) (node : Node A M) : Type 0 where
  pub items_are : part.items ≡ node_items node
  pub nodes_are : part.nodes ≡ node_count node
  pub balanced : HasBalance node
  pub fits : length part.items < 2 ^ 32
  pub few : part.nodes ≤ length part.items
