-- A node seen from one of its sides.
use Rattle.std.specs.Prelude.{◌≡◌, ◌+◌, List, ◌∷◌, ◌++◌, reverse, length}
use Rattle.weighted_tree.specs.Balance.{Part, weight, IsBalanced}
use Rattle.weighted_tree.specs.declared.subtree.Node.{Node}
use Rattle.weighted_tree.specs.declared.node.Side.{Side}
use Rattle.weighted_tree.specs.declared.node.Side.TheVariants.{Left, Right}

abbrev pub other : Side → Side
other Left = Right
other Right = Left

-- what is on a side
abbrev pub side_of : {A M : Type 0} → Side → Node A M → Part A
side_of Left node = node.left
side_of Right node = node.right

-- the node with this on that side
abbrev pub with_side : {A M : Type 0} → Side → Part A → Node A M → Node A M
with_side Left part node = record node { left = part }
with_side Right part node = record node { right = part }

-- a list as it stands from a side
abbrev pub seen_from : {A : Type 0} → Side → List A → List A
seen_from Left items = items
seen_from Right items = reverse items

-- a measure joined with the one beyond it, seen from a side
abbrev pub join_from : {M : Type 0} → Side → (M → M → M) → M → M → M
join_from Left join near far = join near far
join_from Right join near far = join far near

-- a root seen from a side: what stands on that side, its item, and what stands on the other side
pub record IsOpened {A M : Type 0} (side : Side) (whole near far : Part A) (node : Node A M) : Type 0 where
  pub seen : seen_from side whole.items ≡ seen_from side near.items ++ node.item ∷ seen_from side far.items
  pub sizes : length whole.items ≡ length near.items + 1 + length far.items
  pub counts : whole.nodes ≡ near.nodes + 1 + far.nodes
  pub balanced : IsBalanced (weight near) (weight far)
