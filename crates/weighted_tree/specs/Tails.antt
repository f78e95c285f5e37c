-- The last items of a tree, in a leaf of their own.
use Rattle.std.specs.Prelude.{◌≡◌, List, [], Option, None, Some, Box}
use Rattle.std.specs.Global.{Global}
use Rattle.weighted_tree.specs.Balance.{Part}

-- the items of the leaf, where there is one
abbrev pub tail_items : {A : Type 0} → Option (Box (Part A) Global) → List A
tail_items None = []
tail_items (Some leaf) = leaf.value.items

-- it has no nodes
abbrev pub HasNoNodes : {A : Type 0} → Option (Box (Part A) Global) → Type 0
HasNoNodes None = Unit {0}
HasNoNodes (Some leaf) = leaf.value.nodes ≡ 0
