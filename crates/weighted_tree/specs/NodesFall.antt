-- Each side of a node has fewer items than the node.
use Rattle.std.specs.Prelude.{◌≤◌, max, ◌∷◌, length}
use Rattle.std.proofs.Common.{arith, length-append}
use Rattle.weighted_tree.specs.declared.subtree.Link.{Link}
use Rattle.weighted_tree.specs.declared.subtree.Link.TheVariants.{Empty, Leaf, Full}
use Rattle.weighted_tree.specs.declared.subtree.Subtree.TheDeep.{deep-Link}
use Rattle.monoids.specs.declared.monoid.Measured as Measured
use Rattle.monoids.specs.declared.monoid.Monoid as Monoid
use Rattle.weighted_tree.specs.Nodes.{items_of}

-- no side is deeper than the link has items
pub depth_le-length-items : {A M : Type 0} (measured : Measured.Ghosts A M) (monoid : Monoid.Ghosts M) (link : Link A M) → max (deep-Link A M measured monoid link) 0 ≤ length (items_of link)
depth_le-length-items measured monoid Empty = omega arith
depth_le-length-items measured monoid (Leaf closed measure) = omega arith
depth_le-length-items measured monoid (Full size nodes closed measure) = omega (arith, length-append closed.node.value.left.items (closed.node.value.item ∷ closed.node.value.right.items))
