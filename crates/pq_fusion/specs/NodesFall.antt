-- Each side of a pair has fewer rows than the pair.
use Rattle.std.specs.Prelude.{◌≤◌, max, length}
use Rattle.std.proofs.Common.{arith, length-append}
use Rattle.pq_fusion.specs.declared.subtree.Link.{Link}
use Rattle.pq_fusion.specs.declared.subtree.Link.TheVariants.{Empty, Leaf, Fork}
use Rattle.pq_fusion.specs.declared.subtree.Subtree.TheDeep.{deep-Link}
use Rattle.pq_fusion.specs.Nodes.{part_of, IsSound}

-- no side is deeper than the link has rows
pub depth_le-length-rows : (link : Link) → IsSound link → max (deep-Link link) 0 ≤ length (part_of link).rows
depth_le-length-rows Empty sound = omega arith
depth_le-length-rows (Leaf run) sound = omega arith
depth_le-length-rows (Fork pair) sound = omega (arith, length-append pair.value.earlier.rows pair.value.later.rows, sound.balanced.earlier_light, sound.balanced.later_light)
