use Rattle.weighted_tree.proofs.SeenFrom.{opened_left, opened_right}
use Rattle.weighted_tree.proofs.subtree.Node.sides.Goals as goal

pub returns-in-Left : goal.returns-in-Left
returns-in-Left g c items root = rw c.in-Left.is (opened_left items c.args.self.now root)

pub returns-in-Right : goal.returns-in-Right
returns-in-Right g c items root = rw c.in-Right.is (opened_right items c.args.self.now root)
