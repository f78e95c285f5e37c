use Rattle.prefix_trees.proofs.FoundSigns.{none-more, some-more, kth-before}
use Rattle.prefix_trees.proofs.sign_tree.SignTree.kth_marked.Goals as goal

pub returns-in_err-beyond-clause-kth : goal.returns-in_err-beyond-clause-kth
returns-in_err-beyond-clause-kth g c = rw c.from_residual.ensures (none-more c.args.self.now c.args.k c.in_err-beyond.ensures.first)

pub overflow_sub-result : goal.overflow_sub-result
overflow_sub-result g c = some-more c.args.self.now c.args.k c.in_ok-beyond.beyond c.in_ok-beyond.ensures.first

pub returns-clause-kth : goal.returns-clause-kth
returns-clause-kth g c = kth-before c.args.self.now c.args.k c.in_ok-beyond.beyond c.in_ok-beyond.ensures.first
