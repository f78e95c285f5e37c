use Rattle.std.proofs.Common.{w64, subst}
use Rattle.std.proofs.lemmas.Int.{to_z-of_z}
use Rattle.prefix_trees.specs.SignPrefixes.{IsLastAtMost, NoneAtMost}
use Rattle.prefix_trees.proofs.FoundSigns.{none-keeps, last-keeps, keeps-before}
use Rattle.prefix_trees.proofs.sign_tree.SignTree.last_at_most.Goals as goal

pub returns-in_err-last-clause-last : goal.returns-in_err-last-clause-last
returns-in_err-last-clause-last g c =
    let items = c.args.self.now in
    rw c.from_residual.ensures
    (subst (NoneAtMost items c.args.from c.args.to) (to_z-of_z w64 c.args.value c.ranges.value)
    (none-keeps items c.args.from c.args.to _ c.in_err-last.ensures.last))

pub returns-then-from-last-clause-last : goal.returns-then-from-last-clause-last
returns-then-from-last-clause-last g c =
    let items = c.args.self.now in
    let last = c.in_ok-last.last in
    subst (λ value. IsLastAtMost items c.args.from c.args.to value last) (to_z-of_z w64 c.args.value c.ranges.value)
    (last-keeps items c.args.from c.args.to _ last c.in_ok-last.ensures.last c.if-from-last.true)

pub returns-else-from-last-clause-last : goal.returns-else-from-last-clause-last
returns-else-from-last-clause-last g c =
    let items = c.args.self.now in
    subst (NoneAtMost items c.args.from c.args.to) (to_z-of_z w64 c.args.value c.ranges.value)
    (keeps-before items c.args.from c.args.to _ c.in_ok-last.last c.in_ok-last.ensures.last c.if-from-last.false)
