use Rattle.std.proofs.Common.{length, w64, subst}
use Rattle.std.proofs.lemmas.Int.{to_z-of_z}
use Rattle.prefix_trees.specs.SignPrefixes.{IsFirstAtMost, NoneAtMost}
use Rattle.prefix_trees.proofs.FoundSigns.{none-falls, first-falls, falls-beyond}
use Rattle.prefix_trees.proofs.sign_tree.SignTree.first_at_most.Goals as goal

pub returns-in_err-first-clause-first : goal.returns-in_err-first-clause-first
returns-in_err-first-clause-first g c =
    let items = c.args.self.now in
    rw c.from_residual.ensures
    (subst (NoneAtMost items c.args.from c.args.to) (to_z-of_z w64 c.args.value c.ranges.value)
    (none-falls items c.args.from c.args.to _ (length items) c.requires.within c.in_err-first.ensures.first))

pub returns-then-first-to-clause-first : goal.returns-then-first-to-clause-first
returns-then-first-to-clause-first g c =
    let items = c.args.self.now in
    let first = c.in_ok-first.first in
    subst (λ value. IsFirstAtMost items c.args.from c.args.to value first) (to_z-of_z w64 c.args.value c.ranges.value)
    (first-falls items c.args.from c.args.to _ (length items) first c.in_ok-first.ensures.first c.if-first-to.true)

pub returns-else-first-to-clause-first : goal.returns-else-first-to-clause-first
returns-else-first-to-clause-first g c =
    let items = c.args.self.now in
    subst (NoneAtMost items c.args.from c.args.to) (to_z-of_z w64 c.args.value c.ranges.value)
    (falls-beyond items c.args.from c.args.to _ (length items) c.in_ok-first.first c.in_ok-first.ensures.first c.if-first-to.false)
