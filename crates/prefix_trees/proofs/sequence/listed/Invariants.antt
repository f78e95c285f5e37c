use Rattle.std.proofs.Common.{◌≡◌, List, map, take}
use Rattle.std.specs.Prelude.{ℤ}
use Rattle.retro_base.specs.declared.question.Item.TheVariants as contents
use Rattle.prefix_trees.specs.FailureLaws.{LineAt}
use Rattle.prefix_trees.proofs.sequence.listed.Given as goal

abbrev pub invariant-loop-index : goal.invariant-loop-index
invariant-loop-index g l = (line : List ℤ) → LineAt g.S.Sequence.kind l.rows l.place line → l.listing ≡ map (λ x. contents.Single x) (take l.index line)
