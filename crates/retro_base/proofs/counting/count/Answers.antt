use Rattle.std.proofs.Common.{sym, ◌∙◌, ◌≤◌, ◌+◌, arith}
use Rattle.retro_base.specs.lemmas.Folds.{no_row, comes_to_start, comes_to_next, comes_to_failure, comes_to_end}
use Rattle.retro_base.specs.lemmas.CountedSizes.{quantity_after-le}
use Rattle.retro_base.proofs.counting.count.Goals as goal

pub returns-in-None : goal.returns-in-None
returns-in-None c = sym (comes_to_failure no_row c.loop-index.invariant.0 (omega arith) (sym c.counted_after.ensures ∙ c.in-None.is))

pub loop-index-preserved : goal.loop-index-preserved
loop-index-preserved c =
    let goes = sym c.counted_after.ensures ∙ c.in-Some.is in
    let one_more : c.in-Some.next ≤ c.loop-index.size + 1 = quantity_after-le c.args.quantity _ _ _ goes in
    (comes_to_next no_row c.loop-index.invariant.0 (omega arith) goes, omega (arith, one_more, c.loop-index.invariant.1))

pub loop-index-init : goal.loop-index-init
loop-index-init c = (comes_to_start _, omega arith)

pub returns : goal.returns
returns c = sym (comes_to_end c.loop-index.invariant.0 (omega arith))
