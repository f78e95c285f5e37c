use Rattle.std.proofs.Common.{◌≡◌, ◌+◌, length, refl, arith}
use Rattle.costs.specs.Digits.{digits}
use Rattle.costs.specs.VisitsLaws.{digits-monotone}
use Rattle.tree_tests.proofs.weighted.fill.Goals as goal

ten : digits 1001 ≡ 10
unfolding digits
ten = refl

pub loop-count-preserved : goal.loop-count-preserved
loop-count-preserved g l = (omega arith, omega (arith, ten, digits-monotone (length l.insert_first.new.tree + 1) 1001 (omega arith)))
