use Rattle.std.proofs.Common.{◌+◌, arith}
use Rattle.order_labels.specs.PowerLaws.{power-is, power-doubled}
use Rattle.order_labels.proofs.spread.greatest_power.Goals as goal

pub loop-power-preserved : goal.loop-power-preserved
loop-power-preserved c =
    let k = c.loop-power.invariant.0.0 in
    ((k + 1, power-doubled k c.loop-power.power c.loop-power.invariant.0.1), omega arith)

pub returns : goal.returns
returns c = power-is c.args.n c.loop-power.invariant.0.0 c.loop-power.power c.requires c.loop-power.invariant.0.1 c.loop-power.invariant.1 c.loop-power-test.false
