use Rattle.std.proofs.Common.{◌+◌, ◌<◌, arith}
use Rattle.retro_base.proofs.PairSteps.{count_room}
use Rattle.retro_base.proofs.pairs.count_between.Goals as goal

pub overflow_add-count : goal.overflow_add-count
overflow_add-count c =
    let fits : c.loop-key.count + 1 < 18446744073709551616 = count_room _ _ _ _ _ c.loop-key.invariant c.iter-key-items.ensures.fits in
    omega arith
