use Rattle.std.proofs.Common.{arith}
use Rattle.checkpoint_full.specs.Checkpoints.{without_row, CanLose}
use Rattle.checkpoint_full.proofs.Mapped.{all_changed, next_changed, next_has}
use Rattle.checkpoint_full.proofs.follow.remove_in_each.Goals as goal

pub remove_in-requires : goal.remove_in-requires
remove_in-requires g c =
    next_has (CanLose c.args.place) (without_row c.args.place) c.loop-checkpoint.checkpoint-index c.args.checkpoints.now c.loop-checkpoint.checkpoints _ c.requires
    c.loop-checkpoint-test.true c.loop-checkpoint.invariant

pub loop-checkpoint-preserved : goal.loop-checkpoint-preserved
loop-checkpoint-preserved g c =
    next_changed (without_row c.args.place) c.loop-checkpoint.checkpoint-index c.args.checkpoints.now c.loop-checkpoint.checkpoints _ _ c.loop-checkpoint-test.true
    c.loop-checkpoint.invariant c.remove_in.ensures

pub returns : goal.returns
returns g c =
    all_changed (without_row c.args.place) c.loop-checkpoint.checkpoint-index c.args.checkpoints.now c.loop-checkpoint.checkpoints c.loop-checkpoint.invariant
    (omega (arith, c.loop-checkpoint.auto.checkpoints, c.loop-checkpoint.auto.checkpoint-index-end, c.loop-checkpoint-test.false))
