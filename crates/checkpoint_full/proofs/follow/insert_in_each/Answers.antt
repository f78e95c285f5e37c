use Rattle.std.proofs.Common.{sym, subst, arith}
use Rattle.std.specs.List.{AllByRecursion}
use Rattle.checkpoint_full.specs.Checkpoints.{with_row, CanFollow, CanLose}
use Rattle.checkpoint_full.proofs.Followed.{all_as_before, each_can_go_back}
use Rattle.checkpoint_full.proofs.Mapped.{all_changed, changed_before, next_changed, next_has, unchanged_from}
use Rattle.checkpoint_full.proofs.follow.insert_in_each.Goals as goal

pub insert_in-requires : goal.insert_in-requires
insert_in-requires g c =
    next_has (CanFollow c.args.place c.args.row) (with_row c.args.place c.args.row) c.loop-index.index c.args.checkpoints.now c.loop-index.checkpoints _ c.requires
    c.loop-index-test.true c.loop-index.invariant

pub remove_in_each-requires : goal.remove_in_each-requires
remove_in_each-requires g c =
    subst (λ checkpoints. AllByRecursion (CanLose c.args.place) checkpoints)
    (sym (changed_before (with_row c.args.place c.args.row) c.loop-index.index c.args.checkpoints.now c.loop-index.checkpoints _ _ _
    c.loop-index.invariant c.in-Err.ensures.err c.split_at_mut-first.ensures.front))
    (each_can_go_back c.args.place c.args.row c.loop-index.index c.args.checkpoints.now c.requires)

pub returns-in-Err-clause-err : goal.returns-in-Err-clause-err
returns-in-Err-clause-err g c =
    all_as_before c.args.place c.args.row c.loop-index.index c.args.checkpoints.now _ _ _
    (changed_before (with_row c.args.place c.args.row) c.loop-index.index c.args.checkpoints.now c.loop-index.checkpoints _ _ _
    c.loop-index.invariant c.in-Err.ensures.err c.split_at_mut-first.ensures.front)
    (unchanged_from (with_row c.args.place c.args.row) c.loop-index.index c.args.checkpoints.now c.loop-index.checkpoints _ _ _
    c.loop-index.invariant c.in-Err.ensures.err c.split_at_mut-first.ensures.back)
    c.remove_in_each.ensures

pub loop-index-preserved : goal.loop-index-preserved
loop-index-preserved g c =
    next_changed (with_row c.args.place c.args.row) c.loop-index.index c.args.checkpoints.now c.loop-index.checkpoints _ _ c.loop-index-test.true
    c.loop-index.invariant c.in_default.ensures.ok

pub returns-clause-ok : goal.returns-clause-ok
returns-clause-ok g c =
    all_changed (with_row c.args.place c.args.row) c.loop-index.index c.args.checkpoints.now c.loop-index.checkpoints c.loop-index.invariant
    (omega (arith, c.loop-index.auto.checkpoints, c.loop-index.auto.index-end, c.loop-index-test.false))
