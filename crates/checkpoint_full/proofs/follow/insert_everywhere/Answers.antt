use Rattle.checkpoint_full.proofs.Followed.{each_can_follow, now_back_again, now_can_go_back}
use Rattle.checkpoint_full.proofs.follow.insert_everywhere.Goals as goal

pub insert_in_each-requires : goal.insert_in_each-requires
insert_in_each-requires g c =
    each_can_follow c.args.present.now c.args.place c.args.row c.args.checkpoints.now c.requires.can c.insert.ensures.before.valid c.requires.first

pub remove-requires-clause-replays : goal.remove-requires-clause-replays
remove-requires-clause-replays g c =
    now_can_go_back c.args.present.now _ c.args.place c.args.row c.requires.within c.in_ok-change.ensures.ok c.insert.ensures.before.valid

pub returns-in-Err-clause-err : goal.returns-in-Err-clause-err
returns-in-Err-clause-err g c =
    (now_back_again c.args.present.now _ _ c.args.place c.args.row c.remove.result.0 c.requires.within c.in_ok-change.ensures.ok c.remove.ensures.rows, c.in-Err.ensures.err)
