use Rattle.checkpoint_full.proofs.Followed.{each_can_lose}
use Rattle.checkpoint_full.proofs.follow.remove_everywhere.Goals as goal

pub remove_in_each-requires : goal.remove_in_each-requires
remove_in_each-requires g c = each_can_lose c.args.present.now c.args.place c.args.checkpoints.now c.requires.replays c.requires.first
