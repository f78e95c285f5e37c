use Rattle.checkpoint_full.proofs.FirstRows.{last_can_go}
use Rattle.checkpoint_full.proofs.snapshot.Snapshot.take_last_off.Goals as goal

pub remove-requires-clause-replays : goal.remove-requires-clause-replays
remove-requires-clause-replays g c = rw c.place.ensures.place (last_can_go _ _ c.requires c.place.ensures.replayable)
