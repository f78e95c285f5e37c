use Rattle.timeline_undo.proofs.Judged.{walk_names}
use Rattle.timeline_undo.proofs.scan.failing_after.Goals as goal

pub returns : goal.returns
returns g c = walk_names _ _ c.args.replacement _ c.requires.replayable c.requires.replaces c.failing_by_walk.ensures
