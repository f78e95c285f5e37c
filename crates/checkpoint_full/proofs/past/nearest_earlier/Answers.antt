use Rattle.std.proofs.Common.{◌∙◌, sym}
use Rattle.checkpoint_full.proofs.Places.{nearest_is_near, one_is_nearest}
use Rattle.checkpoint_full.proofs.past.nearest_earlier.Goals as goal

pub unwrap-requires : goal.unwrap-requires
unwrap-requires g c =
    one_is_nearest _ _ c.args.place c.args.checkpoints.now c.nearest.result c.requires.made c.requires.checkpoints.close c.nearest.ensures

pub returns-clause-near : goal.returns-clause-near
returns-clause-near g c earlier there =
    nearest_is_near _ c.args.timeline.now c.args.checkpoints.now c.args.place _ earlier c.requires.checkpoints c.requires.within
    (sym c.nearest.ensures ∙ c.unwrap.ensures) there
