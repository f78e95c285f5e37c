use Rattle.std.proofs.Common.{arith}
use Rattle.checkpoint_full.specs.Checkpoints.{HoldsFirstRows}
use Rattle.checkpoint_full.proofs.Mapped.{all_of}
use Rattle.checkpoint_full.proofs.settle.drop_at.Goals as goal

pub lay_aside-requires-clause-holds : goal.lay_aside-requires-clause-holds
lay_aside-requires-clause-holds g c =
    all_of (HoldsFirstRows c.args.present.now) c.args.checkpoints.now.items c.args.index _ c.remove-dropped.result c.requires.first
    (omega (arith, c.requires.there)) c.remove-dropped.ensures.value
