use Rattle.checkpoint_full.specs.Checkpoints.{HoldsFirstRows}
use Rattle.checkpoint_full.proofs.Aside.{all_with_one}
use Rattle.checkpoint_full.proofs.spares.lay_aside.Goals as goal

pub returns : goal.returns
returns g c = record {
  first = all_with_one (HoldsFirstRows c.args.timeline.now) _ c.args.spares.now.items _ c.args.spare c.insert.ensures.items c.requires.holds c.requires.first;
}
