use Rattle.std.proofs.Common.{sym, subst}
use Rattle.std.specs.List.{AllByRecursion}
use Rattle.checkpoint_full.specs.Checkpoints.{HoldsFirstRows}
use Rattle.checkpoint_full.proofs.Aside.{all_taken}
use Rattle.checkpoint_full.proofs.spares.keep_few.Goals as goal

pub returns-clause-first : goal.returns-clause-first
returns-clause-first g c =
    subst (λ cs. AllByRecursion (HoldsFirstRows c.args.timeline.now) cs) (sym c.truncate.ensures.items)
    (all_taken (HoldsFirstRows c.args.timeline.now) _ c.args.spares.now.items c.requires.first)
