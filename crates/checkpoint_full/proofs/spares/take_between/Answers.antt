use Rattle.std.proofs.Common.{sym, subst}
use Rattle.std.specs.List.{AllByRecursion}
use Rattle.checkpoint_full.specs.Checkpoints.{HoldsFirstRows}
use Rattle.checkpoint_full.proofs.Settled.{all_without}
use Rattle.checkpoint_full.proofs.Aside.{one_stands}
use Rattle.checkpoint_full.proofs.spares.take_between.Goals as goal

pub returns-clause-first : goal.returns-clause-first
returns-clause-first g c =
    subst (λ cs. AllByRecursion (HoldsFirstRows c.args.timeline.now) cs) (sym c.remove.ensures.items)
    (all_without (HoldsFirstRows c.args.timeline.now) c.args.spares.now.items c.in-Some.index c.requires.first)

pub returns-clause-taken : goal.returns-clause-taken
returns-clause-taken g c =
    one_stands c.args.from c.args.to c.args.timeline.now c.args.spares.now.items _ _ c.in-Some.index _ c.found_between.ensures c.as_slice.ensures.value c.in-Some.is
    c.remove.ensures.value c.requires.first
