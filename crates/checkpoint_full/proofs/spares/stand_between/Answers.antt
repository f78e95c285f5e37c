use Rattle.std.proofs.Common.{arith}
use Rattle.checkpoint_full.proofs.Aside.{holds_of_later}
use Rattle.checkpoint_full.proofs.spares.stand_between.Goals as goal

pub moved_to-requires-clause-first : goal.moved_to-requires-clause-first
moved_to-requires-clause-first g c =
    holds_of_later c.args.timeline.now c.args.later.now c.in-Some.spare c.requires.later c.in-Some.ensures.taken.0
    (omega (arith, c.in-Some.ensures.taken.1, c.place.ensures.place))
