use Rattle.std.proofs.Common.{◌-◌, ◌*◌, arith}
use Rattle.checkpoint_full.specs.Checkpoints.{place_of}
use Rattle.checkpoint_full.proofs.Costs.{visits_at_most}
use Rattle.checkpoint_full.proofs.FirstRows.{not_after_now}
use Rattle.checkpoint_full.proofs.snapshot.Snapshot.move_to.Goals as goal

pub returns-then-is_after-clause-visits : goal.returns-then-is_after-clause-visits
returns-then-is_after-clause-visits g c =
    visits_at_most (144 * (place_of c.args.self.now - c.args.place)) _ (place_of c.args.self.now) (place_of c.args.timeline.now) _ _ (omega arith)
    (not_after_now c.args.timeline.now c.args.self.now c.requires.first) c.roll_back.ensures.visits
