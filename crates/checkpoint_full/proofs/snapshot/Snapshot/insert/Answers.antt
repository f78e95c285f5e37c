use Rattle.std.proofs.Common.{◌≤◌, ◌+◌, sym, subst}
use Rattle.costs.specs.Visits.{VisitsWithin}
use Rattle.costs.specs.VisitsLaws.{visits-longer}
use Rattle.checkpoint_full.specs.Checkpoints.{place_of}
use Rattle.checkpoint_full.proofs.Costs.{no_longer}
use Rattle.checkpoint_full.proofs.snapshot.Snapshot.insert.Goals as goal

pub returns-clause-visits : goal.returns-clause-visits
returns-clause-visits g c =
    subst (λ s. VisitsWithin 144 (place_of s + 1) c.args.steps.now c.insert.new.steps) c.self.view_is
    (visits-longer 144 _ _ _ _
    (no_longer c.insert.result _ _ c.args.place c.args.row (subst (λ s. c.args.place ≤ place_of s) (sym c.self.view_is) c.requires.within) c.insert.ensures.rows c.insert.ensures.err)
    c.insert.ensures.visits)
