use Rattle.std.proofs.Common.{◌∙◌, arith}
use Rattle.costs.specs.VisitsLaws.{visits-then}
use Rattle.checkpoint_full.proofs.FirstRows.{checkpoint_can_take, checkpoint_takes}
use Rattle.checkpoint_full.proofs.snapshot.Snapshot.append_next.Goals as goal

pub insert-requires-clause-can : goal.insert-requires-clause-can
insert-requires-clause-can g c =
    checkpoint_can_take c.args.timeline.now _ _ _ c.requires.first c.place-place.ensures.place c.row_at-row.ensures.replayable c.row_at-row.ensures.row

pub returns-in_err-insert-clause-visits : goal.returns-in_err-insert-clause-visits
returns-in_err-insert-clause-visits g c = visits-then 144 144 _ _ _ _ _ (omega (arith, c.requires.earlier)) c.row_at-row.ensures.visits c.insert.ensures.visits

pub returns-clause-ok : goal.returns-clause-ok
returns-clause-ok g c =
    c.in_ok-insert.ensures.ok ∙ checkpoint_takes c.args.timeline.now _ _ _ c.requires.first c.place-place.ensures.place c.row_at-row.ensures.row

pub returns-clause-visits : goal.returns-clause-visits
returns-clause-visits g c = visits-then 144 144 _ _ _ _ _ (omega (arith, c.requires.earlier)) c.row_at-row.ensures.visits c.insert.ensures.visits
