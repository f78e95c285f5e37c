use Rattle.std.proofs.Common.{◌+◌, ◌-◌, ◌*◌, arith}
use Rattle.costs.specs.VisitsLaws.{visits-more}
use Rattle.checkpoint_full.specs.Checkpoints.{place_of}
use Rattle.checkpoint_full.proofs.past.ask_at.Goals as goal

pub returns-in-Some-clause-visits : goal.returns-in-Some-clause-visits
returns-in-Some-clause-visits g c =
    let near = c.nearest_earlier-index.ensures.near _ c.index-checkpoints-index.is in
    visits-more (288 * (c.args.place - place_of c.in-Some.copy + (place_of c.in-Some.copy - c.args.place)) + 144) (432 * (c.args.width + 1))
    (place_of c.args.timeline.now) _ _ (omega (arith, near.2, c.in-Some.ensures.near)) c.ask.ensures.visits

pub returns-in-None-clause-visits : goal.returns-in-None-clause-visits
returns-in-None-clause-visits g c =
    let near = c.nearest_earlier-index.ensures.near _ c.index-checkpoints-index-in-None.is in
    visits-more (288 * (c.args.place - place_of c.index-checkpoints-index-in-None.result) + 144) (432 * (c.args.width + 1))
    (place_of c.args.timeline.now) _ _ (omega (arith, near.2))
    c.ask_after.ensures.visits
