use Rattle.retro_base.specs.OrderLaws.{time_fits}
use Rattle.order_timeline.proofs.timeline.Timeline.place_at.Goals as goal

pub returns-clause-fits : goal.returns-clause-fits
returns-clause-fits c = rw (← c.self.view_is, c.rows_up_to.ensures.place) (time_fits c.args.time _ c.self.invariant.ordered.in_order)
