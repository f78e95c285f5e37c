use Rattle.std.proofs.Common.{sym, ap, ◌∙◌}
use Rattle.timelines.specs.Kept.{KeptTimeline}
use Rattle.timelines.proofs.KeptTimelines.{kept_session, unspent_found}
use Rattle.timelines.proofs.Named.{session_nowhere}
use Rattle.timelines.proofs.timelines.Timelines.session.Goals as goal

pub returns-in-Some : goal.returns-in-Some
returns-in-Some g c =
    rw (← c.self.view_is) (
      kept_session c.args.name.now c.self.inside.timelines.items c.in-Some.index c.index.result.now c.session.result.now
          (rw (← c.self.view_is) at (sym c.in-Some.is ∙ c.index_of.ensures)) c.index.ensures c.session.ensures,
      sym (ap (λ (kept : KeptTimeline). kept.spent) c.session.ensures)
          ∙ unspent_found c.args.name.now c.self.inside.timelines.items c.in-Some.index c.index.result.now c.self.invariant
          (rw (← c.self.view_is) at (sym c.in-Some.is ∙ c.index_of.ensures)) c.index.ensures,
    )

pub returns-in-None : goal.returns-in-None
returns-in-None g c = session_nowhere c.args.name.now c.args.self.now (sym c.in-None.is ∙ c.index_of.ensures)
