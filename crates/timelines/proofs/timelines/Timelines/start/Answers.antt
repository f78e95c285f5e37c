use Rattle.std.proofs.Common.{sym, ◌∙◌}
use Rattle.reactions.specs.declared.outcome.Outcome.TheVariants.{Accepted}
use Rattle.reactions.specs.Bench.{fresh}
use Rattle.reactions.specs.Reaction.{with_timeline}
use Rattle.timelines.proofs.Named.{no_room, startable}
use Rattle.timelines.proofs.timelines.Timelines.start.Goals as goal

pub returns-then-is_full-clause-ok : goal.returns-then-is_full-clause-ok
returns-then-is_full-clause-ok g c =
    rw c.refused-then-is_full.ensures
    (no_room c.args.self.now c.args.name _ (sym c.has.ensures ∙ c.if-has.false) (sym c.is_full.ensures ∙ c.if-is_full.true))

pub returns-clause-ok : goal.returns-clause-ok
returns-clause-ok g c =
    rw (c.in_ok-add.ensures.ok, c.in_ok-timeline.ensures)
    (startable c.args.self.now c.args.name (with_timeline c.args.self.now (fresh c.args.name c.args.kind) Accepted) (sym c.has.ensures ∙ c.if-has.false)
    (sym c.is_full.ensures ∙ c.if-is_full.false))
