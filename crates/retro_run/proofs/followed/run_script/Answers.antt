-- Nobody follows, so the bench alone answers.
use Rattle.std.proofs.Common.{subst, []}
use Rattle.retro_run.specs.Ends.{ScriptStands}
use Rattle.retro_run.specs.Run.{AppendsWholePrefix}
use Rattle.retro_run.specs.Stop.{status_after}
use Rattle.retro_run.proofs.Alone.{nobody_follows}
use Rattle.retro_run.proofs.Reported.{prefix_that_stands}
use Rattle.retro_run.proofs.followed.run_script.Goals as goal

pub returns-clause-stands : goal.returns-clause-stands
returns-clause-stands g c =
    subst (λ a. ScriptStands g.S.Source g.K.Sink g.K.SendingSink.sends a c.args.source.now c.follow_script.new.source c.args.sink.now c.follow_script.new.sink (status_after c.follow_script.result))
    nobody_follows c.follow_script.ensures.stands

pub returns-clause-prefix : goal.returns-clause-prefix
returns-clause-prefix g c =
    subst (λ a. AppendsWholePrefix a (g.S.Source.left c.args.source.now) (g.K.Sink.written c.args.sink.now) (g.K.Sink.written c.follow_script.new.sink)) nobody_follows
    (prefix_that_stands g.S.Source g.K.Sink g.K.SendingSink.sends [] _ _ _ _ _ c.follow_script.ensures.stands)
