-- Before the followers are numbered nothing is read or written.
use Rattle.std.proofs.Common.{inl, rules}
use Rattle.std.proofs.lemmas.Result.{err_from_is_err_and}
use Rattle.retro_io.specs.FlushLaws.{StaysUnflushed-none}
use Rattle.retro_run.proofs.Ends.{at_start}
use Rattle.retro_run.proofs.Reported.{prefix_that_stands}
use Rattle.retro_run.proofs.followed.follow_from_start.Goals as goal

pub returns-in_err-numbered-clause-stands : goal.returns-in_err-numbered-clause-stands
returns-in_err-numbered-clause-stands g c =
    let p = err_from_is_err_and c.from_residual.result c.from_residual.ensures.1 in
    rw (p.1, p.2) (inl record { earlier = at_start g.S.Source _ c.args.source.now _ _; unflushed = StaysUnflushed-none g.K.Sink g.K.SendingSink.sends _ })

pub returns-in_err-numbered-clause-prefix : goal.returns-in_err-numbered-clause-prefix
returns-in_err-numbered-clause-prefix g c =
    prefix_that_stands g.S.Source g.K.Sink g.K.SendingSink.sends _ _ _ _ _ _ (returns-in_err-numbered-clause-stands g c)

pub returns-clause-prefix : goal.returns-clause-prefix
returns-clause-prefix g c =
    let prefix = prefix_that_stands g.S.Source g.K.Sink g.K.SendingSink.sends _ _ _ _ _ _ c.follow_script.ensures.stands in
    search rules
