-- A text is written by calls of `write` alone.
use Rattle.std.proofs.lemmas.Result.{err_from_is_err_and}
use Rattle.retro_io.specs.FlushLaws.{EndsWithFailedWrite-handed, StaysUnflushed-put}
use Rattle.retro_run.proofs.deliver.append.Goals as goal

pub returns-clause-unflushed : goal.returns-clause-unflushed
returns-clause-unflushed g c =
    StaysUnflushed-put g.K.Sink g.K.SendingSink.sends _ _ c.args.text.now c.in_ok-put_all.ensures.nothing c.in_ok-put_all.ensures.flushed
    c.in_ok-put_all.ensures.handed c.in_ok-put_all.ensures.appended

pub returns-in_err-put_all-clause-last : goal.returns-in_err-put_all-clause-last
returns-in_err-put_all-clause-last g c =
    let p = err_from_is_err_and c.from_residual.result c.from_residual.ensures.1 in
    rw p.1 (EndsWithFailedWrite-handed g.K.Sink g.K.SendingSink.sends c.args.text.now _ _ c.in_err-put_all.ensures.handed)
