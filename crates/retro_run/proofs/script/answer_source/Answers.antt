-- Before the buffer is there nothing is read or written.
use Rattle.std.proofs.Common.{inl, rules}
use Rattle.std.proofs.lemmas.Result.{err_from_is_err_and}
use Rattle.retro_io.specs.FlushLaws.{StaysUnflushed-none}
use Rattle.retro_run.proofs.Causes.{reader_cause}
use Rattle.retro_run.proofs.Ends.{at_start}
use Rattle.retro_run.proofs.script.answer_source.Goals as goal

pub returns-in_err-buffer-clause-stands : goal.returns-in_err-buffer-clause-stands
returns-in_err-buffer-clause-stands g c =
    let p = err_from_is_err_and c.from_residual.result c.from_residual.ensures.1 in
    rw (p.1, p.2) (inl record { earlier = at_start g.S.Source _ c.args.source.now _ _; unflushed = StaysUnflushed-none g.K.Sink g.K.SendingSink.sends _ })

pub returns-clause-cause : goal.returns-clause-cause
returns-clause-cause g c =
    let did = c.answer_lines-answered in
    let cause = reader_cause g.S.Source g.K.Sink c.new-reader.result.reader did.new.reader.reader c.args.sink.now did.new.sink did.result
    (search rules) (search rules) did.ensures.moves did.ensures.too_long did.ensures.source_faults did.ensures.sink_faults in
    search rules
