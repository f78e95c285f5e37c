-- The one read offers what is left up to the limit, or one byte.
use Rattle.retro_io.proofs.DueLemmas.{ReadOnce-limit}
use Rattle.retro_io.proofs.line_reader.LineReader.fill.Goals as goal

pub returns-then-self-clause-reads : goal.returns-then-self-clause-reads
returns-then-self-clause-reads g c = ReadOnce-limit g.S.Source.reads _ _ _ _ _ c.max-most.ensures c.in-Ok.ensures.reads

pub returns-else-self-clause-reads : goal.returns-else-self-clause-reads
returns-else-self-clause-reads g c = ReadOnce-limit g.S.Source.reads _ _ _ _ _ c.max-most.ensures c.in-Ok.ensures.reads

pub returns-in-Err-clause-reads : goal.returns-in-Err-clause-reads
returns-in-Err-clause-reads g c = ReadOnce-limit g.S.Source.reads _ _ _ _ _ c.max-most.ensures c.in-Err.ensures.reads
