-- A prefix and the rest of the bytes held are ranges of the buffer.
use Rattle.std.proofs.Common.{ap, arith}
use Rattle.retro_io.specs.Lines.{longest_line}
use Rattle.retro_io.specs.LineBuffer.{Buffered}
use Rattle.retro_io.proofs.RangeLemmas.{held_prefix, held_after}
use Rattle.retro_io.proofs.line_buffer.LineBuffer.give_long.Goals as goal

pub returns-clause-shown : goal.returns-clause-shown
returns-clause-shown c =
    held_prefix _ c.self.inside.bytes.items _ c.self.inside.end (ap (λ (b : Buffered). b.held) c.self.view_is) (omega arith)
    (omega (arith, c.self.inside.bytes.ok.0)) longest_line (omega arith)

pub returns-clause-held : goal.returns-clause-held
returns-clause-held c =
    held_after _ c.self.inside.bytes.items _ c.self.inside.end (ap (λ (b : Buffered). b.held) c.self.view_is) (omega arith)
    (omega (arith, c.self.inside.bytes.ok.0)) c.args.given (omega arith)
