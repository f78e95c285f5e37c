-- What is shown, and what is held after it, are ranges of the buffer.
use Rattle.std.proofs.Common.{◌≡◌, ◌≤◌, ◌+◌, ◌-◌, length, take, ap, sym, ◌∙◌, arith}
use Rattle.std.specs.List.{slice_range}
use Rattle.retro_io.specs.Lines.{longest_line}
use Rattle.retro_io.specs.Lines.{without_return}
use Rattle.retro_io.specs.LineBuffer.{Buffered}
use Rattle.retro_io.proofs.RangeLemmas.{held_prefix, held_after, held_length}
use Rattle.retro_io.proofs.line_buffer.LineBuffer.give.Goals as goal

pub returns-then-line-self-gt-LONGEST-clause-shown : goal.returns-then-line-self-gt-LONGEST-clause-shown
returns-then-line-self-gt-LONGEST-clause-shown c =
    let held = c.args.self.now.held in
    let items = c.self.inside.bytes.items in
    let start = c.self.inside.start in
    let end = c.line_end-line.result in
    let same : items ≡ c.deref.result.now = sym c.deref.ensures.value in
    let piece : slice_range items start (start + c.args.piece) ≡ take c.args.piece held =
    held_prefix held items start c.self.inside.end (ap (λ (b : Buffered). b.held) c.self.view_is) (omega arith)
    (omega (arith, c.self.inside.bytes.ok.0)) c.args.piece (omega arith) in
    let line : slice_range items start end ≡ without_return (take c.args.piece held) =
    ap (λ xs. slice_range xs start end) same ∙ c.line_end-line.ensures.line
    ∙ ap (λ xs. without_return (slice_range xs start (start + c.args.piece))) (sym same) ∙ ap without_return piece in
    let within : end ≤ length items = omega (
      arith,
      c.self.inside.bytes.ok.0,
      c.self.invariant,
      held_length held items start c.self.inside.end (ap (λ (b : Buffered). b.held) c.self.view_is) (omega arith)
          (omega (arith, c.self.inside.bytes.ok.0)),
    ) in
    let size : length (without_return (take c.args.piece held)) ≡ end - start =
    held_length (without_return (take c.args.piece held)) items start end line (omega arith) within in (
      held_prefix (without_return (take c.args.piece held)) items start end line (omega arith) within longest_line (omega (arith, size)),
      omega (arith, size),
    )

pub returns-then-line-self-gt-LONGEST-clause-held : goal.returns-then-line-self-gt-LONGEST-clause-held
returns-then-line-self-gt-LONGEST-clause-held c =
    held_after _ c.self.inside.bytes.items _ c.self.inside.end (ap (λ (b : Buffered). b.held) c.self.view_is) (omega arith)
    (omega (arith, c.self.inside.bytes.ok.0)) c.args.given (omega arith)

pub returns-clause-held : goal.returns-clause-held
returns-clause-held c =
    held_after _ c.self.inside.bytes.items _ c.self.inside.end (ap (λ (b : Buffered). b.held) c.self.view_is) (omega arith)
    (omega (arith, c.self.inside.bytes.ok.0)) c.args.given (omega arith)
