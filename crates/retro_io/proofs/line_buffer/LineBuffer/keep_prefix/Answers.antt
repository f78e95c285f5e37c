-- A prefix of the bytes held is a range of the buffer.
use Rattle.std.proofs.Common.{◌≡◌, ◌≤◌, ◌+◌, take, ap, sym, subst, arith}
use Rattle.std.specs.List.{slice_range}
use Rattle.retro_io.specs.Lines.{MarksLineFeed, longest_line}
use Rattle.retro_io.specs.LineBuffer.{Buffered}
use Rattle.retro_io.proofs.LineLemmas.{MarksLineFeed-take}
use Rattle.retro_io.proofs.RangeLemmas.{held_length, held_prefix}
use Rattle.retro_io.proofs.line_buffer.LineBuffer.keep_prefix.Goals as goal

pub returns-clause-held : goal.returns-clause-held
returns-clause-held c =
    held_prefix _ c.self.inside.bytes.items _ c.self.inside.end (ap (λ (b : Buffered). b.held) c.self.view_is) (omega arith)
    (omega (arith, c.self.inside.bytes.ok.0)) longest_line (omega arith)

pub invariant_of-self : goal.invariant_of-self
invariant_of-self c =
    let held = c.args.self.now.held in
    let items = c.self.inside.bytes.items in
    let start = c.self.inside.start in
    let same : slice_range items start c.self.inside.end ≡ held = ap (λ (b : Buffered). b.held) c.self.view_is in
    let within : start + longest_line ≤ c.self.inside.end =
    omega (arith, held_length held items start c.self.inside.end same (omega arith) (omega (arith, c.self.inside.bytes.ok.0))) in
    let prefix : slice_range items start (start + longest_line) ≡ take longest_line held =
    held_prefix held items start c.self.inside.end same (omega arith) (omega (arith, c.self.inside.bytes.ok.0)) longest_line (omega arith) in
    let marks : MarksLineFeed c.self.inside.line_feed held = subst (λ bytes. MarksLineFeed c.self.inside.line_feed bytes) same c.self.invariant.5 in (
      omega arith,
      omega arith,
      omega arith,
      omega arith,
      omega arith,
      subst (λ bytes. MarksLineFeed c.self.inside.line_feed bytes) (sym prefix) (MarksLineFeed-take c.self.inside.line_feed held longest_line marks c.requires.unbroken),
    )
