-- What the read put into the buffer stands after the bytes held.
use Rattle.std.proofs.Common.{◌≡◌, ◌+◌, ◌-◌, ◌++◌, Ok, length, drop, take, ap, sym, ◌∙◌, subst, arith}
use Rattle.retro_io.specs.LineBuffer.{Buffered}
use Rattle.retro_io.specs.Source.{Gives}
use Rattle.retro_io.proofs.RangeLemmas.{came, held_length}
use Rattle.retro_io.proofs.line_buffer.LineBuffer.fill_from.Goals as goal

pub returns-clause-given : goal.returns-clause-given
returns-clause-given g c =
    let held = c.self.inside.end - c.self.inside.start in
    let size : length c.args.self.now.held ≡ held =
    held_length _ c.self.inside.bytes.items _ c.self.inside.end (ap (λ (b : Buffered). b.held) c.self.view_is) (omega arith)
    (omega (arith, c.self.inside.bytes.ok.0)) in
    let moved = take c.self.inside.bytes.len (c.move_to_front.new.bytes ++ drop (length c.move_to_front.new.bytes) c.self.inside.bytes.items) in
    subst (λ bytes. Gives (g.S.Source.left c.args.source.now) bytes (g.S.Source.left c.read_into.new.source))
    (sym (came c.args.self.now.held c.read_into.new.bytes moved c.self.inside.bytes.len held c.in_ok-count.count size
    (c.in_ok-count.ensures.len ∙ c.deref_mut-2.ensures.len)))
    c.in_ok-count.ensures.given

pub returns-clause-reads : goal.returns-clause-reads
returns-clause-reads g c =
    let held = c.self.inside.end - c.self.inside.start in
    let size : length c.args.self.now.held ≡ held =
    held_length _ c.self.inside.bytes.items _ c.self.inside.end (ap (λ (b : Buffered). b.held) c.self.view_is) (omega arith)
    (omega (arith, c.self.inside.bytes.ok.0)) in
    let moved = take c.self.inside.bytes.len (c.move_to_front.new.bytes ++ drop (length c.move_to_front.new.bytes) c.self.inside.bytes.items) in
    record {
      room = held + c.min.result - held;
      answer = Ok (take c.in_ok-count.count (drop held c.read_into.new.bytes));
      offers = (omega (arith, c.min.ensures, size), omega (arith, c.min.ensures, size), omega (arith, c.min.ensures));
      read = c.in_ok-count.ensures.reads;
      gave = sym (came c.args.self.now.held c.read_into.new.bytes moved c.self.inside.bytes.len held c.in_ok-count.count size
          (c.in_ok-count.ensures.len ∙ c.deref_mut-2.ensures.len));
    }
