-- No byte that was taken since ends a line, and the first bytes of the line are still held.
use Rattle.std.proofs.Common.{◌≡◌, ◌≤◌, ◌+◌, ◌-◌, false, length, take, List, ℕ}
use Rattle.retro_io.specs.DueReads.{ReadsDue}
use Rattle.retro_io.specs.LineReader.{MovesOn}
use Rattle.retro_io.specs.Lines.{longest_line, has_line_feed}
use Rattle.retro_io.specs.Reads.{Took}
use Rattle.retro_io.proofs.line_reader.LineReader.read_long.Given as goal

abbrev pub invariant-loop-self : goal.invariant-loop-self
invariant-loop-self g l = record {
  moves : MovesOn l.initial.self l.self;
  failed : l.self.failed ≡ false;
  ended : l.self.ended ≡ false;
  unbroken : has_line_feed l.self.buffer.held ≡ false;
  long : longest_line ≤ length l.self.buffer.held;
  prefix : take longest_line l.self.buffer.held ≡ take longest_line l.initial.self.buffer.held;
  in_limit : l.self.taken ≤ l.self.limit;
  source_faults : g.S.Source.faults l.initial.self.source.now ≤ g.S.Source.faults l.self.source.now;
  took : Took (g.S.Source.left l.initial.self.source.now) (g.S.Source.left l.self.source.now) (l.self.taken - l.initial.self.taken)
      (λ (got : List ℕ). (has_line_feed got ≡ false)
      × ReadsDue g.S.Source.reads (l.initial.self.limit - l.initial.self.taken) l.initial.self.buffer.held false l.initial.self.source.now
      got false l.self.source.now);
}

abbrev pub decreases-loop-self : goal.decreases-loop-self
decreases-loop-self g l = l.self.limit + 1 - l.self.taken
