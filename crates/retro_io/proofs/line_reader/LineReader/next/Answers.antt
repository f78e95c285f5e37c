-- The line given is the first of the lines of the bytes held and of those taken in the call.
use Rattle.std.proofs.Common.{◌≡◌, ℕ, ◌+◌, ◌-◌, Bool, false, List, [], ◌∷◌, ◌++◌, length, take, drop, Result, Ok, refl, subst, sym, ap, ◌∙◌, inl, arith}
use Rattle.std.proofs.lemmas.List.{append-nil, length-drop}
use Rattle.retro_io.specs.DueReads.{WereDue}
use Rattle.retro_io.specs.declared.mark.Mark.{Mark}
use Rattle.retro_io.specs.declared.mark.Mark.TheVariants.{End}
use Rattle.retro_io.specs.declared.mark.ReadError.{ReadError}
use Rattle.retro_io.specs.declared.line_reader.LineReader.{LineReader}
use Rattle.retro_io.specs.declared.source.Source.{Ghosts}
use Rattle.retro_io.specs.LineReader.{has_ended, held, limit_of, source_of, taken}
use Rattle.retro_io.specs.Lines.{has_line_feed, line_feed, without_return}
use Rattle.retro_io.specs.Marks.{Shows}
use Rattle.retro_io.specs.Reads.{GivesFirst, GivesPiece, MakesOf, Took}
use Rattle.retro_io.proofs.DueLemmas.{WereDue-none}
use Rattle.retro_io.proofs.ReadLemmas.{Took-left, Gives-nil, GivesFirst-of, GivesFirst-piece, GivesNextOf-from, end_of_call, gives_line_from}
use Rattle.retro_io.proofs.ReadLemmas.{lines_of_call, Took-none, progress_of_call, measures_shown, measures_of_call, shows_no_end}
use Rattle.retro_io.proofs.line_reader.LineReader.next.Goals as goal

-- the line that a line feed ends among the bytes held
first_held : (mark : Mark) (shown held after : List ℕ) (ended : Bool) (at : ℕ) → has_line_feed (take at held) ≡ false
    → held ≡ take at held ++ line_feed ∷ drop (at + 1) held → Shows mark shown (without_return (take at held)) → after ≡ drop (at + 1) held
    → GivesFirst mark shown ended (held ++ []) after
first_held mark shown held after ended at unbroken cut shows same =
    let piece : GivesPiece mark shown ended held after = record {
      piece = take at held;
      unbroken = unbroken;
      shows = shows;
      cut = inl (cut ∙ ap (λ l. take at held ++ line_feed ∷ l) (sym same));
    } in
    GivesFirst-of mark shown ended held (held ++ []) after (sym (append-nil held)) (GivesFirst-piece mark shown ended held after piece)

pub returns-in-Some-clause-gives : goal.returns-in-Some-clause-gives
returns-in-Some-clause-gives g c =
    let held = c.args.self.now.buffer.held in
    let left = g.S.Source.left c.args.self.now.source.now in
    let found = c.in-Some.ensures in
    record {
      lines = GivesNextOf-from c.give.result c.give.new.self.shown c.args.self.now.ended held c.give.new.self.held [] left left (Gives-nil left)
          (first_held c.give.result c.give.new.self.shown held c.give.new.self.held c.args.self.now.ended c.in-Some.at found.1 found.2
          c.give.ensures.shown c.give.ensures.held)
          c.args.self.now.none_left;
      shown = measures_shown _ _ _ c.give.ensures.shown;
      progress = λ _. omega (arith, ap length c.give.ensures.held, length-drop (c.in-Some.at + 1) held, found.0, c.args.self.now.counted);
      at_end = shows_no_end _ _ _ c.give.ensures.shown;
    }

pub returns-in-None-clause-gives : goal.returns-in-None-clause-gives
returns-in-None-clause-gives g c =
    let first = c.args.self.now in
    let last = c.read_line.new.self in
    let took = Took-left _ _ _ _ _ c.read_line.ensures.took in
    gives_line_from c.read_line.result first last
    (lines_of_call c.read_line.result last.buffer.shown last.ended first.buffer.held last.buffer.held
    (g.S.Source.left first.source.now) (g.S.Source.left last.source.now) _ took last.none_left)
    (measures_of_call c.read_line.result last.buffer.shown last.ended first.buffer.held last.buffer.held _ _ _ took)
    (progress_of_call c.read_line.result last.buffer.shown last.ended first.buffer.held last.buffer.held
    _ _ first.taken last.taken took c.read_line.ensures.moves.more first.counted)
    (end_of_call c.read_line.result last.buffer.shown last.ended first.buffer.held last.buffer.held _ _ _ took last.at_end)

-- what a call without a read made of the bytes held
took_none : {S : Type 0} (G : Ghosts S) (reader : LineReader S G) (result : Result Mark ReadError) (shown : List ℕ) (ended : Bool) (after : List ℕ) (count : ℕ)
    → count ≡ 0 → MakesOf result shown ended (held reader) after [] → Took (G.left (source_of reader)) (G.left (source_of reader)) count
    (λ got. MakesOf result shown ended (held reader) after got
    × WereDue G.reads (limit_of reader - taken reader) (held reader) (has_ended reader) (source_of reader) got (source_of reader))
took_none G reader result shown ended after count none makes =
    Took-none _ _ (λ got. MakesOf result shown ended (held reader) after got
    × WereDue G.reads (limit_of reader - taken reader) (held reader) (has_ended reader) (source_of reader) got (source_of reader))
    none (makes, WereDue-none G.reads _ _ _ _)

pub returns-then-self-clause-took : goal.returns-then-self-clause-took
returns-then-self-clause-took g c =
    let none = c.args.self.now.all_given c.if-self.true in
    took_none g.S.Source c.args.self.now (Ok End) c.args.self.now.buffer.shown c.args.self.now.ended c.args.self.now.buffer.held _ (omega arith)
    (rw none (refl, refl, c.if-self.true))

pub returns-in-Some-clause-took : goal.returns-in-Some-clause-took
returns-in-Some-clause-took g c =
    took_none g.S.Source c.args.self.now (Ok c.give.result) c.give.new.self.shown c.args.self.now.ended c.give.new.self.held _ (omega arith)
    (first_held c.give.result c.give.new.self.shown (held c.args.self.now) c.give.new.self.held c.args.self.now.ended c.in-Some.at
    c.in-Some.ensures.1 c.in-Some.ensures.2 c.give.ensures.shown c.give.ensures.held)

pub returns-in-None-clause-took : goal.returns-in-None-clause-took
returns-in-None-clause-took g c =
    let took = c.read_line.ensures.took in
    record {
      got = took.got;
      gives = took.gives;
      counts = took.counts;
      holds = (
        took.holds.0,
        subst (λ ended. WereDue g.S.Source.reads (c.args.self.now.limit - c.args.self.now.taken) c.args.self.now.buffer.held ended
            c.args.self.now.source.now took.got c.read_line.new.self.source.now) (sym c.if-self.false) took.holds.1,
      );
    }
