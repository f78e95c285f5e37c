-- The bytes held are those held first and all that came since.
use Rattle.std.proofs.Common.{◌≡◌, ◌-◌, ℕ, List, false, ◌∷◌, ◌++◌, Result, Ok, Err, length, take, drop, sym, ap, ◌∙◌, inl, subst, arith}
use Rattle.std.proofs.lemmas.List.{append-nil}
use Rattle.std.proofs.lemmas.Result.{err_from_is_err_and}
use Rattle.retro_io.specs.declared.mark.ReadError.{ReadError}
use Rattle.retro_io.specs.DueReads.{ReadOnce, ReadsDue, WereDue}
use Rattle.retro_io.specs.Lines.{has_line_feed, line_feed}
use Rattle.retro_io.specs.Source.{Gives}
use Rattle.retro_io.specs.ReaderLaws.{MovesOn-none, MovesOn-then}
use Rattle.retro_io.specs.Reads.{MakesOf, GivesFirst, GivesPiece}
use Rattle.retro_io.proofs.LineLemmas.{unbroken-back}
use Rattle.retro_io.proofs.DueLemmas.{Took-due, Took-due-on, WereDue-then}
use Rattle.retro_io.proofs.ReadLemmas.{Took-none, Took-both, MakesOf-error, MakesOf-later, GivesFirst-of, GivesFirst-piece, grown, length-after}
use Rattle.retro_io.proofs.line_reader.LineReader.read_line.Goals as goal
use Rattle.retro_io.proofs.line_reader.LineReader.read_line.Goals.{After-fill}
use Rattle.retro_io.proofs.line_reader.LineReader.read_line.Given.{Over}

-- a fill that failed
abbrev failing : ReadError → Result ℕ ReadError
failing error = Err error

-- how many bytes came
size : (g : Over) (c : After-fill g)
    → length (drop (length c.loop-self.self.buffer.held) c.fill.new.self.buffer.held) ≡ c.fill.new.self.taken - c.loop-self.self.taken
size g c = length-after c.loop-self.self.buffer.held c.fill.new.self.buffer.held _ c.fill.ensures.length

-- none of the bytes held first and taken since ends a line
held_unbroken : (g : Over) (c : After-fill g) (xs : List ℕ) → c.loop-self.self.buffer.held ≡ c.args.self.now.buffer.held ++ xs
    → has_line_feed (c.args.self.now.buffer.held ++ xs) ≡ false
held_unbroken g c xs e = ap has_line_feed (sym e) ∙ c.loop-self.invariant.unbroken

pub loop-self-init : goal.loop-self-init
loop-self-init g c = record {
  moves = MovesOn-none c.args.self.now c.args.self.now.within;
  failed = c.requires.failed;
  ended = c.requires.ended;
  unbroken = c.requires.unbroken;
  in_limit = c.args.self.now.in_limit c.requires.failed;
  source_faults = omega arith;
  took = Took-none _ _ _ (omega arith) (sym (append-nil c.args.self.now.buffer.held), ReadsDue.none);
}

pub returns-in_err-fill-clause-took : goal.returns-in_err-fill-clause-took
returns-in_err-fill-clause-took g c =
    let p = err_from_is_err_and c.from_residual.result c.from_residual.ensures.1 in
    let held = c.args.self.now.buffer.held in
    let came = drop (length c.loop-self.self.buffer.held) c.fill.new.self.buffer.held in
    let count = size g (goal.at.returns-in_err-fill-clause-took g c).After-fill in
    let error = c.in_err-fill.field-0.0 in
    rw (p.1, p.2)
    (Took-due g.S.Source.reads _ _ _ _ held _ _ _ _ _ _ (λ xs. c.loop-self.self.buffer.held ≡ held ++ xs)
    (MakesOf (Err error) c.fill.new.self.buffer.shown c.fill.new.self.ended held c.fill.new.self.buffer.held) came
    c.loop-self.invariant.took c.fill.ensures.gives (omega (arith, count, c.fill.ensures.moves.more, c.loop-self.invariant.moves.more))
    (omega (arith, c.loop-self.invariant.moves.limit, c.loop-self.invariant.moves.more)) (held_unbroken g (goal.at.returns-in_err-fill-clause-took g c).After-fill) c.fill.ensures.reads
    (λ xs e. MakesOf-error error _ _ _ _ xs came (unbroken-back held xs (ap has_line_feed (sym e) ∙ c.loop-self.invariant.unbroken))
    (λ is. omega (arith, count, c.in_err-fill.ensures.fault (ap failing is)))
    (λ is. omega (arith, count, c.in_err-fill.ensures.last (ap failing is), c.in_err-fill.ensures.too_long.0 (ap failing is), c.fill.ensures.moves.limit))))

pub returns-then-branch-eq0-clause-took : goal.returns-then-branch-eq0-clause-took
returns-then-branch-eq0-clause-took g c =
    let held = c.args.self.now.buffer.held in
    let before = c.loop-self.self.buffer.held in
    let now = c.fill.new.self.buffer.held in
    let came = drop (length before) now in
    let count = size g (goal.at.returns-then-branch-eq0-clause-took g c).After-fill in
    let mark = c.give_last.result in
    let shown = c.give_last.new.self.buffer.shown in
    let after = c.give_last.new.self.buffer.held in
    let gives : GivesFirst mark shown c.give_last.new.self.ended now after =
    subst (λ ended. GivesFirst mark shown ended now after) (sym c.give_last.ensures.ended) c.give_last.ensures.gives in
    Took-due g.S.Source.reads _ _ _ _ held _ _ _ _ _ _ (λ xs. before ≡ held ++ xs)
    (MakesOf (Ok mark) shown c.give_last.new.self.ended held after) came
    c.loop-self.invariant.took
    (subst (λ source. Gives (g.S.Source.left c.loop-self.self.source.now) came (g.S.Source.left source)) (sym c.give_last.ensures.source) c.fill.ensures.gives)
    (omega (arith, count, c.fill.ensures.moves.more, c.loop-self.invariant.moves.more, c.give_last.ensures.taken))
    (omega (arith, c.loop-self.invariant.moves.limit, c.loop-self.invariant.moves.more)) (held_unbroken g (goal.at.returns-then-branch-eq0-clause-took g c).After-fill)
    (subst (λ source. ReadOnce g.S.Source.reads (c.loop-self.self.limit - c.loop-self.self.taken) c.loop-self.self.source.now came source)
    (sym c.give_last.ensures.source) c.fill.ensures.reads)
    (λ xs e. GivesFirst-of mark shown c.give_last.new.self.ended now (held ++ (xs ++ came)) after (grown held before now xs e c.fill.ensures.kept) gives)

pub returns-in-Some-clause-took : goal.returns-in-Some-clause-took
returns-in-Some-clause-took g c =
    let held = c.args.self.now.buffer.held in
    let before = c.loop-self.self.buffer.held in
    let now = c.fill.new.self.buffer.held in
    let came = drop (length before) now in
    let count = size g (goal.at.returns-in-Some-clause-took g c).After-fill in
    let mark = c.give.result in
    let shown = c.give.new.self.shown in
    let after = c.give.new.self.held in
    let ended = c.fill.new.self.ended in
    let found = c.in-Some.ensures in
    let piece : GivesPiece mark shown ended now after = record {
      piece = take c.in-Some.at now;
      unbroken = found.1;
      shows = c.give.ensures.shown;
      cut = inl (found.2 ∙ ap (λ l. take c.in-Some.at now ++ line_feed ∷ l) (sym c.give.ensures.held));
    } in
    Took-due g.S.Source.reads _ _ _ _ held _ _ _ _ _ _ (λ xs. before ≡ held ++ xs)
    (MakesOf (Ok mark) shown ended held after) came
    c.loop-self.invariant.took c.fill.ensures.gives
    (omega (arith, count, c.fill.ensures.moves.more, c.loop-self.invariant.moves.more))
    (omega (arith, c.loop-self.invariant.moves.limit, c.loop-self.invariant.moves.more)) (held_unbroken g (goal.at.returns-in-Some-clause-took g c).After-fill) c.fill.ensures.reads
    (λ xs e. GivesFirst-of mark shown ended now (held ++ (xs ++ came)) after (grown held before now xs e c.fill.ensures.kept)
    (GivesFirst-piece mark shown ended now after piece))

pub loop-self-preserved : goal.loop-self-preserved
loop-self-preserved g c =
    let held = c.args.self.now.buffer.held in
    let before = c.loop-self.self.buffer.held in
    let now = c.fill.new.self.buffer.held in
    let came = drop (length before) now in
    let count = size g (goal.at.loop-self-preserved g c).After-fill in
    record {
      moves = MovesOn-then c.args.self.now c.loop-self.self c.fill.new.self c.loop-self.invariant.moves c.fill.ensures.moves;
      failed = c.in_ok-fill.ensures.failed;
      ended = c.fill.ensures.ended;
      unbroken = c.in_default.ensures;
      in_limit = c.fill.new.self.in_limit c.in_ok-fill.ensures.failed;
      source_faults = omega (arith, c.in_ok-fill.ensures.source_faults, c.loop-self.invariant.source_faults);
      took = Took-due-on g.S.Source.reads _ _ _ _ held _ _ _ _ _ _ (λ xs. before ≡ held ++ xs) (λ xs. now ≡ held ++ xs) came
          c.loop-self.invariant.took c.fill.ensures.gives (omega (arith, count, c.fill.ensures.moves.more, c.loop-self.invariant.moves.more))
          (omega (arith, c.loop-self.invariant.moves.limit, c.loop-self.invariant.moves.more)) (held_unbroken g (goal.at.loop-self-preserved g c).After-fill) c.fill.ensures.reads
          (λ xs e. grown held before now xs e c.fill.ensures.kept)
          (omega (arith, count, c.in_ok-fill.ensures.count, c.if-branch-eq0.false));
    }

pub returns-clause-took : goal.returns-clause-took
returns-clause-took g c =
    let held = c.args.self.now.buffer.held in
    let before = c.loop-self.self.buffer.held in
    let last = c.read_long.new.self in
    let left = c.args.self.now.limit - c.args.self.now.taken in
    let rest = c.loop-self.self.limit - c.loop-self.self.taken in
    let first = c.args.self.now.source.now in
    let middle = c.loop-self.self.source.now in
    Took-both _ _ _ (λ xs. (before ≡ held ++ xs) × ReadsDue g.S.Source.reads left held false first xs false middle)
    (λ ys. MakesOf c.read_long.result last.buffer.shown last.ended before last.buffer.held ys
    × WereDue g.S.Source.reads rest before false middle ys last.source.now)
    (λ xs. MakesOf c.read_long.result last.buffer.shown last.ended held last.buffer.held xs
    × WereDue g.S.Source.reads left held false first xs last.source.now)
    (c.loop-self.self.taken - c.args.self.now.taken) (last.taken - c.loop-self.self.taken) (last.taken - c.args.self.now.taken)
    c.loop-self.invariant.took c.read_long.ensures.took
    (omega (arith, c.read_long.ensures.moves.more, c.loop-self.invariant.moves.more))
    (λ xs ys n p q. (
      MakesOf-later c.read_long.result last.buffer.shown last.ended held before last.buffer.held xs ys p.0 c.loop-self.invariant.unbroken q.0,
      WereDue-then g.S.Source.reads left rest held before false first middle last.source.now xs ys
          (omega (arith, n, c.loop-self.invariant.moves.limit, c.loop-self.invariant.moves.more)) p.0 p.1 q.1,
    ))
