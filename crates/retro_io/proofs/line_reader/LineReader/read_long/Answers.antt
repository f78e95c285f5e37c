-- The bytes of the long line are those held first and all that came since.
use Rattle.std.proofs.Common.{◌≡◌, ◌≤◌, ◌<◌, ◌+◌, ◌-◌, ℕ, List, [], ◌∷◌, ◌++◌, true, false, Result, Ok, Err, length, take, drop, sym, ap, ◌∙◌, refl, subst, inl, inr, arith}
use Rattle.std.proofs.lemmas.List.{take-append-le, drop-append-le, drop_all, length-take-le, length-append, nil_from_length}
use Rattle.std.proofs.lemmas.Result.{err_from_is_err_and}
use Rattle.retro_io.specs.declared.mark.Mark.TheVariants.{Long}
use Rattle.retro_io.specs.declared.mark.ReadError.{ReadError}
use Rattle.retro_io.specs.DueReads.{ReadsDue}
use Rattle.retro_io.specs.Lines.{longest_line, line_feed, has_line_feed}
use Rattle.retro_io.specs.LineReader.{MovesOn}
use Rattle.retro_io.specs.ReaderLaws.{MovesOn-none, MovesOn-then}
use Rattle.retro_io.specs.Reads.{MakesOf}
use Rattle.retro_io.specs.LineLaws.{unbroken-append}
use Rattle.retro_io.proofs.LineLemmas.{feed_after, unbroken-take, unbroken-drop}
use Rattle.retro_io.proofs.DueLemmas.{Took-due, Took-due-on}
use Rattle.retro_io.proofs.ReadLemmas.{Took-none, MakesOf-error, Shows-long, cut_after, length-after}
use Rattle.retro_io.proofs.line_reader.LineReader.read_long.Goals as goal
use Rattle.retro_io.proofs.line_reader.LineReader.read_long.Goals.{After-fill}
use Rattle.retro_io.proofs.line_reader.LineReader.read_long.Given.{Over}

-- a fill that failed
abbrev failing : ReadError → Result ℕ ReadError
failing error = Err error

-- the first bytes are still those of the line
prefix : (g : Over) (c : After-fill g) → take longest_line c.fill.new.self.buffer.held ≡ take longest_line c.args.self.now.buffer.held
prefix g c =
    ap (λ n. take n c.fill.new.self.buffer.held) (sym c.keep_prefix.ensures.length)
    ∙ c.fill.ensures.kept ∙ c.keep_prefix.ensures.held ∙ c.loop-self.invariant.prefix

-- how many bytes came
size : (g : Over) (c : After-fill g)
    → length (drop (length c.keep_prefix.new.self.held) c.fill.new.self.buffer.held) ≡ c.fill.new.self.taken - c.loop-self.self.taken
size g c = length-after c.keep_prefix.new.self.held c.fill.new.self.buffer.held _ c.fill.ensures.length

-- none of the bytes held first and taken since ends a line
held_unbroken : (g : Over) (c : After-fill g) (xs : List ℕ) → has_line_feed xs ≡ false → has_line_feed (c.args.self.now.buffer.held ++ xs) ≡ false
held_unbroken g c xs u = unbroken-append c.args.self.now.buffer.held xs c.requires.unbroken u

-- the reader has moved on since the entry
moved : (g : Over) (c : After-fill g) → MovesOn c.args.self.now c.fill.new.self
moved g c =
    let m = c.fill.ensures.moves in
    MovesOn-then c.args.self.now c.loop-self.self c.fill.new.self c.loop-self.invariant.moves
    record {
      reference = m.reference;
      limit = m.limit;
      more = m.more;
      within = m.within;
      count = m.count;
      left = m.left;
    }

pub fill-requires-clause-unbroken : goal.fill-requires-clause-unbroken
fill-requires-clause-unbroken g c =
    ap has_line_feed c.keep_prefix.ensures.held ∙ unbroken-take longest_line c.loop-self.self.buffer.held c.loop-self.invariant.unbroken

pub returns-in_err-fill-clause-moves : goal.returns-in_err-fill-clause-moves
returns-in_err-fill-clause-moves g c = moved g (goal.at.returns-in_err-fill-clause-moves g c).After-fill

pub returns-then-branch-eq0-clause-moves : goal.returns-then-branch-eq0-clause-moves
returns-then-branch-eq0-clause-moves g c =
    let m = moved g (goal.at.returns-then-branch-eq0-clause-moves g c).After-fill in
    record {
      reference = m.reference;
      limit = m.limit;
      more = m.more;
      within = m.within;
      count = m.count;
      left = m.left;
    }

pub returns-in-Some-clause-moves : goal.returns-in-Some-clause-moves
returns-in-Some-clause-moves g c =
    let m = moved g (goal.at.returns-in-Some-clause-moves g c).After-fill in
    record {
      reference = m.reference;
      limit = m.limit;
      more = m.more;
      within = m.within;
      count = m.count;
      left = m.left;
    }

pub loop-self-init : goal.loop-self-init
loop-self-init g c = record {
  moves = MovesOn-none c.args.self.now c.args.self.now.within;
  failed = c.requires.failed;
  ended = c.requires.ended;
  unbroken = c.requires.unbroken;
  long = omega (arith, c.requires.long);
  prefix = refl;
  in_limit = c.args.self.now.in_limit c.requires.failed;
  source_faults = omega arith;
  took = Took-none _ _ _ (omega arith) (refl, ReadsDue.none);
}

pub returns-in_err-fill-clause-took : goal.returns-in_err-fill-clause-took
returns-in_err-fill-clause-took g c =
    let p = err_from_is_err_and c.from_residual.result c.from_residual.ensures.1 in
    let came = drop (length c.keep_prefix.new.self.held) c.fill.new.self.buffer.held in
    let count = size g (goal.at.returns-in_err-fill-clause-took g c).After-fill in
    let error = c.in_err-fill.field-0.0 in
    rw (p.1, p.2)
    (Took-due g.S.Source.reads _ _ _ _ c.args.self.now.buffer.held _ _ _ _ _ _ (λ xs. has_line_feed xs ≡ false)
    (MakesOf (Err error) c.fill.new.self.buffer.shown c.fill.new.self.ended c.args.self.now.buffer.held c.fill.new.self.buffer.held) came
    c.loop-self.invariant.took c.fill.ensures.gives (omega (arith, count, c.fill.ensures.moves.more, c.loop-self.invariant.moves.more))
    (omega (arith, c.loop-self.invariant.moves.limit, c.loop-self.invariant.moves.more)) (held_unbroken g (goal.at.returns-in_err-fill-clause-took g c).After-fill) c.fill.ensures.reads
    (λ xs u. MakesOf-error error _ _ _ _ xs came u
    (λ is. omega (arith, count, c.in_err-fill.ensures.fault (ap failing is)))
    (λ is. omega (arith, count, c.in_err-fill.ensures.last (ap failing is), c.in_err-fill.ensures.too_long.0 (ap failing is), c.fill.ensures.moves.limit))))

pub invariant_of-self-then-branch-eq0-clause-counted : goal.invariant_of-self-then-branch-eq0-clause-counted
invariant_of-self-then-branch-eq0-clause-counted g c =
    let gone : c.give_long.new.self.held ≡ [] =
    c.give_long.ensures.held ∙ drop_all longest_line c.fill.new.self.buffer.held
    (omega (arith, c.fill.ensures.length, c.keep_prefix.ensures.length, c.in_ok-fill.ensures.count, c.if-branch-eq0.true)) in
    omega (arith, ap length gone)

pub invariant_of-self-then-branch-eq0-clause-all_given : goal.invariant_of-self-then-branch-eq0-clause-all_given
invariant_of-self-then-branch-eq0-clause-all_given g c = λ _.
    c.give_long.ensures.held ∙ drop_all longest_line c.fill.new.self.buffer.held
    (omega (arith, c.fill.ensures.length, c.keep_prefix.ensures.length, c.in_ok-fill.ensures.count, c.if-branch-eq0.true))

pub returns-then-branch-eq0-clause-took : goal.returns-then-branch-eq0-clause-took
returns-then-branch-eq0-clause-took g c =
    let held = c.args.self.now.buffer.held in
    let came = drop (length c.keep_prefix.new.self.held) c.fill.new.self.buffer.held in
    let count = size g (goal.at.returns-then-branch-eq0-clause-took g c).After-fill in
    let none : length came ≡ 0 = omega (arith, count, c.in_ok-fill.ensures.count, c.if-branch-eq0.true) in
    let unbroken : has_line_feed came ≡ false = ap has_line_feed (nil_from_length came none) in
    Took-due g.S.Source.reads _ _ _ _ held _ _ _ _ _ _ (λ xs. has_line_feed xs ≡ false)
    (MakesOf (Ok Long) c.give_long.new.self.shown true held c.give_long.new.self.held) came
    c.loop-self.invariant.took c.fill.ensures.gives (omega (arith, count, c.fill.ensures.moves.more, c.loop-self.invariant.moves.more))
    (omega (arith, c.loop-self.invariant.moves.limit, c.loop-self.invariant.moves.more)) (held_unbroken g (goal.at.returns-then-branch-eq0-clause-took g c).After-fill) c.fill.ensures.reads
    (λ xs u. record {
      piece = held ++ (xs ++ came);
      unbroken = unbroken-append held (xs ++ came) c.requires.unbroken (unbroken-append xs came u unbroken);
      shows = Shows-long c.give_long.new.self.shown (held ++ (xs ++ came)) c.fill.new.self.buffer.held
          (omega (arith, length-append held (xs ++ came), c.requires.long)) c.give_long.ensures.shown
          (prefix g (goal.at.returns-then-branch-eq0-clause-took g c).After-fill
          ∙ sym (take-append-le longest_line held (xs ++ came) (omega (arith, c.requires.long))));
      cut = inr (
        refl,
        c.give_long.ensures.held ∙ drop_all longest_line c.fill.new.self.buffer.held
            (omega (arith, c.fill.ensures.length, c.keep_prefix.ensures.length, c.in_ok-fill.ensures.count, c.if-branch-eq0.true)),
        refl,
        omega (arith, length-append held (xs ++ came), c.requires.long),
      );
    })

-- a line feed that is found stands after the first bytes of the line
beyond : (g : Over) (c : After-fill g) (at : ℕ) → at < length c.fill.new.self.buffer.held
    → c.fill.new.self.buffer.held ≡ take at c.fill.new.self.buffer.held ++ line_feed ∷ drop (at + 1) c.fill.new.self.buffer.held → longest_line ≤ at
beyond g c at within cut =
    let clear : has_line_feed (take longest_line c.fill.new.self.buffer.held) ≡ false =
    ap has_line_feed (prefix g c) ∙ unbroken-take longest_line c.args.self.now.buffer.held c.requires.unbroken in
    omega (
      arith,
      feed_after (take at c.fill.new.self.buffer.held) (drop (at + 1) c.fill.new.self.buffer.held) longest_line
          (subst (λ bytes. has_line_feed (take longest_line bytes) ≡ false) cut clear),
      length-take-le at c.fill.new.self.buffer.held (omega arith),
    )

pub give_long-requires-in-Some-clause-long : goal.give_long-requires-in-Some-clause-long
give_long-requires-in-Some-clause-long g c =
    let found = c.in-Some.ensures in
    omega (arith, beyond g (goal.at.give_long-requires-in-Some-clause-long g c).After-fill c.in-Some.at found.0 found.2)

pub returns-in-Some-clause-took : goal.returns-in-Some-clause-took
returns-in-Some-clause-took g c =
    let held = c.args.self.now.buffer.held in
    let now = c.fill.new.self.buffer.held in
    let kept = length c.keep_prefix.new.self.held in
    let came = drop kept now in
    let count = size g (goal.at.returns-in-Some-clause-took g c).After-fill in
    let found = c.in-Some.ensures in
    let at = c.in-Some.at in
    let line = drop kept (take at now) in
    let after = drop (at + 1) now in
    let short : length (take at now) ≡ at = length-take-le at now (omega (arith, found.0)) in
    let low : longest_line ≤ at = beyond g (goal.at.returns-in-Some-clause-took g c).After-fill at found.0 found.2 in
    let splits : came ≡ line ++ line_feed ∷ after =
    ap (drop kept) found.2 ∙ drop-append-le kept (take at now) (line_feed ∷ after) (omega (arith, short, low, c.keep_prefix.ensures.length)) in
    let unbroken : has_line_feed line ≡ false = unbroken-drop kept (take at now) found.1 in
    Took-due g.S.Source.reads _ _ _ _ held _ _ _ _ _ _ (λ xs. has_line_feed xs ≡ false)
    (MakesOf (Ok Long) c.give_long-in-Some.new.self.shown c.fill.new.self.ended held c.give_long-in-Some.new.self.held) came
    c.loop-self.invariant.took c.fill.ensures.gives (omega (arith, count, c.fill.ensures.moves.more, c.loop-self.invariant.moves.more))
    (omega (arith, c.loop-self.invariant.moves.limit, c.loop-self.invariant.moves.more)) (held_unbroken g (goal.at.returns-in-Some-clause-took g c).After-fill) c.fill.ensures.reads
    (λ xs u. record {
      piece = held ++ (xs ++ line);
      unbroken = unbroken-append held (xs ++ line) c.requires.unbroken (unbroken-append xs line u unbroken);
      shows = Shows-long c.give_long-in-Some.new.self.shown (held ++ (xs ++ line)) now
          (omega (arith, length-append held (xs ++ line), c.requires.long)) c.give_long-in-Some.ensures.shown
          (prefix g (goal.at.returns-in-Some-clause-took g c).After-fill
          ∙ sym (take-append-le longest_line held (xs ++ line) (omega (arith, c.requires.long))));
      cut = inl (cut_after held xs came line c.give_long-in-Some.new.self.held
          (splits ∙ ap (λ l. line ++ line_feed ∷ l) (sym c.give_long-in-Some.ensures.held)));
    })

pub loop-self-preserved : goal.loop-self-preserved
loop-self-preserved g c =
    let now = c.fill.new.self.buffer.held in
    let kept = length c.keep_prefix.new.self.held in
    let came = drop kept now in
    let at_fill = (goal.at.loop-self-preserved g c).After-fill in
    let count = size g at_fill in
    record {
      moves = moved g at_fill;
      failed = c.in_ok-fill.ensures.failed;
      ended = c.fill.ensures.ended;
      unbroken = c.in_default.ensures;
      long = omega (arith, c.fill.ensures.length, c.keep_prefix.ensures.length);
      prefix = prefix g at_fill;
      in_limit = c.fill.new.self.in_limit c.in_ok-fill.ensures.failed;
      source_faults = omega (arith, c.in_ok-fill.ensures.source_faults, c.loop-self.invariant.source_faults);
      took = Took-due-on g.S.Source.reads _ _ _ _ c.args.self.now.buffer.held _ _ _ _ _ _ (λ xs. has_line_feed xs ≡ false) (λ xs. has_line_feed xs ≡ false) came
          c.loop-self.invariant.took c.fill.ensures.gives (omega (arith, count, c.fill.ensures.moves.more, c.loop-self.invariant.moves.more))
          (omega (arith, c.loop-self.invariant.moves.limit, c.loop-self.invariant.moves.more)) (held_unbroken g at_fill) c.fill.ensures.reads
          (λ xs u. unbroken-append xs came u (unbroken-drop kept now c.in_default.ensures))
          (omega (arith, count, c.in_ok-fill.ensures.count, c.if-branch-eq0.false));
    }
