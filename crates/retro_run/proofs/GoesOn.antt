-- What holds between two lines of a run, how one more line keeps it, and what stands at the end of the lines and at an error.
use Rattle.std.proofs.Common.{◌≡◌, ℕ, Bool, true, false, ◌||◌, ◌≤◌, ◌+◌, ◌-◌, List, [], ◌∷◌, ◌++◌, length, take, refl, sym, ap, ◌∙◌, subst, arith, append_assoc, append-nil}
use Rattle.std.proofs.Common.{length-append, Option, Some, None, Ok, Err, inl, inr}
use Rattle.std.proofs.Math.Seq.{take-append_seam}
use Rattle.retro_io.specs.declared.mark.Mark.{Mark}
use Rattle.retro_io.specs.declared.mark.Mark.TheVariants.{End}
use Rattle.retro_io.specs.declared.mark.ReadError.TheVariants.{ReadFault, TooLong}
use Rattle.retro_io.specs.declared.source.Source.{Ghosts}
use Rattle.retro_io.specs.DueReads.{WereDue}
use Rattle.retro_io.specs.LineLaws.{unbroken-append}
use Rattle.retro_io.specs.Lines.{lines, has_line_feed, without_return}
use Rattle.retro_io.specs.Reads.{MakesOf, Took}
use Rattle.retro_io.specs.Sink.{Appends, AppendsProperPrefix}
use Rattle.retro_io.specs.SinkLaws.{Appends-append, Appends-none}
use Rattle.retro_io.specs.Source.{Gives, bytes_left}
use Rattle.retro_base.specs.Facts.{some_is, some_is_not_none}
use Rattle.retro_base.specs.LineLength.{is_long}
use Rattle.reactions.specs.Answers.{bench_after}
use Rattle.reactions.specs.Bench.{Bench, BenchState, empty_bench}
use Rattle.reactions.specs.Reaction.{Reaction, closing, reacts}
use Rattle.retro_run.specs.Audience.{Audience, Turn, audience_after, followed, follows, follows_to, mutes, turn}
use Rattle.retro_run.specs.Events.{report_lines}
use Rattle.retro_run.specs.OutOfMemory.{AppendsAnswersToEarlier, IsMetAtLine}
use Rattle.retro_run.specs.Output.{answers_by, close_of, has_refusal_by, output_by, refuses_by, up_to_last_feed, whole_by}
use Rattle.retro_run.specs.Run.{AppendsAnswersToTaken, whole_answers}
use Rattle.retro_run.proofs.Prefixes.{prefix_between}
use Rattle.retro_run.proofs.ReadSoFar.{IsRead, IsReadSoFar, fewer, lines_ahead, met_at_line, none_gives_none, piece_of, read_on}
use Rattle.retro_run.proofs.Reactions.{answers_by-line, answers_by-none, audience_after-line, bench_after-line, refuses_by-line, refuses_by-none, reports_of, whole_from}
use Rattle.retro_run.proofs.Reactions.{with_reports-is}
use Rattle.retro_run.proofs.Shown.{GivenAs, IsShown, follows_shown, shown_of}
use Rattle.retro_run.proofs.WholeLines.{AreWhole, are_whole-none, further, up_to-unbroken}

-- a source that told its bytes goes on telling them
record StillTells (before : List ℕ) (after : Option (List ℕ)) (got : List ℕ) : Type 0 where
  left : List ℕ
  is : after ≡ Some left
  cut : before ≡ got ++ left

still_tells : (before after : Option (List ℕ)) (left got : List ℕ) → before ≡ Some left → Gives before got after → StillTells left after got
still_tells None after left got is gives = absurd (some_is_not_none (sym is))
still_tells (Some bytes) None left got is gives = absurd gives
still_tells (Some bytes) (Some rest) left got is gives =
    record { left = rest; is = refl; cut = some_is left bytes is ∙ gives }

-- whoever answers, the bench is the one after the line
turn_bench : (who : Audience) (muted : Option ℕ) (reaction : Reaction) → (turn who muted reaction).reaction.bench ≡ reaction.bench
turn_bench who muted reaction = grind arith

-- who follows from the start, the script, its source at the start, and what was written before
module _ {S : Type 0} (I : Ghosts S) (audience : Audience) (script : List ℕ) (source : S) (first : Option (List ℕ)) where
  -- The lines given so far are the first ones of the script, and were answered; the others are those of what is held and of what the source
  -- has left. Some follow the script from its start, and some, maybe fewer, now.
  pub record GoesOn (now : S) (held : List ℕ) (ended : Bool) (count : ℕ) (bench : Bench) (who : Audience) (refused : Bool) (written : Option (List ℕ)) : Type 0 where
    pub given : List (List ℕ)
    pub past : List ℕ
    pub left : List ℕ
    pub left_is : I.left now ≡ Some left
    pub past_is : script ≡ past ++ (held ++ left)
    pub cut : lines script ≡ given ++ lines (held ++ left)
    pub size : length past + length held ≡ count
    pub whole : ended ≡ false → AreWhole past given
    pub bench_is : bench_after empty_bench given ≡ bench
    pub audience_is : audience_after empty_bench audience given ≡ who
    pub appended : Appends first (answers_by (followed audience) given) written
    pub refusals : refuses_by (followed audience) given ≡ refused
    pub so_far : IsReadSoFar I source now script left held

  -- at the start nothing is answered
  pub goes_on_first : (held : List ℕ) (ended : Bool) (count : ℕ) → I.left source ≡ Some script → held ≡ [] → count ≡ 0
      → GoesOn source held ended count empty_bench audience false first
  unfolding bench_after audience_after
  goes_on_first held ended count is none unread = rw (none, unread) record {
    given = [];
    past = [];
    left = script;
    left_is = is;
    past_is = refl;
    cut = refl;
    size = refl;
    whole = λ _. are_whole-none;
    bench_is = refl;
    audience_is = refl;
    appended = rw (answers_by-none audience) (Appends-none first);
    refusals = refuses_by-none audience;
    so_far = inl (refl, refl);
  }

  -- after these lines one more was taken, and is not answered yet
  pub record TakesLine (given : List (List ℕ)) (now : S) (held : List ℕ) (ended : Bool) (count : ℕ) (shown : List ℕ) (long : Bool) : Type 0 where
    pub line : List ℕ
    pub past : List ℕ
    pub left : List ℕ
    pub left_is : I.left now ≡ Some left
    pub past_is : script ≡ past ++ (held ++ left)
    pub cut : lines script ≡ given ++ line ∷ lines (held ++ left)
    pub size : length past + length held ≡ count
    pub whole : ended ≡ false → AreWhole past (given ++ line ∷ [])
    pub is_shown : IsShown long shown line
    pub met : IsMetAtLine I source now script left given (line ∷ lines (held ++ left))
    pub read : IsRead I now script left (held ++ left)

  module _ (middle now : S) (held held' shown : List ℕ) (ended : Bool) (count : ℕ) (bench : Bench) (who : Audience) (refused : Bool) (written : Option (List ℕ))
      (on : GoesOn middle held ended count bench who refused written) where
    -- what the source has left, after it gave these bytes
    came : (left got : List ℕ) → on.left ≡ got ++ left → script ≡ (on.past ++ (held ++ got)) ++ left
    came left got cut =
        on.past_is ∙ ap (λ xs. on.past ++ xs) (ap (λ xs. held ++ xs) cut ∙ sym (append_assoc held got left)) ∙ sym (append_assoc on.past (held ++ got) left)

    pub takes_line : (mark : Mark) (long ended' closed : Bool) (limit count' : ℕ) → GivenAs mark long → ended ≡ false → count ≤ count'
        → Took (I.left middle) (I.left now) (count' - count) (λ got. MakesOf (Ok mark) shown ended' held held' got × WereDue I.reads limit held closed middle got now)
        → (ended' ≡ true → bytes_left (I.left now) ≡ []) → TakesLine on.given now held' ended' count' shown long
    takes_line mark long ended' closed limit count' as_given unended more took none_left =
        let after = still_tells (I.left middle) (I.left now) on.left took.got on.left_is took.gives in
        let piece = piece_of mark long shown ended' (held ++ took.got) held' as_given took.holds.0 in
        let none : ended' ≡ true → after.left ≡ [] = λ e. sym (ap bytes_left after.is) ∙ none_left e in
        let come : held ++ on.left ≡ (held ++ took.got) ++ after.left = ap (λ xs. held ++ xs) after.cut ∙ sym (append_assoc held took.got after.left) in
        let next = further on.past (held ++ took.got) held' on.given mark shown ended' (on.whole unended) piece in
        let read : IsRead I now script after.left (held ++ on.left) =
        elim (read_on I source middle now script on.left after.left held on.past took.got limit closed on.so_far on.past_is after.cut took.holds.1) [
          | inl start ↦ absurd (none_gives_none mark shown ended' (held ++ took.got) held' (rw (start.1, start.2) refl) piece)
          | inr read ↦ read
        ] in
        record {
          line = without_return piece.piece;
          past = next.bytes;
          left = after.left;
          left_is = after.is;
          past_is = came after.left took.got after.cut ∙ ap (λ xs. xs ++ after.left) next.cut ∙ append_assoc next.bytes held' after.left;
          cut = on.cut ∙ ap (λ ls. on.given ++ ls) (ap lines come ∙ lines_ahead mark shown ended' (held ++ took.got) held' after.left piece none);
          size = omega (
            arith,
            on.size,
            more,
            took.counts,
            ap length next.cut,
            length-append on.past (held ++ took.got),
            length-append held took.got,
            length-append next.bytes held',
          );
          whole = next.whole;
          is_shown = shown_of mark long shown (without_return piece.piece) as_given piece.shows;
          met = met_at_line I source now script on.left after.left held held' on.past took.got shown on.given mark ended' (on.whole unended) on.past_is after.cut read piece;
          read = record {
            early = read.early;
            last = read.last;
            reads = read.reads;
            few = omega (arith, read.few, fewer mark shown ended' (held ++ took.got) held' after.left piece, ap length come);
          };
        }

    module _ (long ended' : Bool) (count' : ℕ) (taken : TakesLine on.given now held' ended' count' shown long) where
      turn_is : follows (bench_after empty_bench on.given) (audience_after empty_bench audience on.given) taken.line ≡ follows_to bench who shown long
      turn_is =
          ap (λ b. follows b (audience_after empty_bench audience on.given) taken.line) on.bench_is ∙ ap (λ w. follows bench w taken.line) on.audience_is
          ∙ follows_shown long shown taken.line taken.is_shown bench who

      -- it was answered, and the answer appended
      pub goes_on_answered : (state : BenchState) (who' : Audience) (own : Bool) (written' : Option (List ℕ))
          → (state ≡ record { bench = (follows_to bench who shown long).reaction.bench; spent = false }) × (own ≡ (follows_to bench who shown long).reaction.refused)
          × (who' ≡ (follows_to bench who shown long).audience) → Appends written (follows_to bench who shown long).reaction.answer written'
          → GoesOn now held' ended' count' state.bench who' (refused || own) written'
      goes_on_answered state who' own written' answered appended =
          let before : Bench = bench_after empty_bench on.given in
          let there : Audience = audience_after empty_bench audience on.given in
          record {
            given = on.given ++ taken.line ∷ [];
            past = taken.past;
            left = taken.left;
            left_is = taken.left_is;
            past_is = taken.past_is;
            cut = taken.cut ∙ sym (append_assoc on.given (taken.line ∷ []) (lines (held' ++ taken.left)));
            size = taken.size;
            whole = taken.whole;
            bench_is = bench_after-line empty_bench on.given taken.line
                ∙ sym (turn_bench there (mutes before.block taken.line (is_long taken.line)) (reacts before taken.line))
                ∙ ap (λ (t : Turn). t.reaction.bench) turn_is ∙ sym (ap (λ (s : BenchState). s.bench) answered.0);
            audience_is = audience_after-line audience on.given taken.line ∙ ap (λ (t : Turn). t.audience) turn_is ∙ sym answered.2;
            appended = subst (λ xs. Appends first xs written')
                (sym (answers_by-line audience on.given taken.line ∙ ap (λ (t : Turn). answers_by (followed audience) on.given ++ t.reaction.answer) turn_is))
                (Appends-append first written written' _ _ on.appended appended);
            refusals = refuses_by-line audience on.given taken.line ∙ ap (λ (t : Turn). refuses_by (followed audience) on.given || t.reaction.refused) turn_is
                ∙ ap (λ b. b || (follows_to bench who shown long).reaction.refused) on.refusals ∙ ap (λ b. refused || b) (sym answered.1);
            so_far = inr taken.read;
          }

      -- or a part of the answer, which is a part of the whole
      pub part_at_line : (written' : Option (List ℕ)) → AppendsProperPrefix written (follows_to bench who shown long).reaction.answer written'
          → AppendsProperPrefix first (whole_by (followed audience) script) written'
      part_at_line written' part =
          let whole = whole_from audience script on.given taken.line (lines (held' ++ taken.left)) taken.cut in
          prefix_between first written written' (answers_by (followed audience) on.given) _ whole.0 (whole_by (followed audience) script) whole.1 on.appended
          (subst (λ (t : Turn). AppendsProperPrefix written t.reaction.answer written') (sym turn_is) part)

      -- or memory was short for it
      pub short_at_line : AppendsAnswersToEarlier I source now script taken.left (followed audience) first written
      short_at_line = record {
        answers = record { answered = on.given; unanswered = taken.line ∷ lines (held' ++ taken.left); cut = taken.cut; appended = on.appended };
        met = inr (inl taken.met);
      }

    -- at the end all lines are given
    pub record TakesEnd : Type 0 where
      pub left : List ℕ
      pub left_is : I.left now ≡ Some left
      pub none : left ≡ []
      pub nothing : held ++ on.left ≡ []
      pub all : on.given ≡ lines script

    pub takes_end : (has_ended closed : Bool) (limit more : ℕ)
        → Took (I.left middle) (I.left now) more (λ got. MakesOf (Ok End) shown has_ended held held' got × WereDue I.reads limit held closed middle got now)
        → (has_ended ≡ true → bytes_left (I.left now) ≡ []) → TakesEnd
    takes_end has_ended closed limit more took none_left =
        let after = still_tells (I.left middle) (I.left now) on.left took.got on.left_is took.gives in
        let none : after.left ≡ [] = sym (ap bytes_left after.is) ∙ none_left took.holds.0.2 in
        let nothing : held ++ on.left ≡ [] =
        ap (λ xs. held ++ xs) after.cut ∙ sym (append_assoc held took.got after.left) ∙ ap (λ xs. xs ++ after.left) took.holds.0.0 ∙ none in
        record {
          left = after.left;
          left_is = after.is;
          none = none;
          nothing = nothing;
          all = sym (on.cut ∙ ap (λ xs. on.given ++ lines xs) nothing ∙ append-nil on.given);
        }

    module _ (ends : TakesEnd) where
      close : closing bench ≡ close_of (lines script)
      close = ap closing (sym on.bench_is) ∙ ap close_of ends.all

      all_appended : Appends first (answers_by (followed audience) (lines script)) written
      all_appended = subst (λ ls. Appends first (answers_by (followed audience) ls) written) ends.all on.appended

      -- then the answer of the close is appended
      pub output_at_end : (written' : Option (List ℕ)) → Appends written (closing bench).answer written' → Appends first (output_by (followed audience) script) written'
      output_at_end written' appended =
          Appends-append first written written' (answers_by (followed audience) (lines script)) _ all_appended
          (subst (λ (r : Reaction). Appends written r.answer written') close appended)

      pub refusal_at_end : (refused || (closing bench).refused) ≡ has_refusal_by (followed audience) script
      refusal_at_end =
          ap (λ b. b || (closing bench).refused) (sym on.refusals) ∙ ap (λ ls. refuses_by (followed audience) ls || (closing bench).refused) ends.all
          ∙ ap (λ (r : Reaction). refuses_by (followed audience) (lines script) || r.refused) close

      -- and those who follow now have followed the whole script
      pub heard_at_end : who ≡ audience_after empty_bench audience (lines script)
      heard_at_end = sym on.audience_is ∙ ap (audience_after empty_bench audience) ends.all

      -- or a part of that answer is
      pub part_at_end : (written' : Option (List ℕ)) → AppendsProperPrefix written (closing bench).answer written'
          → AppendsProperPrefix first (whole_by (followed audience) script) written'
      part_at_end written' part =
          prefix_between first written written' (answers_by (followed audience) (lines script)) (close_of (lines script)).answer (report_lines 0 (reports_of audience script))
          (whole_by (followed audience) script) (with_reports-is (output_by (followed audience) script) (reports_of audience script)) all_appended
          (subst (λ (r : Reaction). AppendsProperPrefix written r.answer written') close part)

      -- or memory was short for it
      pub short_at_end : I.ended now ≡ true → AppendsAnswersToEarlier I source now script ends.left (followed audience) first written
      short_at_end ended_now = record {
        answers = record { answered = on.given; unanswered = lines (held ++ on.left); cut = on.cut; appended = on.appended };
        met = inr (inr (ended_now, ends.none, ap lines ends.nothing));
      }

    module _ (ended' closed : Bool) (limit count' : ℕ) (unended : ended ≡ false) (unbroken : has_line_feed held ≡ false) where
      -- at a read that failed all is answered whose line feed was taken
      pub taken_at_fault : Took (I.left middle) (I.left now) (count' - count) (λ got. MakesOf (Err ReadFault) shown ended' held held' got × WereDue I.reads limit held closed middle got now)
          → (rest : List ℕ) × (I.left now ≡ Some rest) × AppendsAnswersToTaken (followed audience) script rest first written
      taken_at_fault took =
          let after = still_tells (I.left middle) (I.left now) on.left took.got on.left_is took.gives in
          let given : lines (up_to_last_feed (on.past ++ (held ++ took.got))) ≡ on.given =
          up_to-unbroken on.past (held ++ took.got) on.given (on.whole unended) (unbroken-append held took.got unbroken took.holds.0) in (
            after.left,
            after.is,
            record {
              taken = on.past ++ (held ++ took.got);
              cut = came after.left took.got after.cut;
              appended = subst (λ ls. Appends first (answers_by (followed audience) ls) written) (sym given) on.appended;
            },
          )

      -- at a script that is too long all is answered that ends within the limit
      pub first_at_limit : (most : ℕ) → count ≤ count' → count' ≡ most + 1
          → Took (I.left middle) (I.left now) (count' - count) (λ got. MakesOf (Err TooLong) shown ended' held held' got × WereDue I.reads limit held closed middle got now)
          → Appends first (whole_answers (followed audience) (take most script)) written
      first_at_limit most more over took =
          let after = still_tells (I.left middle) (I.left now) on.left took.got on.left_is took.gives in
          let prefix = took.holds.0.0 in
          let last = took.holds.0.1 in
          let bytes = on.past ++ (held ++ prefix) in
          let most_is : most ≡ length bytes =
          omega (
            arith,
            on.size,
            more,
            over,
            took.counts,
            ap length took.holds.0.2,
            length-append prefix (last ∷ []),
            length-append on.past (held ++ prefix),
            length-append held prefix,
          ) in
          let script_is : script ≡ bytes ++ last ∷ after.left =
          came after.left took.got after.cut ∙ ap (λ xs. (on.past ++ (held ++ xs)) ++ after.left) took.holds.0.2
          ∙ ap (λ xs. xs ++ after.left) (ap (λ xs. on.past ++ xs) (sym (append_assoc held prefix (last ∷ []))) ∙ sym (append_assoc on.past (held ++ prefix) (last ∷ [])))
          ∙ append_assoc bytes (last ∷ []) after.left in
          let first_are : take most script ≡ bytes =
          ap (λ n. take n script) most_is ∙ ap (take (length bytes)) script_is ∙ take-append_seam bytes (last ∷ after.left) in
          let given : lines (up_to_last_feed (take most script)) ≡ on.given =
          ap (λ xs. lines (up_to_last_feed xs)) first_are
          ∙ up_to-unbroken on.past (held ++ prefix) on.given (on.whole unended) (unbroken-append held prefix unbroken took.holds.0.3) in
          subst (λ ls. Appends first (answers_by (followed audience) ls) written) (sym given) on.appended
