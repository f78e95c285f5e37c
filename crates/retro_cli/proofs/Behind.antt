-- What is claimed of a run over a sink at which nothing waits is true of the sink behind it, with no sends.
use Rattle.std.proofs.Common.{◌≡◌, ◌⊎◌, ℕ, Bool, true, false, List, Option, None, Some, ap, refl, subst, sym, inl, inr}
use Rattle.retro_io.specs.declared.direct_sink.DirectSink.{DirectSink}
use Rattle.retro_io.specs.declared.sink.Sink as sinks
use Rattle.retro_io.specs.declared.source.Source as sources
use Rattle.retro_io.specs.BehindLaws.{direct, direct_sends, EndsWithFailedWrite-behind, EndsWithFailedWrite-reference, EndsWithFlush-behind, EndsWithFlush-reference, StaysUnflushed-behind, StaysUnflushed-reference, no_failed_send-behind}
use Rattle.retro_io.specs.DirectSink.{reference_behind, sink_behind}
use Rattle.retro_io.specs.Flushes.{no_sends}
use Rattle.retro_base.specs.declared.kind.Kind.{Kind}
use Rattle.retro_run.specs.declared.status.Status.{Status}
use Rattle.retro_run.specs.declared.status.Status.TheVariants as statuses
use Rattle.retro_run.specs.Audience.{Audience, followed}
use Rattle.retro_run.specs.Delivery.{Arrives, IsCutOff}
use Rattle.retro_run.specs.Ends.{Answers, EndsAfterLine, EndsAtSend, EndsAtSink, ScriptStands}
use Rattle.retro_run.specs.Output.{Answering, alone}
use Rattle.retro_run.specs.Run.{EndsBetweenLines, HasAnswered}
use Rattle.retro_run.specs.Summary.{summary}
use Rattle.retro_cli.specs.declared.form.Form.{Form}
use Rattle.retro_cli.specs.declared.form.Form.TheVariants.{Run, Check, Gen}
use Rattle.retro_cli.specs.FollowedProgram.{EndsUnsentBy, RunsBy}
use Rattle.retro_cli.specs.Program.{AnswersScript, JudgesEvidence, SumsUp}
use Rattle.retro_cli.specs.Promise.{KeepsPromise}

no_form : (form : Form) → ◌≡◌ {A = Option Form} (Some form) None → ⊥
no_form form e = cc

module _ {K : Type 0} (G : sinks.Ghosts K) (text : Option (List ℕ)) (a b : DirectSink K) where
  arrives_behind : Arrives (direct G) direct_sends text a b → Arrives G no_sends text (sink_behind a) (sink_behind b)
  arrives_behind p = record { appended = p.appended; flush = EndsWithFlush-behind G a true b p.flush; flushed = p.flushed }

  cut_off_behind : IsCutOff (direct G) direct_sends text a b → IsCutOff G no_sends text (sink_behind a) (sink_behind b)
  cut_off_behind (inl part) = inl (part.0, EndsWithFailedWrite-behind G a b part.1)
  cut_off_behind (inr all) = inr (all.0, EndsWithFlush-behind G a false b all.1)

  cut_off_reference : IsCutOff (direct G) direct_sends text a b → reference_behind b ≡ reference_behind a
  cut_off_reference (inl part) = EndsWithFailedWrite-reference G a b part.1
  cut_off_reference (inr all) = EndsWithFlush-reference G a false b all.1

module _ {S K : Type 0} (I : sources.Ghosts S) (G : sinks.Ghosts K) (source source' : S) (a b : DirectSink K) where
  -- a script that is answered so
  module _ (answering : Answering) where
    -- a write failed, or the flush, and no send did
    at_sink : EndsAtSink (direct G) direct_sends answering (I.left source) (I.left source') a b ⊎ EndsAtSend (direct G) direct_sends answering (I.left source) (I.left source') a b
        → EndsAtSink G no_sends answering (I.left source) (I.left source') (sink_behind a) (sink_behind b)
    at_sink (inl (inl part)) = inl (part.0, EndsWithFailedWrite-behind G a b part.1)
    at_sink (inl (inr all)) = inr (all.0, EndsWithFlush-behind G a false b all.1)
    at_sink (inr sent) = absurd (no_failed_send-behind G a b sent.1)

    answers_behind : (refused : Bool) → Answers I (direct G) direct_sends answering source source' a b refused
        → Answers I G no_sends answering source source' (sink_behind a) (sink_behind b) refused
    answers_behind refused p = record { ended = p.ended; output = p.output; flush = EndsWithFlush-behind G a true b p.flush; flushed = p.flushed; refusal = p.refusal }

    line_behind : EndsAfterLine (direct G) direct_sends answering (I.left source) (I.left source') a b
        → EndsAfterLine G no_sends answering (I.left source) (I.left source') (sink_behind a) (sink_behind b)
    line_behind p = record { whole = p.whole; unflushed = StaysUnflushed-behind G a b p.unflushed }

    stands_behind : (status : Status) → ScriptStands I (direct G) direct_sends answering source source' a b status
        → ScriptStands I G no_sends answering source source' (sink_behind a) (sink_behind b) status
    stands_behind statuses.Done p = answers_behind false p
    stands_behind statuses.Refused p = answers_behind true p
    stands_behind statuses.Words p = p
    stands_behind statuses.ReadFault p = (line_behind p.0, p.1)
    stands_behind statuses.WriteFault p = inl (at_sink p)
    stands_behind statuses.NoMemory (inl at) = inl record { earlier = at.earlier; unflushed = StaysUnflushed-behind G a b at.unflushed }
    stands_behind statuses.NoMemory (inr at) = inr record { ended = at.ended; whole = at.whole; unflushed = StaysUnflushed-behind G a b at.unflushed }
    stands_behind statuses.TooLong p = (line_behind p.0, p.1)

    stands_reference : (status : Status) → ScriptStands I (direct G) direct_sends answering source source' a b status → reference_behind b ≡ reference_behind a
    stands_reference statuses.Done p = EndsWithFlush-reference G a true b p.flush
    stands_reference statuses.Refused p = EndsWithFlush-reference G a true b p.flush
    stands_reference statuses.Words p = absurd p
    stands_reference statuses.ReadFault p = StaysUnflushed-reference G a b p.0.unflushed
    stands_reference statuses.WriteFault (inl (inl part)) = EndsWithFailedWrite-reference G a b part.1
    stands_reference statuses.WriteFault (inl (inr all)) = EndsWithFlush-reference G a false b all.1
    stands_reference statuses.WriteFault (inr sent) = absurd (no_failed_send-behind G a b sent.1)
    stands_reference statuses.NoMemory (inl at) = StaysUnflushed-reference G a b at.unflushed
    stands_reference statuses.NoMemory (inr at) = StaysUnflushed-reference G a b at.unflushed
    stands_reference statuses.TooLong p = StaysUnflushed-reference G a b p.0.unflushed

    script_behind : (status : Status) → AnswersScript I (direct G) direct_sends source source' a b status answering
        → AnswersScript I G no_sends source source' (sink_behind a) (sink_behind b) status answering
    script_behind status p = record { prefix = p.prefix; stands = stands_behind status p.stands }

    script_unsent : (status : Status) → AnswersScript I (direct G) direct_sends source source' a b status answering → status ≡ statuses.WriteFault
        → EndsAtSink G no_sends answering (I.left source) (I.left source') (sink_behind a) (sink_behind b)
    script_unsent status p e = at_sink (rw e at p.stands)

  evidence_behind : (status : Status) → JudgesEvidence I (direct G) direct_sends source source' a b status
      → JudgesEvidence I G no_sends source source' (sink_behind a) (sink_behind b) status
  evidence_behind status p = record {
    ended = p.ended;
    output = λ e. arrives_behind G _ a b (p.output e);
    refusal = p.refusal;
    part = λ e. cut_off_behind G _ a b (p.part e);
    nothing = λ e. ap (λ s. sink_behind s) (p.nothing e);
  }

  summary_behind : (kind : Kind) (lines start : ℕ) (status : Status) → SumsUp I (direct G) direct_sends source source' a b status kind lines start
      → SumsUp I G no_sends source source' (sink_behind a) (sink_behind b) status kind lines start
  summary_behind kind lines start status p = record {
    untouched = p.untouched;
    output = λ e. ((p.output e).0, arrives_behind G (Some (summary kind lines start)) a b (p.output e).1);
    part = λ e. cut_off_behind G (Some (summary kind lines start)) a b (p.part e);
    nothing = λ e. ((p.nothing e).0, ap (λ s. sink_behind s) (p.nothing e).1);
  }

  -- a run that writes one text leaves the sink that it was
  text_reference : (text : Option (List ℕ)) (status : Status) → (status ≡ statuses.Words → ⊥) → (HasAnswered status → Arrives (direct G) direct_sends text a b)
      → (status ≡ statuses.WriteFault → IsCutOff (direct G) direct_sends text a b) → (EndsBetweenLines status → b ≡ a) → reference_behind b ≡ reference_behind a
  text_reference text statuses.Done known output part nothing = EndsWithFlush-reference G a true b (output tt).flush
  text_reference text statuses.Refused known output part nothing = EndsWithFlush-reference G a true b (output tt).flush
  text_reference text statuses.Words known output part nothing = absurd (known refl)
  text_reference text statuses.ReadFault known output part nothing = ap (λ s. reference_behind s) (nothing tt)
  text_reference text statuses.WriteFault known output part nothing = cut_off_reference G text a b (part refl)
  text_reference text statuses.NoMemory known output part nothing = ap (λ s. reference_behind s) (nothing tt)
  text_reference text statuses.TooLong known output part nothing = ap (λ s. reference_behind s) (nothing tt)

  -- by the words: of a run that nobody follows, and of one with followers
  module _ (audience : Audience) (status : Status) where
    by_words_behind : (follow : Bool) (form : Option Form) → RunsBy I (direct G) direct_sends audience source source' a b status follow form
        → RunsBy I G no_sends audience source source' (sink_behind a) (sink_behind b) status follow form
    by_words_behind true form p = script_behind (followed audience) status p
    by_words_behind false None p = (p.0, ap (λ s. sink_behind s) p.1)
    by_words_behind false (Some Run) p = script_behind alone status p
    by_words_behind false (Some Check) p = evidence_behind status p
    by_words_behind false (Some (Gen kind lines start)) p = summary_behind kind lines start status p

    by_words_unsent : (follow : Bool) (form : Option Form) → RunsBy I (direct G) direct_sends audience source source' a b status follow form
        → status ≡ statuses.WriteFault → EndsUnsentBy I G source source' (sink_behind a) (sink_behind b) audience follow form
    by_words_unsent true form p e = script_unsent (followed audience) status p e
    by_words_unsent false None p e = tt
    by_words_unsent false (Some Run) p e = script_unsent alone status p e
    by_words_unsent false (Some Check) p e = tt
    by_words_unsent false (Some (Gen kind lines start)) p e = tt

    by_words_reference : (follow : Bool) (form : Option Form) → (status ≡ statuses.Words → form ≡ None)
        → RunsBy I (direct G) direct_sends audience source source' a b status follow form → reference_behind b ≡ reference_behind a
    by_words_reference true form known p = stands_reference (followed audience) status p.stands
    by_words_reference false None known p = ap (λ s. reference_behind s) p.1
    by_words_reference false (Some Run) known p = stands_reference alone status p.stands
    by_words_reference false (Some Check) known p =
        text_reference _ status (λ e. no_form Check (known e)) p.output p.part p.nothing
    by_words_reference false (Some (Gen kind lines start)) known p =
        text_reference _ status (λ e. no_form (Gen kind lines start) (known e)) (λ e. (p.output e).1) p.part (λ e. (p.nothing e).1)

    -- so the promise that was kept over the outer sink is kept of the one behind it, and that is the sink that it was
    module _ (follow : Bool) (form : Option Form) (known unknown : Type 0) where
      pub run_reference : (unknown → form ≡ None)
          → KeepsPromise I (direct G) source source' a b status (RunsBy I (direct G) direct_sends audience source source' a b status follow form) known unknown
          → reference_behind b ≡ reference_behind a
      run_reference none p = by_words_reference follow form (λ e. none (p.words.0 e)) p.form

      module _ (sink sink' : K) (first : sink_behind a ≡ sink) (last : sink' ≡ sink_behind b)
          (p : KeepsPromise I (direct G) source source' a b status (RunsBy I (direct G) direct_sends audience source source' a b status follow form) known unknown) where
        -- what is said of the sinks behind is said of these
        of_these : (P : K → K → Type 0) → P (sink_behind a) (sink_behind b) → P sink sink'
        of_these P holds = subst (λ s. P s sink') first (subst (λ s. P (sink_behind a) s) (sym last) holds)

        pub run_behind : KeepsPromise I G source source' sink sink' status (RunsBy I G no_sends audience source source' sink sink' status follow form) known unknown
        run_behind =
            of_these (λ s s'. KeepsPromise I G source source' s s' status (RunsBy I G no_sends audience source source' s s' status follow form) known unknown) record {
              form = by_words_behind follow form p.form;
              words = p.words;
              too_long = p.too_long;
              complete = p.complete;
              source_faults = p.source_faults;
              sink_faults = p.sink_faults;
            }

        pub run_unsent : status ≡ statuses.WriteFault → EndsUnsentBy I G source source' sink sink' audience follow form
        run_unsent e = of_these (λ s s'. EndsUnsentBy I G source source' s s' audience follow form) (by_words_unsent follow form p.form e)
