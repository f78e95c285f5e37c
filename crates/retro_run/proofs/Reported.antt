-- The lines of reports, one after another, and what stands in the sink where a run ends: after its lines, or at the reports after them.
use Rattle.std.proofs.Common.{◌≡◌, ℕ, zero, suc, ◌+◌, ◌<◌, List, [], ◌∷◌, ◌++◌, length, take, drop, get_or, refl, sym, subst, ap, ◌∙◌, arith, add-one, add-zero, append-nil}
use Rattle.std.proofs.Common.{append_assoc, zero-add, map, false, Option, None, Result, Err, Bool, true, Some, inl, inr}
use Rattle.std.specs.Prelude.{option_map, IsSome, IfSome}
use Rattle.std.proofs.lemmas.List.{get_or-map, length-map}
use Rattle.retro_io.specs.declared.sink.Sink.{Ghosts}
use Rattle.retro_io.specs.FlushLaws.{EndsWithFailedWrite-more, EndsWithFailedSend-more, StaysUnflushed-more}
use Rattle.retro_io.specs.Flushes.{Sends, StaysUnflushed, EndsWithFailedSend}
use Rattle.retro_io.specs.Sink.{Appends, AppendsPrefixOf, AppendsProperPrefix}
use Rattle.followers.specs.Followers.{Reporting}
use Rattle.reactions.specs.Bench.{empty_bench}
use Rattle.retro_run.specs.declared.stop.Stop.{Stop}
use Rattle.retro_run.specs.declared.stop.Stop.TheVariants as stops
use Rattle.retro_run.specs.Audience.{texts_of, Audience, audience_after, followed}
use Rattle.retro_run.specs.Delivery.{Writes}
use Rattle.retro_run.specs.Events.{AppendsFirstReports, line_of, report_lines}
use Rattle.retro_run.proofs.Prefixes.{prefix_between, prefix_of_part}
use Rattle.std.proofs.lemmas.Option.{IfSome_then}
use Rattle.retro_io.specs.declared.sink.Sink as sinks
use Rattle.retro_io.specs.declared.source.Source as sources
use Rattle.retro_io.specs.SinkLaws.{Appends-append, AppendsPrefixOf-from}
use Rattle.retro_io.specs.Lines.{lines}
use Rattle.retro_run.specs.declared.status.Status.{Status}
use Rattle.retro_run.specs.declared.status.Status.TheVariants as statuses
use Rattle.retro_run.specs.Ends.{Answers, EndsUnflushed, ScriptStands}
use Rattle.retro_run.specs.OutOfMemory.{AppendsAnswersOfEarlier}
use Rattle.retro_run.specs.Output.{answers_by, output_by, whole_by}
use Rattle.retro_run.specs.Run.{AppendsFirstAnswers, AppendsOutput, AppendsReportsToOne, AppendsSomeReports, AppendsWhole, AppendsWholeLines, AppendsWholePart, AppendsWholePrefix}
use Rattle.retro_run.specs.Run.{status_of}
use Rattle.retro_run.specs.Stop.{status_after}
use Rattle.retro_run.proofs.Ends.{stop_at}
use Rattle.retro_run.proofs.Reactions.{reports_of, whole_after, with_reports-is}

-- one number more
pub one_more : (texts : List (Option (List ℕ))) (number i : ℕ) (d : Option (List ℕ)) → i < length texts
    → report_lines number (take (suc i) texts) ≡ report_lines number (take i texts) ++ line_of (number + i) (get_or texts i d)
one_more [] number i d within = absurd (omega arith)
one_more (text ∷ texts) number zero d within = append-nil (line_of number text) ∙ ap (λ n. line_of n text) (sym (add-zero number))
one_more (text ∷ texts) number (suc i) d within =
    let same : number + 1 + i ≡ number + suc i = omega arith in
    ap (λ xs. line_of number text ++ xs) (one_more texts (number + 1) i d (omega arith) ∙ ap (λ n. report_lines (number + 1) (take i texts) ++ line_of n (get_or texts i d)) same)
    ∙ sym (append_assoc (line_of number text) (report_lines (number + 1) (take i texts)) (line_of (number + suc i) (get_or texts i d)))

-- some numbers, and the others
pub cut_after : (texts : List (Option (List ℕ))) (number i : ℕ) → report_lines number texts ≡ report_lines number (take i texts) ++ report_lines (number + i) (drop i texts)
cut_after [] number zero = refl
cut_after [] number (suc i) = refl
cut_after (text ∷ texts) number zero = ap (λ n. report_lines n (text ∷ texts)) (sym (add-zero number))
cut_after (text ∷ texts) number (suc i) =
    let same : number + 1 + i ≡ number + suc i = omega arith in
    ap (λ xs. line_of number text ++ xs) (cut_after texts (number + 1) i ∙ ap (λ n. report_lines (number + 1) (take i texts) ++ report_lines n (drop i texts)) same)
    ∙ sym (append_assoc (line_of number text) (report_lines (number + 1) (take i texts)) (report_lines (number + suc i) (drop i texts)))

-- some numbers, one more, and the others
pub around : (texts : List (Option (List ℕ))) (number i : ℕ) (d : Option (List ℕ)) → i < length texts
    → report_lines number texts ≡ (report_lines number (take i texts) ++ line_of (number + i) (get_or texts i d)) ++ report_lines (number + suc i) (drop (suc i) texts)
around texts number i d within =
    cut_after texts number (suc i) ∙ ap (λ xs. xs ++ report_lines (number + suc i) (drop (suc i) texts)) (one_more texts number i d within)

-- reports that stopped so
abbrev pub stopped_at : Stop → Result (Unit {0}) Stop
stopped_at stop = Err stop

-- each follower is seen as what it reports, if it is left
module _ {F : Type 0} (seen : F → Option Reporting) (followers : List F) (i : ℕ) (follower : F) (within : i < length followers) (is : follower ≡ get_or followers i follower) where
  -- what they report
  abbrev texts : List (Option (List ℕ))
  texts = texts_of (map seen followers)

  -- and this one
  abbrev own : Option (List ℕ)
  own = option_map (λ (report : Reporting). report []) (seen follower)

  as_many : length texts ≡ length followers
  as_many = length-map (map seen followers) (option_map (λ (report : Reporting). report [])) ∙ length-map followers seen

  text_is : get_or texts i None ≡ own
  text_is =
      get_or-map (option_map (λ (report : Reporting). report [])) (map seen followers) i (seen follower) None (omega (arith, within, length-map followers seen))
      ∙ ap (option_map (λ (report : Reporting). report [])) (get_or-map seen followers i follower (seen follower) within) ∙ ap (λ f. option_map (λ (report : Reporting). report []) (seen f)) (sym is)

  pub next_report : report_lines 0 (take (i + 1) texts) ≡ report_lines 0 (take i texts) ++ line_of i own
  next_report =
      ap (λ n. report_lines 0 (take n texts)) (add-one i) ∙ one_more texts 0 i None (omega (arith, as_many))
      ∙ ap (λ text. report_lines 0 (take i texts) ++ line_of (0 + i) text) text_is ∙ ap (λ n. report_lines 0 (take i texts) ++ line_of n own) (zero-add i)

  -- what stands where the line of this one was not written
  pub reports_stand : {K : Type 0} (G : Ghosts K) (sends : Sends K) (before middle after : K) (stop : Stop) → Appends (G.written before) (report_lines 0 (take i texts)) (G.written middle)
      → StaysUnflushed G sends before middle → Writes G sends (line_of i own) (IsSome own × (after ≡ middle)) middle after (stopped_at stop)
      → Writes G sends (report_lines 0 texts) (AppendsFirstReports texts (G.written before) (G.written after) × StaysUnflushed G sends before after) before after (stopped_at stop)
  reports_stand G sends before middle after stops.ReadFault appended unflushed writes = absurd writes
  reports_stand G sends before middle after stops.TooLong appended unflushed writes = absurd writes
  reports_stand G sends before middle after stops.NoMemory appended unflushed writes =
      rw writes.1 (record { count = i; asked = subst IsSome (sym text_is) writes.0; appended = appended }, unflushed)
  reports_stand G sends before middle after stops.WriteFault appended unflushed writes = (
    prefix_between (G.written before) (G.written middle) (G.written after) (report_lines 0 (take i texts)) (line_of i own)
        (report_lines (0 + suc i) (drop (suc i) texts)) (report_lines 0 texts)
        (around texts 0 i None (omega (arith, as_many))
        ∙ ap (λ text. (report_lines 0 (take i texts) ++ line_of (0 + i) text) ++ report_lines (0 + suc i) (drop (suc i) texts)) text_is
        ∙ ap (λ n. (report_lines 0 (take i texts) ++ line_of n own) ++ report_lines (0 + suc i) (drop (suc i) texts)) (zero-add i))
        appended writes.0,
    EndsWithFailedWrite-more G sends before middle after unflushed writes.1,
  )

-- those who followed a script, where the source tells it
abbrev pub HaveFollowed : Option (List ℕ) → Audience → Audience → Type 0
HaveFollowed script before after = IfSome script (λ bytes. after ≡ audience_after empty_bench before (lines bytes))

-- the reports after the output
pub appends_whole : (script : Option (List ℕ)) (before now : Audience) (first middle last : Option (List ℕ)) → HaveFollowed script before now
    → AppendsOutput (followed before) script first middle → Appends middle (report_lines 0 (texts_of now)) last → AppendsWhole (followed before) script first last
appends_whole None before now first middle last taken answered reported = tt
appends_whole (Some bytes) before now first middle last taken answered reported =
    subst (λ text. Appends first text last) (sym (with_reports-is (output_by (followed before) bytes) (reports_of before bytes)))
    (Appends-append first middle last (output_by (followed before) bytes) _ answered (subst (λ who. Appends middle (report_lines 0 (texts_of who)) last) taken reported))

-- a part of them, after the output, is a part of the whole
part_of_reports : (script : Option (List ℕ)) (before now : Audience) (first middle last : Option (List ℕ)) → HaveFollowed script before now
    → AppendsOutput (followed before) script first middle → AppendsProperPrefix middle (report_lines 0 (texts_of now)) last → AppendsWholePart (followed before) script first last
part_of_reports None before now first middle last taken answered part = tt
part_of_reports (Some bytes) before now first middle last taken answered part =
    let reports = report_lines 0 (reports_of before bytes) in
    prefix_between first middle last (output_by (followed before) bytes) reports [] (whole_by (followed before) bytes)
    (with_reports-is (output_by (followed before) bytes) (reports_of before bytes) ∙ sym (append-nil (output_by (followed before) bytes ++ reports))) answered
    (subst (λ who. AppendsProperPrefix middle (report_lines 0 (texts_of who)) last) taken part)

-- the output, and then some whole reports
some_reports : (script : Option (List ℕ)) (before now : Audience) (first middle last : Option (List ℕ)) → HaveFollowed script before now
    → AppendsOutput (followed before) script first middle → AppendsFirstReports (texts_of now) middle last → AppendsSomeReports (followed before) script first last
some_reports None before now first middle last taken answered reported = tt
some_reports (Some bytes) before now first middle last taken answered reported = record {
  count = reported.count;
  asked = subst (λ who. IsSome (get_or (texts_of who) reported.count None)) taken reported.asked;
  appended = Appends-append first middle last (output_by (followed before) bytes) _ answered
      (subst (λ who. Appends middle (report_lines 0 (take reported.count (texts_of who))) last) taken reported.appended);
}

-- whole lines are a prefix of the whole
module _ (audience : Audience) where
  prefix_of_answers : (script before after : Option (List ℕ)) → AppendsFirstAnswers (followed audience) script before after → AppendsWholePrefix (followed audience) script before after
  prefix_of_answers None before after answers = tt
  prefix_of_answers (Some bytes) before after answers =
      let whole = whole_after audience bytes answers.answered answers.unanswered answers.cut in
      AppendsPrefixOf-from before (whole_by (followed audience) bytes) (answers_by (followed audience) answers.answered) whole.0 after whole.1 answers.appended

  -- and so is the whole
  prefix_of_all : (script before after : Option (List ℕ)) → AppendsWhole (followed audience) script before after → AppendsWholePrefix (followed audience) script before after
  prefix_of_all script before after all =
      IfSome_then script all (λ bytes. AppendsPrefixOf-from before (whole_by (followed audience) bytes) (whole_by (followed audience) bytes) [] after
      (sym (append-nil (whole_by (followed audience) bytes))))

  prefix_of_reports : (bytes : List ℕ) (first last : Option (List ℕ)) → AppendsReportsToOne (followed audience) bytes first last → AppendsPrefixOf first (whole_by (followed audience) bytes) last
  prefix_of_reports bytes first last some =
      let output = output_by (followed audience) bytes in
      let reports = reports_of audience bytes in
      let front = report_lines 0 (take some.count reports) in
      let back = report_lines (0 + some.count) (drop some.count reports) in
      AppendsPrefixOf-from first (whole_by (followed audience) bytes) (output ++ front) back last
      (with_reports-is output reports ∙ ap (λ xs. output ++ xs) (cut_after reports 0 some.count) ∙ sym (append_assoc output front back)) some.appended

  prefix_of_lines : (script before after : Option (List ℕ)) → AppendsWholeLines (followed audience) script before after → AppendsWholePrefix (followed audience) script before after
  prefix_of_lines script before after (inl answers) = prefix_of_answers script before after answers
  prefix_of_lines script before after (inr some) = IfSome_then script some (λ bytes. prefix_of_reports bytes before after)

module _ {S K : Type 0} (I : sources.Ghosts S) (O : sinks.Ghosts K) (sends : Sends K) (audience : Audience) (source source' : S) where
  -- what a run comes to that ends with a status
  abbrev EndsSo : K → K → Status → Type 0
  EndsSo before after status = ScriptStands I O sends (followed audience) source source' before after status

  -- where a run is answered, whether a line was refused or not
  pub stands_answered : (before after : K) (refused : Bool) → Answers I O sends (followed audience) source source' before after refused → EndsSo before after (status_of refused)
  stands_answered before after false answers = answers
  stands_answered before after true answers = answers

  -- where the reports stop
  pub stands_at_reports : (now : Audience) (refused : Bool) (before middle after : K) (stop : Stop) → HaveFollowed (I.left source) audience now
      → EndsUnflushed I O sends (followed audience) source source' before middle (AppendsOutput (followed audience)) refused
      → Writes O sends (report_lines 0 (texts_of now)) (AppendsFirstReports (texts_of now) (O.written middle) (O.written after) × StaysUnflushed O sends middle after) middle after (stopped_at stop)
      → EndsSo before after (status_after (stop_at stop))
  stands_at_reports now refused before middle after stops.ReadFault taken answered writes = absurd writes
  stands_at_reports now refused before middle after stops.TooLong taken answered writes = absurd writes
  stands_at_reports now refused before middle after stops.NoMemory taken answered writes = inr record {
    ended = answered.ended;
    whole = some_reports (I.left source) audience now (O.written before) (O.written middle) (O.written after) taken answered.output writes.0;
    unflushed = StaysUnflushed-more O sends before middle after answered.unflushed writes.1;
  }
  stands_at_reports now refused before middle after stops.WriteFault taken answered writes =
      inl (inl (
        part_of_reports (I.left source) audience now (O.written before) (O.written middle) (O.written after) taken answered.output writes.0,
        EndsWithFailedWrite-more O sends before middle after answered.unflushed writes.1,
      ))

  -- where they were all made
  pub reported : (now : Audience) (refused : Bool) (before middle after : K) → HaveFollowed (I.left source) audience now
      → EndsUnflushed I O sends (followed audience) source source' before middle (AppendsOutput (followed audience)) refused
      → Appends (O.written middle) (report_lines 0 (texts_of now)) (O.written after) × StaysUnflushed O sends middle after
      → EndsUnflushed I O sends (followed audience) source source' before after (AppendsWhole (followed audience)) refused
  reported now refused before middle after taken answered writes = record {
    ended = answered.ended;
    output = appends_whole (I.left source) audience now (O.written before) (O.written middle) (O.written after) taken answered.output writes.0;
    unflushed = StaysUnflushed-more O sends before middle after answered.unflushed writes.1;
    refusal = answered.refusal;
  }

  -- where memory was short, and then all that waits went on
  pub stands_sent : (before middle after : K) → EndsSo before middle statuses.NoMemory → O.written after ≡ O.written middle → StaysUnflushed O sends middle after
      → EndsSo before after statuses.NoMemory
  stands_sent before middle after (inl at) same sent = inl record {
    earlier = subst (λ w. AppendsAnswersOfEarlier I (followed audience) source source' (I.left source) (I.left source') (O.written before) w) (sym same) at.earlier;
    unflushed = StaysUnflushed-more O sends before middle after at.unflushed sent;
  }
  stands_sent before middle after (inr at) same sent = inr record {
    ended = at.ended;
    whole = subst (λ w. AppendsSomeReports (followed audience) (I.left source) (O.written before) w) (sym same) at.whole;
    unflushed = StaysUnflushed-more O sends before middle after at.unflushed sent;
  }

  -- whole lines stand where memory was short
  first_of_earlier : (script left before after : Option (List ℕ)) → AppendsAnswersOfEarlier I (followed audience) source source' script left before after → AppendsFirstAnswers (followed audience) script before after
  first_of_earlier None left before after earlier = tt
  first_of_earlier (Some script) None before after earlier = absurd earlier
  first_of_earlier (Some script) (Some left) before after earlier = earlier.answers

  whole_lines : (before after : K) → EndsSo before after statuses.NoMemory → AppendsWholeLines (followed audience) (I.left source) (O.written before) (O.written after) × StaysUnflushed O sends before after
  whole_lines before after (inl at) = (inl (first_of_earlier (I.left source) (I.left source') (O.written before) (O.written after) at.earlier), at.unflushed)
  whole_lines before after (inr at) = (inr at.whole, at.unflushed)

  -- and where then not all went on
  pub stands_unsent : (before middle after : K) → EndsSo before middle statuses.NoMemory → O.written after ≡ O.written middle → EndsWithFailedSend O sends middle after
      → EndsSo before after statuses.WriteFault
  stands_unsent before middle after stands same failed =
      let lines = whole_lines before middle stands in
      inr (
        subst (λ w. AppendsWholeLines (followed audience) (I.left source) (O.written before) w) (sym same) lines.0,
        EndsWithFailedSend-more O sends before middle after lines.1 failed,
      )

  -- whatever stands is a prefix of the whole
  pub prefix_that_stands : (before after : K) (status : Status) → EndsSo before after status → AppendsWholePrefix (followed audience) (I.left source) (O.written before) (O.written after)
  prefix_that_stands before after statuses.Done stands = prefix_of_all audience (I.left source) (O.written before) (O.written after) stands.output
  prefix_that_stands before after statuses.Refused stands = prefix_of_all audience (I.left source) (O.written before) (O.written after) stands.output
  prefix_that_stands before after statuses.Words stands = absurd stands
  prefix_that_stands before after statuses.ReadFault stands = prefix_of_answers audience (I.left source) (O.written before) (O.written after) stands.0.whole
  prefix_that_stands before after statuses.WriteFault (inl (inl part)) =
      IfSome_then (I.left source) part.0 (λ bytes. prefix_of_part (whole_by (followed audience) bytes) (O.written before) (O.written after))
  prefix_that_stands before after statuses.WriteFault (inl (inr all)) = prefix_of_all audience (I.left source) (O.written before) (O.written after) all.0
  prefix_that_stands before after statuses.WriteFault (inr sent) = prefix_of_lines audience (I.left source) (O.written before) (O.written after) sent.0
  prefix_that_stands before after statuses.NoMemory stands =
      prefix_of_lines audience (I.left source) (O.written before) (O.written after) (whole_lines before after stands).0
  prefix_that_stands before after statuses.TooLong stands = prefix_of_answers audience (I.left source) (O.written before) (O.written after) stands.0.whole
