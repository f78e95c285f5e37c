-- What stands in the sink where a run of lines ends.
use Rattle.std.proofs.Common.{◌≡◌, ℕ, Bool, false, ◌≤◌, ◌+◌, ◌-◌, List, [], ◌++◌, sym, subst, refl, Option, Some, None, Result, Err, inl, inr}
use Rattle.retro_base.specs.Limits.{most_bytes}
use Rattle.retro_io.specs.declared.mark.ReadError.{ReadError}
use Rattle.retro_io.specs.declared.mark.ReadError.TheVariants.{ReadFault, TooLong}
use Rattle.retro_io.specs.declared.sink.Sink as sinks
use Rattle.retro_io.specs.declared.source.Source as sources
use Rattle.retro_io.specs.DueReads.{WereDue}
use Rattle.retro_io.specs.FlushLaws.{EndsWithFailedSend-more, EndsWithFailedWrite-more}
use Rattle.retro_io.specs.Flushes.{EndsWithFailedSend, Sends, StaysUnflushed}
use Rattle.retro_io.specs.Lines.{has_line_feed, lines}
use Rattle.retro_io.specs.Reads.{MakesOf, Took}
use Rattle.retro_io.specs.Sink.{AppendsProperPrefix}
use Rattle.reactions.specs.Bench.{Bench}
use Rattle.retro_run.specs.declared.stop.Stop.{Stop}
use Rattle.retro_run.specs.declared.stop.Stop.TheVariants as stops
use Rattle.retro_run.specs.Audience.{Audience, followed}
use Rattle.retro_run.specs.Delivery.{Writes}
use Rattle.retro_run.specs.Ends.{EndsAfterLine, ScriptStands}
use Rattle.retro_run.specs.OutOfMemory.{AppendsAnswersOfEarlier, AppendsAnswersToEarlier}
use Rattle.retro_run.specs.Output.{whole_by}
use Rattle.retro_run.specs.Run.{AppendsAnswersOfFirst, AppendsAnswersOfTaken, AppendsFirstAnswers, AppendsWholePart}
use Rattle.retro_run.specs.Stop.{StopsAt, status_after}
use Rattle.retro_run.proofs.GoesOn.{GoesOn, first_at_limit, taken_at_fault}
use Rattle.retro_run.proofs.Reactions.{answers_by-none}
use Rattle.retro_io.specs.SinkLaws.{Appends-none}

-- a run that stopped so
abbrev pub stop_at : Stop → Result Bool Stop
stop_at stop = Err stop

-- what is said where the source tells the script, and where it tells what is left of it too
pub told : (P : Option (List ℕ) → Type 0) (script : Option (List ℕ)) → P None → ((bytes : List ℕ) → script ≡ Some bytes → P (Some bytes)) → P script
told P None none some = none
told P (Some bytes) none some = some bytes refl

pub told_left : (P : Option (List ℕ) → Option (List ℕ) → Type 0) (script left : Option (List ℕ)) → P None left
    → ((bytes : List ℕ) → script ≡ Some bytes → (rest : List ℕ) × (left ≡ Some rest) × P (Some bytes) (Some rest)) → P script left
told_left P None left none some = none
told_left P (Some bytes) left none some = let there = some bytes refl in subst (P (Some bytes)) (sym there.1) there.2

-- before anything is read nothing is answered
pub at_start : {S : Type 0} (I : sources.Ghosts S) (audience : Audience) (source : S) (script written : Option (List ℕ))
    → AppendsAnswersOfEarlier I (followed audience) source source script script written written
at_start I audience source None written = tt
at_start I audience source (Some bytes) written = record {
  answers = record { answered = []; unanswered = lines bytes; cut = refl; appended = rw (answers_by-none audience) (Appends-none written) };
  met = inl (refl, refl);
}

-- where the source tells the script, its lines went on to here
abbrev pub WentOn : {S K : Type 0} → sources.Ghosts S → sinks.Ghosts K → Audience → S → S → K → K → List ℕ → Bool → ℕ → Bench → Audience → Bool → Type 0
WentOn I O audience source now sink between held ended count bench who refused =
    (script : List ℕ) → I.left source ≡ Some script → GoesOn I audience script source (O.written sink) now held ended count bench who refused (O.written between)

-- what waits went on
pub sent_on : {S K : Type 0} (I : sources.Ghosts S) (O : sinks.Ghosts K) (audience : Audience) (source now : S) (sink between after : K) (held : List ℕ) (ended : Bool) (count : ℕ)
    (bench : Bench) (who : Audience) (refused : Bool) → O.written after ≡ O.written between → WentOn I O audience source now sink between held ended count bench who refused
    → WentOn I O audience source now sink after held ended count bench who refused
sent_on I O audience source now sink between after held ended count bench who refused same on script is =
    subst (GoesOn I audience script source (O.written sink) now held ended count bench who refused) (sym same) (on script is)

module _ {S K : Type 0} (I : sources.Ghosts S) (O : sinks.Ghosts K) (sends : Sends K) (audience : Audience) (source middle now : S) (sink between : K) where
  -- how a run of lines stands that ended so
  abbrev StandsSo : K → Stop → Type 0
  StandsSo after stop = ScriptStands I O sends (followed audience) source now sink after (status_after (stop_at stop))

  module _ (held : List ℕ) (ended : Bool) (count : ℕ) (bench : Bench) (who : Audience) (refused : Bool) (on : WentOn I O audience source middle sink between held ended count bench who refused)
      (unflushed : StaysUnflushed O sends sink between) where
    -- the answers so far are the whole answers to the lines given
    whole_lines : AppendsFirstAnswers (followed audience) (I.left source) (O.written sink) (O.written between)
    whole_lines =
        told (λ script. AppendsFirstAnswers (followed audience) script (O.written sink) (O.written between)) (I.left source) tt
        (λ script is. let here = on script is in record { answered = here.given; unanswered = lines (held ++ here.left); cut = here.cut; appended = here.appended })

    after_line : EndsAfterLine O sends (followed audience) (I.left source) (I.left now) sink between
    after_line = record { whole = whole_lines; unflushed = unflushed }

    -- where what waits did not go on
    pub stands_at_send : (after : K) → O.written after ≡ O.written between → EndsWithFailedSend O sends between after → StandsSo after stops.WriteFault
    stands_at_send after same last =
        inr (
          inl (subst (λ w. AppendsFirstAnswers (followed audience) (I.left source) (O.written sink) w) (sym same) whole_lines),
          EndsWithFailedSend-more O sends sink between after unflushed last,
        )

    -- where no next line was given
    pub stands_at_error : (error : ReadError) (stop : Stop) (held' shown : List ℕ) (ended' closed : Bool) (limit count' : ℕ) → StopsAt error stop → ended ≡ false
        → has_line_feed held ≡ false → count ≤ count' → (error ≡ TooLong → count' ≡ most_bytes + 1)
        → Took (I.left middle) (I.left now) (count' - count) (λ got. MakesOf (Err error) shown ended' held held' got × WereDue I.reads limit held closed middle got now)
        → StandsSo between stop
    stands_at_error ReadFault stop held' shown ended' closed limit count' stops_at unended unbroken more over took =
        rw stops_at (
          after_line,
          told_left (λ script left. AppendsAnswersOfTaken (followed audience) script left (O.written sink) (O.written between)) (I.left source) (I.left now) tt
              (λ script is.
              taken_at_fault I audience script source (O.written sink) middle now held held' shown ended count bench who refused (O.written between) (on script is)
              ended' closed limit count' unended unbroken took),
        )
    stands_at_error TooLong stop held' shown ended' closed limit count' stops_at unended unbroken more over took =
        rw stops_at (
          after_line,
          told (λ script. AppendsAnswersOfFirst (followed audience) script most_bytes (O.written sink) (O.written between)) (I.left source) tt
              (λ script is.
              first_at_limit I audience script source (O.written sink) middle now held held' shown ended count bench who refused (O.written between) (on script is)
              ended' closed limit count' unended unbroken most_bytes more (over refl) took),
        )

  -- where an answer was not given, or not written
  pub stands_at_answer : (text : List ℕ) (after : K) (stop : Stop) → StaysUnflushed O sends sink between → Writes O sends text (after ≡ between) between after (stop_at stop)
      → ((script : List ℕ) → I.left source ≡ Some script → AppendsProperPrefix (O.written between) text (O.written after)
      → AppendsProperPrefix (O.written sink) (whole_by (followed audience) script) (O.written after))
      → ((script : List ℕ) → I.left source ≡ Some script
      → (left : List ℕ) × (I.left now ≡ Some left) × AppendsAnswersToEarlier I source now script left (followed audience) (O.written sink) (O.written between))
      → StandsSo after stop
  stands_at_answer text after stops.ReadFault unflushed writes part earlier = absurd writes
  stands_at_answer text after stops.TooLong unflushed writes part earlier = absurd writes
  stands_at_answer text after stops.WriteFault unflushed writes part earlier =
      inl (inl (
        told (λ script. AppendsWholePart (followed audience) script (O.written sink) (O.written after)) (I.left source) tt (λ script is. part script is writes.0),
        EndsWithFailedWrite-more O sends sink between after unflushed writes.1,
      ))
  stands_at_answer text after stops.NoMemory unflushed writes part earlier =
      rw writes (inl record {
        earlier = told_left (λ script left. AppendsAnswersOfEarlier I (followed audience) source now script left (O.written sink) (O.written between)) (I.left source) (I.left now) tt earlier;
        unflushed = unflushed;
      })
