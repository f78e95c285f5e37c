-- The status of a run, and what stands at each status of one that judges evidence or sums up, by how it ended.
use Rattle.std.proofs.Common.{◌≡◌, ◌⊎◌, inl, inr, ℕ, Bool, true, false, List, refl, sym, ap, ◌∙◌, subst, arith, Option, Some, None, Result, Ok, Err}
use Rattle.std.specs.Prelude.{◌↔◌, IfOk, IfSome, IsSome, OnOk, option_map}
use Rattle.retro_io.specs.declared.sink.Sink as sinks
use Rattle.retro_io.specs.declared.source.Source as sources
use Rattle.retro_io.specs.Faults.{CountsFaults, HasRisen}
use Rattle.retro_io.specs.Flushes.{Sends}
use Rattle.retro_run.specs.declared.status.Status.{Status}
use Rattle.retro_run.specs.declared.status.Status.TheVariants as statuses
use Rattle.retro_run.specs.declared.stop.Stop.{Stop}
use Rattle.retro_run.specs.declared.stop.Stop.TheVariants as stops
use Rattle.retro_run.specs.Cause.{HasCause}
use Rattle.retro_run.specs.Delivery.{IsCutOff, StandsAt}
use Rattle.retro_run.specs.Judging.{is_refusal, judged_output, judgement_of}
use Rattle.retro_run.specs.Run.{EndsBetweenLines, EndsWithoutFault, HasAnswered, MayBeTooLong, is_read_fault, is_write_fault, status_of}
use Rattle.retro_run.specs.Stop.{status_after, stops_at_read, stops_at_write}
use Rattle.retro_run.specs.Summary.{summary}
use Rattle.retro_cli.specs.declared.form.Form.{Form}
use Rattle.retro_base.specs.declared.kind.Kind.{Kind}
use Rattle.retro_cli.specs.Program.{JudgesEvidence, SumsUp}
use Rattle.retro_cli.specs.Promise.{KeepsPromise}

-- how a run ended
abbrev pub Outcome : Type 0
Outcome = Result Bool Stop

abbrev pub ended_at : Stop → Outcome
ended_at stop = Err stop

read_fault_is : (outcome : Outcome) → is_read_fault (status_after outcome) ≡ stops_at_read outcome
read_fault_is outcome = grind arith

write_fault_is : (outcome : Outcome) → is_write_fault (status_after outcome) ≡ stops_at_write outcome
write_fault_is outcome = grind arith

-- an end at an input that is too long is reported so, and no other one
too_long_is : (outcome : Outcome) → (status_after outcome ≡ statuses.TooLong) ↔ (outcome ≡ ended_at stops.TooLong)
too_long_is outcome = (λ e. grind arith, λ e. grind arith)

-- no run ends as words of no form do
never_words : (outcome : Outcome) → status_after outcome ≡ statuses.Words → ⊥
never_words outcome e = grind arith

-- without a fault
ends_without_fault : (script : Option (List ℕ)) (outcome : Outcome) (reads reads' writes writes' : ℕ)
    → CountsFaults (stops_at_read outcome) reads reads' → CountsFaults (stops_at_write outcome) writes writes' → (outcome ≡ ended_at stops.TooLong → MayBeTooLong script)
    → (HasRisen reads reads' → ⊥) → (HasRisen writes writes' → ⊥) → EndsWithoutFault script (status_after outcome)
ends_without_fault script (Ok refused) reads reads' writes writes' of_reads of_writes longer no_read no_write = grind arith
ends_without_fault script (Err stops.ReadFault) reads reads' writes writes' of_reads of_writes longer no_read no_write = absurd (no_read of_reads.1)
ends_without_fault script (Err stops.WriteFault) reads reads' writes writes' of_reads of_writes longer no_read no_write = absurd (no_write of_writes.1)
ends_without_fault script (Err stops.NoMemory) reads reads' writes writes' of_reads of_writes longer no_read no_write = tt
ends_without_fault script (Err stops.TooLong) reads reads' writes writes' of_reads of_writes longer no_read no_write = longer refl

module _ {S K : Type 0} (I : sources.Ghosts S) (O : sinks.Ghosts K) (source source' : S) (sink sink' : K) where
  -- so a run keeps its promise where its words have a form, and what is claimed by that form stands
  pub keeps_promise : (outcome : Outcome) (stands known unknown : Type 0) → HasCause I O source source' sink sink' outcome → stands → (unknown → ⊥)
      → KeepsPromise I O source source' sink sink' (status_after outcome) stands known unknown
  keeps_promise outcome stands known unknown cause here has_form = record {
    form = here;
    words = (λ e. absurd (never_words outcome e), λ none. absurd (has_form none));
    too_long = λ least. (λ e. (cause.too_long least).0 ((too_long_is outcome).0 e), λ more. (too_long_is outcome).1 ((cause.too_long least).1 more));
    complete = λ _ no_read no_write. ends_without_fault (I.left source) outcome _ _ _ _ cause.source_faults cause.sink_faults cause.longer no_read no_write;
    source_faults = subst (λ b. CountsFaults b (I.faults source) (I.faults source')) (sym (read_fault_is outcome)) cause.source_faults;
    sink_faults = subst (λ b. CountsFaults b (O.faults sink) (O.faults sink')) (sym (write_fault_is outcome)) cause.sink_faults;
  }

  -- a run that reads nothing has its cause in the sink alone
  pub cause_at_sink : (outcome : Outcome) → source' ≡ source → stops_at_read outcome ≡ false → (outcome ≡ ended_at stops.TooLong → ⊥)
      → CountsFaults (stops_at_write outcome) (O.faults sink) (O.faults sink') → HasCause I O source source' sink sink' outcome
  cause_at_sink outcome same reads longer writes = record {
    source_faults = rw (same, reads) (omega arith);
    sink_faults = writes;
    too_long = λ least. (λ e. absurd (longer e), λ more. absurd (omega (arith, ap I.taken same, more)));
    longer = λ e. absurd (longer e);
  }

  -- with words of no form nothing is read or written
  pub promise_of_none : (stands known unknown : Type 0) → source' ≡ source → sink' ≡ sink → stands → unknown → (known → ⊥)
      → KeepsPromise I O source source' sink sink' statuses.Words stands known unknown
  promise_of_none stands known unknown same untouched here none no_form = record {
    form = here;
    words = (λ _. none, λ _. refl);
    too_long = λ least. (λ e. cc, λ more. absurd (omega (arith, ap I.taken same, more)));
    complete = λ has. absurd (no_form has);
    source_faults = omega (arith, ap I.faults same);
    sink_faults = omega (arith, ap O.faults untouched);
  }

  -- a run with followers keeps the promise of one without, where its words are not those of a followed run
  pub promise_unfollowed : (status : Status) (follow : Bool) (form : Option Form) (stands here : Type 0) → follow ≡ false → (stands → here)
      → KeepsPromise I O source source' sink sink' status stands (IsSome form) (form ≡ None)
      → KeepsPromise I O source source' sink sink' status here ((follow ≡ true) ⊎ IsSome form) ((follow ≡ false) × (form ≡ None))
  promise_unfollowed status follow form stands here apart so p = record {
    form = so p.form;
    words = (λ e. (apart, p.words.0 e), λ none. p.words.1 none.1);
    too_long = p.too_long;
    complete = λ has. p.complete (elim has [ inl followed ↦ (let wrong : false ≡ true = sym apart ∙ followed in absurd (cc)) | inr some ↦ some ]);
    source_faults = p.source_faults;
    sink_faults = p.sink_faults;
  }

module _ {S K : Type 0} (I : sources.Ghosts S) (O : sinks.Ghosts K) (sends : Sends K) (source source' : S) (sink sink' : K) where
  -- evidence was judged
  abbrev Judges : Outcome → Type 0
  Judges outcome = JudgesEvidence I O sends source source' sink sink' (status_after outcome)

  judged : (text : Option (List ℕ)) (refused : Bool) → IfSome text (λ bytes. refused ≡ is_refusal (judgement_of bytes))
      → IfSome text (λ bytes. status_of refused ≡ status_of (is_refusal (judgement_of bytes)))
  judged None refused is = tt
  judged (Some bytes) refused is = ap status_of is

  judges_early : (stop : Stop) → (HasAnswered (status_after (Err stop)) → ⊥)
      → (status_after (Err stop) ≡ statuses.WriteFault → IsCutOff O sends (option_map judged_output (I.left source)) sink sink')
      → (EndsBetweenLines (status_after (Err stop)) → sink' ≡ sink) → Judges (Err stop)
  judges_early stop early part nothing = record {
    ended = λ answered. absurd (early answered);
    output = λ answered. absurd (early answered);
    refusal = λ answered. absurd (early answered);
    part = part;
    nothing = nothing;
  }

  pub judges_evidence : (outcome : Outcome) → OnOk outcome (I.ended source' ≡ true)
      → StandsAt O sends (option_map judged_output (I.left source)) sink sink' outcome
      → IfOk outcome (λ refused. IfSome (I.left source) (λ bytes. refused ≡ is_refusal (judgement_of bytes)))
      → Judges outcome
  judges_evidence (Ok false) ended stands refusal = record {
    ended = λ _. ended;
    output = λ _. stands;
    refusal = λ _. judged (I.left source) false refusal;
    part = λ e. cc;
    nothing = λ none. absurd none;
  }
  judges_evidence (Ok true) ended stands refusal = record {
    ended = λ _. ended;
    output = λ _. stands;
    refusal = λ _. judged (I.left source) true refusal;
    part = λ e. cc;
    nothing = λ none. absurd none;
  }
  judges_evidence (Err stops.ReadFault) ended stands refusal = judges_early stops.ReadFault (λ none. none) (λ e. cc) (λ _. stands)
  judges_evidence (Err stops.WriteFault) ended stands refusal = judges_early stops.WriteFault (λ none. none) (λ _. stands) (λ none. absurd none)
  judges_evidence (Err stops.NoMemory) ended stands refusal = judges_early stops.NoMemory (λ none. none) (λ e. cc) (λ _. stands)
  judges_evidence (Err stops.TooLong) ended stands refusal = judges_early stops.TooLong (λ none. none) (λ e. cc) (λ _. stands)

  -- a generated script was summed up, which reads nothing and is never refused
  pub sums_up : (kind : Kind) (lines start : ℕ) (outcome : Outcome) → source' ≡ source → StandsAt O sends (Some (summary kind lines start)) sink sink' outcome
      → IfOk outcome (λ refused. refused ≡ false) → stops_at_read outcome ≡ false → (outcome ≡ ended_at stops.TooLong → ⊥)
      → SumsUp I O sends source source' sink sink' (status_after outcome) kind lines start
  sums_up kind lines start (Ok false) same stands refusal reads longer = record {
    untouched = same;
    output = λ _. (refl, stands);
    part = λ e. cc;
    nothing = λ none. absurd none;
  }
  sums_up kind lines start (Ok true) same stands refusal reads longer = cc
  sums_up kind lines start (Err stops.ReadFault) same stands refusal reads longer = cc
  sums_up kind lines start (Err stops.WriteFault) same stands refusal reads longer = record {
    untouched = same;
    output = λ none. absurd none;
    part = λ _. stands;
    nothing = λ none. absurd none;
  }
  sums_up kind lines start (Err stops.NoMemory) same stands refusal reads longer = record {
    untouched = same;
    output = λ none. absurd none;
    part = λ e. cc;
    nothing = λ _. (refl, stands);
  }
  sums_up kind lines start (Err stops.TooLong) same stands refusal reads longer = absurd (longer refl)
