-- Laws of the sink behind one at which nothing waits: what is said of the calls of the outer one, whose sends do nothing, is true of the inner
-- one, with no sends. The proofs of the layer above may cite them.
use Rattle.std.proofs.Common.{◌≡◌, Bool, refl, sym, ◌∙◌, subst, ap, inl, inr}
use Rattle.std.proofs.lemmas.Bool.{false≢true}
use Rattle.std.specs.Prelude.{IsOk}
use Rattle.retro_io.specs.declared.direct_sink.DirectSink.{DirectSink}
use Rattle.retro_io.specs.declared.sink.Sink.{Ghosts}
use Rattle.retro_io.specs.DirectSink.{reference_behind, sink_behind}
use Rattle.retro_io.specs.Flushes.{Sends, no_sends, IsSent, IsWritten, StaysUnflushed, EndsWithFlush, EndsWithFailedSend, EndsWithFailedWrite}

-- the meanings of the outer one
abbrev pub direct : {K : Type 0} → Ghosts K → Ghosts (DirectSink K)
direct G = record {
  written = λ s. G.written (sink_behind s);
  flushed = λ s. G.flushed (sink_behind s);
  faults = λ s. G.faults (sink_behind s);
  writes = λ before piece answer after. G.writes (sink_behind before) piece answer (sink_behind after) × (reference_behind after ≡ reference_behind before);
  flushes = λ before answer after. G.flushes (sink_behind before) answer (sink_behind after) × (reference_behind after ≡ reference_behind before);
}

-- and what its sends do
abbrev pub direct_sends : {K : Type 0} → Sends (DirectSink K)
direct_sends before answer after = IsOk answer × (after ≡ before)

module _ {K : Type 0} (G : Ghosts K) where
  IsSent-behind : (a b : DirectSink K) → IsSent (direct G) direct_sends a b → b ≡ a
  IsSent-behind a b IsSent.start = refl
  IsSent-behind a b (IsSent.send answer middle after p done) = done.1 ∙ IsSent-behind a middle p

  IsWritten-behind : (a b : DirectSink K) → IsWritten (direct G) direct_sends a b → IsWritten G no_sends (sink_behind a) (sink_behind b)
  IsWritten-behind a b IsWritten.start = IsWritten.start
  IsWritten-behind a b (IsWritten.write piece count middle after p some done) =
      IsWritten.write piece count (sink_behind middle) (sink_behind after) (IsWritten-behind a middle p) some done.0
  IsWritten-behind a b (IsWritten.send answer middle after p done) =
      subst (λ s. IsWritten G no_sends (sink_behind a) (sink_behind s)) (sym done.1) (IsWritten-behind a middle p)

  pub StaysUnflushed-behind : (a b : DirectSink K) → StaysUnflushed (direct G) direct_sends a b → StaysUnflushed G no_sends (sink_behind a) (sink_behind b)
  StaysUnflushed-behind a b (inl p) =
      subst (λ s. StaysUnflushed G no_sends (sink_behind a) (sink_behind s)) (sym (IsSent-behind a b p.calls))
      (inl record { calls = IsSent.start; written = refl; flushed = refl })
  StaysUnflushed-behind a b (inr p) = inr record {
    text = p.text;
    some = p.some;
    appended = p.appended;
    writes = IsWritten-behind a b p.writes;
    unflushed = p.unflushed;
  }

  pub EndsWithFlush-behind : (a : DirectSink K) (succeeds : Bool) (b : DirectSink K) → EndsWithFlush (direct G) direct_sends a succeeds b
      → EndsWithFlush G no_sends (sink_behind a) succeeds (sink_behind b)
  EndsWithFlush-behind a succeeds b p = record {
    middle = sink_behind p.middle;
    wrote = StaysUnflushed-behind a p.middle p.wrote;
    answer = p.answer;
    is = p.is;
    flush = p.flush.0;
  }

  pub EndsWithFailedWrite-behind : (a b : DirectSink K) → EndsWithFailedWrite (direct G) direct_sends a b → EndsWithFailedWrite G no_sends (sink_behind a) (sink_behind b)
  EndsWithFailedWrite-behind a b p = record {
    middle = sink_behind p.middle;
    piece = p.piece;
    fault = p.fault;
    wrote = IsWritten-behind a p.middle p.wrote;
    some = p.some;
    failed = p.failed.0;
  }

  pub no_failed_send-behind : (a b : DirectSink K) → EndsWithFailedSend (direct G) direct_sends a b → ⊥
  no_failed_send-behind a b p = false≢true p.failed.0

  -- it is the sink that it was
  IsWritten-reference : (a b : DirectSink K) → IsWritten (direct G) direct_sends a b → reference_behind b ≡ reference_behind a
  IsWritten-reference a b IsWritten.start = refl
  IsWritten-reference a b (IsWritten.write piece count middle after p some done) = done.1 ∙ IsWritten-reference a middle p
  IsWritten-reference a b (IsWritten.send answer middle after p done) = ap (λ s. reference_behind s) done.1 ∙ IsWritten-reference a middle p

  pub StaysUnflushed-reference : (a b : DirectSink K) → StaysUnflushed (direct G) direct_sends a b → reference_behind b ≡ reference_behind a
  StaysUnflushed-reference a b (inl p) = ap (λ s. reference_behind s) (IsSent-behind a b p.calls)
  StaysUnflushed-reference a b (inr p) = IsWritten-reference a b p.writes

  pub EndsWithFlush-reference : (a : DirectSink K) (succeeds : Bool) (b : DirectSink K) → EndsWithFlush (direct G) direct_sends a succeeds b
      → reference_behind b ≡ reference_behind a
  EndsWithFlush-reference a succeeds b p = p.flush.1 ∙ StaysUnflushed-reference a p.middle p.wrote

  pub EndsWithFailedWrite-reference : (a b : DirectSink K) → EndsWithFailedWrite (direct G) direct_sends a b → reference_behind b ≡ reference_behind a
  EndsWithFailedWrite-reference a b p = p.failed.1 ∙ IsWritten-reference a p.middle p.wrote
