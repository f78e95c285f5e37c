-- Lemmas on an outbox that hands on what waits, and then calls its sink.
use Rattle.std.proofs.Common.{◌≡◌, ℕ, ◌≤◌, Bool, [], true, false, Result, Ok, Err, is_err, refl, sym, ◌∙◌, subst, ap, inl, inr, arith}
use Rattle.retro_io.specs.declared.outbox.Outbox.{Outbox}
use Rattle.retro_io.specs.declared.sink.Sink.{Ghosts}
use Rattle.retro_io.specs.declared.source.Failed.{Failed}
use Rattle.retro_io.specs.Faults.{CountsFaults, count_after}
use Rattle.retro_io.specs.FaultLaws.{CountsFaults-then}
use Rattle.retro_io.specs.Outbox.{FailsWithSink, FlushesOn, HandsOnOnce, SendsOn, sink_of, waiting_of}
use Rattle.retro_base.specs.Facts.{not_both}

le_refl : (n : ℕ) → n ≤ n
le_refl n = omega arith

module _ {K : Type 0} (G : Ghosts K) (before middle after : Outbox K) (hands : HandsOnOnce G before middle) where
  -- what waits was not handed on whole, now or before
  pub fails_at_hand : middle.failed ≡ true → after.failed ≡ true → sink_of after ≡ sink_of middle → FailsWithSink G before true after
  fails_at_hand failed fails same = record {
    failed = fails;
    at_once = λ e. subst (λ s. CountsFaults true (G.faults (sink_of before)) (G.faults s)) (sym same)
        (subst (λ b. CountsFaults b (G.faults (sink_of before)) (G.faults (sink_of middle))) failed (hands.counts e));
    for_good = λ e. (refl, same ∙ ap (λ o. sink_of o) (hands.for_good e));
  }

  -- it was, and then the call of the sink failed or did not
  pub fails_at_call : (fails : Bool) → middle.failed ≡ false → after.failed ≡ fails → CountsFaults fails (G.faults (sink_of middle)) (G.faults (sink_of after))
      → FailsWithSink G before fails after
  fails_at_call fails failed after_fails counts = record {
    failed = after_fails;
    at_once = λ e. CountsFaults-then fails (G.faults (sink_of before)) (G.faults (sink_of middle)) (G.faults (sink_of after))
        (subst (λ b. CountsFaults b (G.faults (sink_of before)) (G.faults (sink_of middle))) failed (hands.counts e)) counts;
    for_good = λ e. absurd (not_both middle.failed failed (ap (λ o. o.failed) (hands.for_good e) ∙ e));
  }

  -- so a send fails
  pub sends_until_fault : (fault : Failed) → middle.failed ≡ true → after.failed ≡ true → sink_of after ≡ sink_of middle
      → after.faults ≡ count_after before.faults 1 → SendsOn G before (Err fault) after
  sends_until_fault fault failed fails same counted =
      (fails_at_hand failed fails same, counted, tt, λ e. rw same (hands.cut_off failed e))

  -- and a flush, before it calls the sink
  pub flushes_until_fault : (fault : Failed) → middle.failed ≡ true → after.failed ≡ true → sink_of after ≡ sink_of middle
      → after.faults ≡ count_after before.faults 1 → FlushesOn G before (Err fault) after
  flushes_until_fault fault failed fails same counted =
      (fails_at_hand failed fails same, counted, tt, λ e. inl (rw same (hands.cut_off failed e)))

  -- or there
  pub flushes_to_fault : (fault : Failed) (answer : Result (Unit {0}) Failed) → is_err answer ≡ true → middle.failed ≡ false → after.failed ≡ true
      → CountsFaults (is_err answer) (G.faults (sink_of middle)) (G.faults (sink_of after)) → G.flushes (sink_of middle) answer (sink_of after)
      → after.faults ≡ count_after before.faults 1 → FlushesOn G before (Err fault) after
  flushes_to_fault fault (Ok value) is failed fails counts flush counted = absurd (cc)
  flushes_to_fault fault (Err other) is failed fails counts flush counted = (
    fails_at_call true failed fails counts,
    counted,
    tt,
    λ e. inr record { middle = sink_of middle; handed = hands.handed failed; answer = Err other; is = refl; flush = flush },
  )

  -- and else all goes on
  pub sends_all : (value : Unit {0}) → middle.failed ≡ false → after ≡ middle → after.faults ≡ before.faults → SendsOn G before (Ok value) after
  sends_all value failed same counted =
      let stands : after.failed ≡ false = ap (λ o. o.failed) same ∙ failed in (
        fails_at_call false failed stands (rw same (le_refl (G.faults (sink_of middle)))),
        counted,
        rw same (hands.handed failed),
        tt,
      )

  pub flushes_all : (value : Unit {0}) (answer : Result (Unit {0}) Failed) → is_err answer ≡ false → middle.failed ≡ false → after.failed ≡ false
      → CountsFaults (is_err answer) (G.faults (sink_of middle)) (G.faults (sink_of after)) → G.flushes (sink_of middle) answer (sink_of after)
      → after.faults ≡ before.faults → waiting_of after ≡ [] → FlushesOn G before (Ok value) after
  flushes_all value (Err other) is failed fails counts flush counted none = absurd (cc)
  flushes_all value (Ok other) is failed fails counts flush counted none = (
    fails_at_call false failed fails counts,
    counted,
    (record { middle = sink_of middle; handed = hands.handed failed; answer = Ok other; is = refl; flush = flush }, none),
    tt,
  )
