-- What contracts see of an outbox, and what its calls do to the sink that it sends to.
use Rattle.std.specs.Prelude.{◌≡◌, ◌⊎◌, ℕ, Bool, true, false, List, [], ◌++◌, drop, length, Option, None, Some, Result, is_ok, is_err, IfOk, OnOk, OnErr}
use Rattle.retro_io.specs.declared.outbox.Outbox.{Outbox}
use Rattle.retro_io.specs.declared.sink.Sink.{Ghosts}
use Rattle.retro_io.specs.declared.source.Failed.{Failed}
use Rattle.retro_io.specs.Faults.{CountsFaults, faults_after}
use Rattle.retro_io.specs.Sink.{HandsAll, HandsAllUntilFault}

-- the most bytes that wait at an outbox
abbrev pub outbox_size : ℕ
outbox_size = 65536

-- the sink that an outbox sends to
abbrev pub sink_of : {K : Type 0} → Outbox K → K
sink_of outbox = outbox.sink

-- the bytes that were not sent yet
abbrev pub waiting_of : {K : Type 0} → Outbox K → List ℕ
waiting_of outbox = drop outbox.sent outbox.waiting.items

-- what was written in all, where the sink tells what was written to it
abbrev pub then_waiting : Option (List ℕ) → List ℕ → Option (List ℕ)
then_waiting None waiting = None
then_waiting (Some written) waiting = Some (written ++ waiting)

module _ {K : Type 0} (G : Ghosts K) where
  -- all that waits was handed to the sink, each write being handed all that was left of it
  abbrev pub HandsOn : Outbox K → K → Type 0
  HandsOn before after = HandsAll G.writes (waiting_of before) (sink_of before) (length (waiting_of before)) after

  -- the same, until a write failed
  abbrev pub HandsOnUntilFault : Outbox K → K → Type 0
  HandsOnUntilFault before after = HandsAllUntilFault G.writes (waiting_of before) (sink_of before) after

  -- all that waits was handed on, or until a write failed, where none failed before; and else nothing was done
  pub record HandsOnOnce (before after : Outbox K) : Type 0 where
    pub for_good : before.failed ≡ true → after ≡ before
    pub handed : after.failed ≡ false → HandsOn before (sink_of after)
    pub cut_off : after.failed ≡ true → before.failed ≡ false → HandsOnUntilFault before (sink_of after)
    pub counts : before.failed ≡ false → CountsFaults after.failed (G.faults (sink_of before)) (G.faults (sink_of after))

  -- an outbox fails only where the sink's count of faults rises in the call, or it failed before; from then on it leaves the sink alone
  pub record FailsWithSink (before : Outbox K) (fails : Bool) (after : Outbox K) : Type 0 where
    pub failed : after.failed ≡ fails
    pub at_once : before.failed ≡ false → CountsFaults fails (G.faults (sink_of before)) (G.faults (sink_of after))
    pub for_good : before.failed ≡ true → (fails ≡ true) × (sink_of after ≡ sink_of before)

  -- all that waits was handed on, and then the sink was flushed
  pub record HandsOnAndFlushes (before : Outbox K) (succeeds : Bool) (after : K) : Type 0 where
    pub middle : K
    pub handed : HandsOn before middle
    pub answer : Result (Unit {0}) Failed
    pub is : is_ok answer ≡ succeeds
    pub flush : G.flushes middle answer after

  -- what a write does: nothing to the sink where there is room, and else all that waits is handed on first; it takes the whole piece, or as
  -- much as there is room for
  abbrev pub Gathers : Outbox K → List ℕ → Result ℕ Failed → Outbox K → Type 0
  Gathers before piece answer after =
      FailsWithSink before (is_err answer) after × (after.faults ≡ faults_after before.faults answer)
      × OnOk answer ((sink_of after ≡ sink_of before) ⊎ ((length before.waiting.items ≡ outbox_size) × HandsOn before (sink_of after)))
      × OnErr answer (before.failed ≡ false → HandsOnUntilFault before (sink_of after))
      × IfOk answer (λ count. (count ≡ length piece) ⊎ (length after.waiting.items ≡ outbox_size))

  -- what a send does: all that waits is handed on, unless a write of these fails
  abbrev pub SendsOn : Outbox K → Result (Unit {0}) Failed → Outbox K → Type 0
  SendsOn before answer after =
      FailsWithSink before (is_err answer) after × (after.faults ≡ faults_after before.faults answer)
      × OnOk answer (HandsOn before (sink_of after))
      × OnErr answer (before.failed ≡ false → HandsOnUntilFault before (sink_of after))

  -- what a flush does: all that waits is handed on, and then the sink is flushed, unless a write of these fails; where that succeeds, nothing
  -- waits
  abbrev pub FlushesOn : Outbox K → Result (Unit {0}) Failed → Outbox K → Type 0
  FlushesOn before answer after =
      FailsWithSink before (is_err answer) after × (after.faults ≡ faults_after before.faults answer)
      × OnOk answer (HandsOnAndFlushes before true (sink_of after) × (waiting_of after ≡ []))
      × OnErr answer (before.failed ≡ false → HandsOnUntilFault before (sink_of after) ⊎ HandsOnAndFlushes before false (sink_of after))
