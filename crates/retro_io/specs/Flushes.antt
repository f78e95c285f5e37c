-- Whether a sink was flushed, after calls that append. What a send does is left open, so that of a sink that is only written to and flushed
-- the same is said with no sends.
use Rattle.std.specs.Prelude.{◌≡◌, ℕ, ◌<◌, ◌⊎◌, Bool, false, List, length, Result, Ok, Err, is_ok}
use Rattle.retro_io.specs.declared.sink.Sink.{Ghosts}
use Rattle.retro_io.specs.declared.source.Failed.{Failed}
use Rattle.retro_io.specs.Sink.{Appends}

-- what a send does to a sink
abbrev pub Sends : Type 0 → Type 1
Sends S = S → Result (Unit {0}) Failed → S → Type 0

-- no send is made
abbrev pub no_sends : {S : Type 0} → Sends S
no_sends before answer after = ⊥

module _ {S : Type 0} (G : Ghosts S) (sends : Sends S) where
  -- nothing was called but sends that succeeded
  pub data IsSent (before : S) : S → Type 0 where
    start : IsSent before before
    send : (answer : Unit {0}) (middle after : S) → IsSent before middle → sends middle (Ok answer) after → IsSent before after

  -- nothing was called but writes and sends that succeeded, each write of a piece that is not empty
  pub data IsWritten (before : S) : S → Type 0 where
    start : IsWritten before before
    write : (piece : List ℕ) (count : ℕ) (middle after : S) → IsWritten before middle → 0 < length piece → G.writes middle piece (Ok count) after → IsWritten before after
    send : (answer : Unit {0}) (middle after : S) → IsWritten before middle → sends middle (Ok answer) after → IsWritten before after

  -- nothing was appended or flushed, and nothing was called but sends
  pub record IsOnlySent (before after : S) : Type 0 where
    pub calls : IsSent before after
    pub written : G.written after ≡ G.written before
    pub flushed : G.flushed after ≡ G.flushed before

  -- some bytes were appended by writes, with sends among them, so that no flush was made
  pub record AppendsUnflushed (before after : S) : Type 0 where
    pub text : List ℕ
    pub some : 0 < length text
    pub appended : Appends (G.written before) text (G.written after)
    pub writes : IsWritten before after
    pub unflushed : G.flushed after ≡ false

  -- one of the two was done to a sink
  abbrev pub StaysUnflushed : S → S → Type 0
  StaysUnflushed before after = IsOnlySent before after ⊎ AppendsUnflushed before after

  -- the last call of all was a flush, which succeeded or failed, and none was made before it
  pub record EndsWithFlush (before : S) (succeeds : Bool) (after : S) : Type 0 where
    pub middle : S
    pub wrote : StaysUnflushed before middle
    pub answer : Result (Unit {0}) Failed
    pub is : is_ok answer ≡ succeeds
    pub flush : G.flushes middle answer after

  -- the last call of all was a write of a piece that is not empty, which failed, and before it there were only writes and sends that succeeded
  pub record EndsWithFailedWrite (before after : S) : Type 0 where
    pub middle : S
    pub piece : List ℕ
    pub fault : Failed
    pub wrote : IsWritten before middle
    pub some : 0 < length piece
    pub failed : G.writes middle piece (Err fault) after

  -- the last call of all was a send that failed, and before it there were only writes and sends that succeeded
  pub record EndsWithFailedSend (before after : S) : Type 0 where
    pub middle : S
    pub fault : Failed
    pub wrote : StaysUnflushed before middle
    pub failed : sends middle (Err fault) after
