-- What stands in the sink where a text is written.
use Rattle.std.specs.Prelude.{◌≡◌, ◌⊎◌, ℕ, true, false, List, Option, None, Some, Result, Ok, Err}
use Rattle.retro_io.specs.declared.sink.Sink.{Ghosts}
use Rattle.retro_io.specs.Flushes.{EndsWithFailedWrite, EndsWithFlush, Sends, StaysUnflushed}
use Rattle.retro_io.specs.Sink.{Appends, AppendsProperPrefix}
use Rattle.retro_run.specs.declared.stop.Stop.{Stop}
use Rattle.retro_run.specs.declared.stop.Stop.TheVariants as stops

-- what a send does, a text, and the sink before and after
module _ {K : Type 0} (G : Ghosts K) (sends : Sends K) (text : List ℕ) (short : Type 0) (before after : K) where
  -- where it is written and not flushed: all of it was appended, or a write failed within it and was the last call, or memory was short and
  -- this stands; nothing is read for it
  abbrev pub Writes : {V : Type 0} → Result V Stop → Type 0
  Writes (Ok value) = Appends (G.written before) text (G.written after) × StaysUnflushed G sends before after
  Writes (Err stops.WriteFault) = AppendsProperPrefix (G.written before) text (G.written after) × EndsWithFailedWrite G sends before after
  Writes (Err stops.NoMemory) = short
  Writes (Err stop) = ⊥

-- the text was appended, where it is known and the sink tells what was written
abbrev pub AppendsText : Option (List ℕ) → Option (List ℕ) → Option (List ℕ) → Type 0
AppendsText None before after = Unit {0}
AppendsText (Some text) before after = Appends before text after

-- a prefix of it was appended that is not the whole
abbrev pub AppendsPart : Option (List ℕ) → Option (List ℕ) → Option (List ℕ) → Type 0
AppendsPart None before after = Unit {0}
AppendsPart (Some text) before after = AppendsProperPrefix before text after

-- what a send does, the text, where it is known, and the sink before and after
module _ {K : Type 0} (G : Ghosts K) (sends : Sends K) (text : Option (List ℕ)) (before after : K) where
  -- exactly the text was appended, and it was flushed last of all
  pub record Arrives : Type 0 where
    pub appended : AppendsText text (G.written before) (G.written after)
    pub flush : EndsWithFlush G sends before true after
    pub flushed : G.flushed after ≡ true

  -- a write failed within the text, or the flush after all of it, and that was the last call
  abbrev pub IsCutOff : Type 0
  IsCutOff = (AppendsPart text (G.written before) (G.written after) × EndsWithFailedWrite G sends before after)
      ⊎ (AppendsText text (G.written before) (G.written after) × EndsWithFlush G sends before false after)

  -- what stands where a run ends so: the text, a part of it, or nothing new
  abbrev pub StandsAt : {V : Type 0} → Result V Stop → Type 0
  StandsAt (Ok value) = Arrives
  StandsAt (Err stops.WriteFault) = IsCutOff
  StandsAt (Err stop) = after ≡ before
