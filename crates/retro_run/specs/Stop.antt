-- Why a run ends before its input does.
use Rattle.std.specs.Prelude.{◌≡◌, Bool, true, false, Result, Ok, Err}
use Rattle.retro_io.specs.declared.mark.ReadError.{ReadError}
use Rattle.retro_io.specs.declared.mark.ReadError.TheVariants as errors
use Rattle.retro_run.specs.declared.status.Status.{Status}
use Rattle.retro_run.specs.declared.status.Status.TheVariants as statuses
use Rattle.retro_run.specs.declared.stop.Stop.{Stop}
use Rattle.retro_run.specs.declared.stop.Stop.TheVariants as stops

-- a run ends so at an error of reading
abbrev pub StopsAt : ReadError → Stop → Type 0
StopsAt errors.ReadFault stop = stop ≡ stops.ReadFault
StopsAt errors.TooLong stop = stop ≡ stops.TooLong

-- a read failed
abbrev pub stops_at_read : {V : Type 0} → Result V Stop → Bool
stops_at_read (Err stops.ReadFault) = true
stops_at_read result = false

-- a write or a flush failed
abbrev pub stops_at_write : {V : Type 0} → Result V Stop → Bool
stops_at_write (Err stops.WriteFault) = true
stops_at_write result = false

-- the source answered no further line: a read failed, or the input is too long
abbrev pub StopsReading : Stop → Type 0
StopsReading stops.ReadFault = Unit {0}
StopsReading stops.TooLong = Unit {0}
StopsReading stop = ⊥

-- the status of a run that ended so: with an answer that tells whether a line was refused, or early
abbrev pub status_after : Result Bool Stop → Status
status_after (Ok false) = statuses.Done
status_after (Ok true) = statuses.Refused
status_after (Err stops.ReadFault) = statuses.ReadFault
status_after (Err stops.WriteFault) = statuses.WriteFault
status_after (Err stops.NoMemory) = statuses.NoMemory
status_after (Err stops.TooLong) = statuses.TooLong
