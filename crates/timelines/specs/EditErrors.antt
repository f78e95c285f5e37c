-- What a line is answered whose edit does not stand.
use Rattle.std.specs.Prelude.{◌≡◌, Result, Ok}
use Rattle.costs.specs.declared.memory.NoMemory.{NoMemory}
use Rattle.timeline_undo.specs.declared.error.EditError.{EditError}
use Rattle.timeline_undo.specs.declared.error.EditError.TheVariants as errors
use Rattle.reactions.specs.declared.outcome.Outcome.{Outcome}
use Rattle.reactions.specs.declared.outcome.Outcome.TheVariants.{Refused}
use Rattle.reactions.specs.declared.outcome.Refusal.TheVariants as refusals

-- the row that fails is named; out of memory is no answer
abbrev pub IsRefusedBy : EditError → Result Outcome NoMemory → Type 0
IsRefusedBy (errors.Fails number time) result = result ≡ Ok (Refused (refusals.At number time))
IsRefusedBy errors.NoMemory result = (refused : Outcome) → result ≡ Ok refused → ⊥
