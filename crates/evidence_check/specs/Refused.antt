-- Which cause a call tells that can fail for out of memory too.
use Rattle.std.specs.Prelude.{◌≡◌, ◌⊎◌, Option, None, Some, Result, IfErr}
use Rattle.std.specs.Result.{result_err}
use Rattle.evidence_check.specs.declared.error.CheckError.{CheckError}
use Rattle.evidence_check.specs.declared.error.CheckError.TheVariants.{NoMemory}

-- an error is this cause, or out of memory where there is no cause
abbrev pub IsRefused : {X : Type 0} → Result X CheckError → Option CheckError → Type 0
IsRefused result cause = IfErr result (λ error. ((error ≡ NoMemory) × (cause ≡ None)) ⊎ (cause ≡ Some error))

-- the cause in an outcome, if it is one
abbrev pub cause_in : {X : Type 0} → Result X CheckError → Option CheckError
cause_in outcome = result_err outcome
