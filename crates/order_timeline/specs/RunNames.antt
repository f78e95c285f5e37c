-- A slot for a name holds a code: one more than the name, or zero where there is none.
use Rattle.std.specs.Prelude.{◌≡◌, ℕ, zero, suc, refl, Option, Some, None}

-- the name that a slot holds by its code
abbrev pub held_by : ℕ → Option ℕ
held_by zero = None
held_by (suc name) = Some name

-- and the code for a name
abbrev pub code_for : Option ℕ → ℕ
code_for None = 0
code_for (Some name) = suc name

-- no two codes hold the same
pub code_for-held_by : (code : ℕ) → code_for (held_by code) ≡ code
code_for-held_by zero = refl
code_for-held_by (suc name) = refl
