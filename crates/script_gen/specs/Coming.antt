-- The lines that a generator has still to give.
use Rattle.std.specs.Prelude.{◌≡◌, ℕ, zero, suc, ◌-◌, Bool, true, false, List, [], ◌∷◌}
use Rattle.retro_base.specs.declared.kind.Kind.{Kind}
use Rattle.retro_base.specs.Text.{AppendsPrefix}
use Rattle.script_gen.specs.Script.{first_line, lines_from}

-- before the first line, and before line `number`, counted from 1
abbrev pub coming : Kind → ℕ → ℕ → ℕ → List (List ℕ)
coming kind lines zero state = first_line kind ∷ lines_from kind lines 1 state
coming kind lines (suc done) state = lines_from kind (lines - done) (suc done) state

-- a call gives the first one of the lines to come, or none where none is left
abbrev pub GivesNext : List (List ℕ) → List (List ℕ) → List ℕ → Bool → Type 0
GivesNext [] after text true = ⊥
GivesNext [] after text false = (after ≡ []) × (text ≡ [])
GivesNext (line ∷ others) after text true = (after ≡ others) × (text ≡ line)
GivesNext (line ∷ others) after text false = ⊥

-- the text is a first part of the next line
abbrev pub IsPartOfNext : List (List ℕ) → List ℕ → Type 0
IsPartOfNext [] text = text ≡ []
IsPartOfNext (line ∷ others) text = AppendsPrefix [] text line
