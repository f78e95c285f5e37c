-- What the reader's answer says of the line that it gives.
use Rattle.std.specs.Prelude.{◌≡◌, ℕ, Bool, true, false, ◌≤◌, ◌<◌, List, [], ◌∷◌, length, take, Option, None, Some, Result, Err}
use Rattle.retro_io.specs.declared.mark.Mark.{Mark}
use Rattle.retro_io.specs.declared.mark.Mark.TheVariants.{Whole, Long, End}
use Rattle.retro_io.specs.declared.mark.ReadError.{ReadError}
use Rattle.retro_io.specs.declared.mark.ReadError.TheVariants.{ReadFault}
use Rattle.retro_io.specs.Lines.{lines, longest_line, StartsWith}

-- the answer gives a line
abbrev pub gives_line : Mark → Bool
gives_line Whole = true
gives_line Long = true
gives_line End = false

-- a read failed
abbrev pub is_fault : {V : Type 0} → Result V ReadError → Bool
is_fault (Err ReadFault) = true
is_fault answer = false

-- this is what is shown of a line under this answer: all of it, or of a long one as much as a line may have
abbrev pub Shows : Mark → List ℕ → List ℕ → Type 0
Shows Whole shown line = (shown ≡ line) × (length line ≤ longest_line)
Shows Long shown line = (shown ≡ take longest_line line) × (longest_line < length line)
Shows End shown line = ⊥

-- the first line of the bytes before is given, and these bytes are left; at the end there are none
abbrev pub GivesNext : Mark → List ℕ → Bool → List ℕ → List ℕ → Type 0
GivesNext Whole shown ended before after =
    (length shown ≤ longest_line) × (lines before ≡ shown ∷ lines after) × StartsWith before shown after ended
GivesNext Long shown ended before after =
    (line : List ℕ) × (shown ≡ take longest_line line) × (longest_line < length line) × (lines before ≡ line ∷ lines after)
    × StartsWith before line after ended
GivesNext End shown ended before after = (before ≡ []) × (after ≡ [])

-- the same of the bytes that are not given yet, where the source tells them
abbrev pub GivesNextOf : Mark → List ℕ → Bool → Option (List ℕ) → Option (List ℕ) → Type 0
GivesNextOf mark shown ended None after = after ≡ None
GivesNextOf mark shown ended (Some before) None = ⊥
GivesNextOf mark shown ended (Some before) (Some after) = GivesNext mark shown ended before after

-- how much is shown of a line under this answer
abbrev pub Measures : Mark → List ℕ → Type 0
Measures Whole shown = length shown ≤ longest_line
Measures Long shown = length shown ≡ longest_line
Measures End shown = Unit {0}
