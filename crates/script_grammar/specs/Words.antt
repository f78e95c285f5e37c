-- The words of a line.
use Rattle.std.specs.Prelude.{ℕ, ◌==◌, Bool, true, false, List, [], ◌∷◌, filter}
use Rattle.std.specs.List.{slice_split}

-- the byte that divides words
abbrev pub is_space : ℕ → Bool
is_space byte = byte == 32

-- a list with an item
abbrev pub is_filled : List ℕ → Bool
is_filled [] = false
is_filled (byte ∷ bytes) = true

-- the longest runs of bytes that are not spaces: the parts between spaces, without the empty ones
unfoldable pub words : List ℕ → List (List ℕ)
words line = filter is_filled (slice_split is_space line)

-- a list without an item
abbrev pub is_nil : List (List ℕ) → Bool
is_nil [] = true
is_nil (word ∷ rest) = false
