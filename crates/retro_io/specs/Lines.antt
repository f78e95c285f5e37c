-- The lines of a list of bytes.
use Rattle.std.specs.Prelude.{◌≡◌, ℕ, ◌+◌, ◌<◌, Bool, true, false, ◌==◌, ◌⊎◌, List, [], ◌∷◌, ◌++◌, length, take, drop, map, if◌then◌else◌, Option, None, Some}
pub use Rattle.retro_base.specs.Limits.{longest_line}

-- the byte that ends a line
abbrev pub line_feed : ℕ
line_feed = 10

-- the byte that may stand at the very end of a line, and is then no part of it
abbrev pub carriage_return : ℕ
carriage_return = 13

-- a byte before the first piece
abbrev pub onto_first : ℕ → List (List ℕ) → List (List ℕ)
onto_first b [] = (b ∷ []) ∷ []
onto_first b (piece ∷ more) = (b ∷ piece) ∷ more

-- the bytes are cut after each line feed, which is no part of its piece; a last piece that is not empty needs none
abbrev pub pieces : List ℕ → List (List ℕ)
pieces [] = []
pieces (b ∷ bs) = if b == line_feed then [] ∷ pieces bs else onto_first b (pieces bs)

-- a piece without the one carriage return at its very end, if it ends in one
abbrev pub without_return : List ℕ → List ℕ
without_return [] = []
without_return (b ∷ []) = if b == carriage_return then [] else b ∷ []
without_return (b ∷ c ∷ bs) = b ∷ without_return (c ∷ bs)

-- the lines of the bytes
abbrev pub lines : List ℕ → List (List ℕ)
lines bytes = map without_return (pieces bytes)

-- one of the bytes ends a line
abbrev pub has_line_feed : List ℕ → Bool
has_line_feed [] = false
has_line_feed (b ∷ bs) = if b == line_feed then true else has_line_feed bs

-- this is the place of the first byte that ends a line, or none of the bytes does
abbrev pub MarksLineFeed : Option ℕ → List ℕ → Type 0
MarksLineFeed None bytes = has_line_feed bytes ≡ false
MarksLineFeed (Some at) bytes =
    (at < length bytes) × (has_line_feed (take at bytes) ≡ false) × (bytes ≡ take at bytes ++ line_feed ∷ drop (at + 1) bytes)

-- the bytes begin with this line, its line feed, and these further bytes
abbrev pub StartsWithLine : List ℕ → List ℕ → List ℕ → Type 0
StartsWithLine bytes line after =
    (piece : List ℕ) × (has_line_feed piece ≡ false) × (line ≡ without_return piece) × (bytes ≡ piece ++ line_feed ∷ after)

-- the bytes are this one line, which no line feed ends
abbrev pub IsLastLine : List ℕ → List ℕ → Type 0
IsLastLine bytes line = (has_line_feed bytes ≡ false) × (line ≡ without_return bytes)

-- the bytes are a line with its line feed and these further bytes, or, where the input ended, a line without one
abbrev pub StartsWith : List ℕ → List ℕ → List ℕ → Bool → Type 0
StartsWith bytes line after ended = StartsWithLine bytes line after ⊎ (IsLastLine bytes line × (after ≡ []) × (ended ≡ true))
