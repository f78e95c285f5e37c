-- The names of timelines.
use Rattle.std.specs.Prelude.{◌≡◌, ℕ, ◌-◌, ◌==◌, Bool, true, false, not, ◌&&◌, ◌||◌, nat_le, List, [], ◌∷◌, ◌++◌, length, take, replicate, codes, Option, Some, None, if◌then◌else◌}
use Rattle.std.specs.List.{list_any, list_all}
use Rattle.std.specs.Str.{bytes_eq}
use Rattle.retro_base.specs.Limits.{longest_name}

-- the bytes from one to another, both included
abbrev pub is_between : ℕ → ℕ → ℕ → Bool
is_between low high byte = nat_le low byte && nat_le byte high

-- an ASCII letter
abbrev pub is_letter : ℕ → Bool
is_letter byte = is_between 65 90 byte || is_between 97 122 byte

-- an ASCII digit
abbrev pub is_digit : ℕ → Bool
is_digit byte = is_between 48 57 byte

-- a letter, a digit, `_` or `-`
abbrev pub is_name_byte : ℕ → Bool
is_name_byte byte = is_letter byte || is_digit byte || byte == 95 || byte == 45

-- the first byte is a letter
abbrev pub starts_with_letter : List ℕ → Bool
starts_with_letter [] = false
starts_with_letter (byte ∷ rest) = is_letter byte

-- the words that begin a form of their own
abbrev pub reserved_words : List (List ℕ)
reserved_words = codes "new" ∷ codes "save" ∷ codes "timeline" ∷ codes "end" ∷ codes "edit" ∷ codes "mute" ∷ []

-- one of those words
abbrev pub is_reserved : List ℕ → Bool
is_reserved word = list_any (λ reserved. bytes_eq word reserved) reserved_words

-- bytes, at most as many as a name may have, that begin with a letter, hold letters, digits, `_` and `-` alone, and are no reserved word
unfoldable pub is_name : List ℕ → Bool
is_name word = starts_with_letter word && nat_le (length word) longest_name && list_all is_name_byte word && not (is_reserved word)

-- the name that has these bytes, if they are one
abbrev pub name_of : List ℕ → Option (List ℕ)
name_of word = if is_name word then Some word else None

-- the bytes of a name, and zeros up to the greatest length
abbrev pub padded : List ℕ → List ℕ
padded word = word ++ replicate (longest_name - length word) 0

-- a name in as many bytes as one may have: its own, and zeros after them
pub record IsPadded (bytes : List ℕ) (size : ℕ) : Type 0 where
  pub valid : is_name (take size bytes) ≡ true
  pub size_is : size ≡ length (take size bytes)
  pub zeros : bytes ≡ padded (take size bytes)
