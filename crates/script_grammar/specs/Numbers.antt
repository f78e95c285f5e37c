-- The numbers of the script, as words spell them.
use Rattle.std.specs.Prelude.{ℕ, ◌+◌, ◌-◌, ◌*◌, ◌^◌, ◌==◌, ◌&&◌, nat_le, ℤ, pos, neg_ℤ, List, [], ◌∷◌, Option, Some, None, option_map, option_and_then, if◌then◌else◌}
use Rattle.retro_base.specs.Limits.{most_rows, next_limit}
use Rattle.retro_base.specs.Name.{is_digit}

-- the number whose digits are those of a number and then these
abbrev pub natural_after : ℕ → List ℕ → Option ℕ
natural_after n [] = Some n
natural_after n (byte ∷ bytes) = if is_digit byte then natural_after (10 * n + (byte - 48)) bytes else None

-- one or more digits, of which the first may be zeros
abbrev pub natural_of : List ℕ → Option ℕ
natural_of [] = None
natural_of (byte ∷ bytes) = natural_after 0 (byte ∷ bytes)

-- a number up to a greatest one
abbrev pub up_to : ℕ → ℕ → Option ℕ
up_to most n = if nat_le n most then Some n else None

-- a number from a least to a greatest one
abbrev pub between : ℕ → ℕ → ℕ → Option ℕ
between least most n = if nat_le least n && nat_le n most then Some n else None

-- a natural up to a greatest one
abbrev pub natural_up_to : ℕ → List ℕ → Option ℕ
natural_up_to most word = option_and_then (up_to most) (natural_of word)

-- a moment: a natural below 2 ^ 64
unfoldable pub time_of : List ℕ → Option ℕ
time_of word = natural_up_to (2 ^ 64 - 1) word

-- the index of an item: a natural below 2 ^ 64
unfoldable pub index_of : List ℕ → Option ℕ
index_of word = natural_up_to (2 ^ 64 - 1) word

-- the number of a row: `#`, byte 35, and a natural from 1 to below the limit of numbers
unfoldable pub row_number_of : List ℕ → Option ℕ
row_number_of [] = None
row_number_of (byte ∷ bytes) = if byte == 35 then option_and_then (between 1 (next_limit - 1)) (natural_of bytes) else None

-- the number that a timeline draws next: a natural from 1 to the limit of numbers
unfoldable pub next_of : List ℕ → Option ℕ
next_of word = option_and_then (between 1 next_limit) (natural_of word)

-- the number of row lines that a block is to have: a natural up to the number of rows that a timeline may have
unfoldable pub count_of : List ℕ → Option ℕ
count_of word = natural_up_to most_rows word

-- the number of a follower: a natural below 2 ^ 32
unfoldable pub follower_of : List ℕ → Option ℕ
follower_of word = natural_up_to (2 ^ 32 - 1) word

-- a value: an optional `-` and digits, from -2 ^ 63 up to 2 ^ 63 - 1
unfoldable pub value_of : List ℕ → Option ℤ
value_of [] = None
value_of (byte ∷ bytes) =
    if byte == 45 then option_map (λ n. neg_ℤ (pos n)) (option_and_then (up_to (2 ^ 63)) (natural_of bytes))
    else option_map pos (option_and_then (up_to (2 ^ 63 - 1)) (natural_of (byte ∷ bytes)))
