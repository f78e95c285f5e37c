-- The evidence that a line spells, read from word to word: its words are divided by single spaces.
use Rattle.std.specs.Prelude.{ℕ, ◌^◌, ◌==◌, ◌&&◌, Bool, true, false, nat_le, nat_lt, ℤ, pos, negsuc, neg_ℤ, List, [], ◌∷◌, codes, decimal, if◌then◌else◌}
use Rattle.std.specs.Prelude.{Option, Some, None, option_map, option_and_then}
use Rattle.std.specs.Fmt.{signed_decimal}
use Rattle.std.specs.List.{slice_split}
use Rattle.std.specs.Str.{bytes_eq}
use Rattle.std.specs.Str.Parse.{digits_value}
use Rattle.retro_base.specs.declared.op.Op.{Op}
use Rattle.retro_base.specs.declared.op.Op.TheVariants.{Ins, DelMin}
use Rattle.retro_base.specs.declared.row.Change.{Change}
use Rattle.retro_base.specs.declared.row.Change.TheVariants.{Gain, Lose}
use Rattle.retro_base.specs.declared.row.Entry.{Entry}
use Rattle.retro_base.specs.Limits.{next_limit}
use Rattle.retro_base.specs.Name.{name_of}
use Rattle.evidence.specs.declared.evidence.Evidence.{Evidence}

-- the parts between single spaces
abbrev pub words : List ℕ → List (List ℕ)
words line = slice_split (λ byte. byte == 32) line

-- the number of 32 bits of which this word is the decimal text
unfoldable pub number_of : List ℕ → Option ℕ
number_of word =
    let n = digits_value 10 word in
    if (bytes_eq (decimal n) word && nat_lt n (2 ^ 32)) then Some n else None

-- the test for a value of 64 bits
abbrev pub is_value : ℤ → Bool
is_value (pos n) = nat_lt n (2 ^ 63)
is_value (negsuc n) = nat_lt n (2 ^ 63)

-- the value that digits write, after a `-`, byte 45, or without one
abbrev pub value_after_sign : List ℕ → ℤ
value_after_sign [] = pos 0
value_after_sign (byte ∷ digits) = if byte == 45 then neg_ℤ (pos (digits_value 10 digits)) else pos (digits_value 10 (byte ∷ digits))

-- the value of 64 bits of which this word is the decimal text
unfoldable pub key_of : List ℕ → Option ℤ
key_of word =
    let value = value_after_sign word in
    if (bytes_eq (signed_decimal value) word && is_value value) then Some value else None

-- a number that a row can have
abbrev pub if_row_number : ℕ → Option ℕ
if_row_number n = if (nat_le 1 n && nat_lt n next_limit) then Some n else None

-- the number of a row: `#`, byte 35, and the number
abbrev pub row_number_of : List ℕ → Option ℕ
row_number_of [] = None
row_number_of (byte ∷ digits) = if byte == 35 then option_and_then if_row_number (number_of digits) else None

-- `add` or `cut`
abbrev pub added_of : List ℕ → Option Bool
added_of word =
    if bytes_eq word (codes "add") then Some true
    else (if bytes_eq word (codes "cut") then Some false
    else None)

-- a place, or `none`
abbrev pub bridge_of : List ℕ → Option (Option ℕ)
bridge_of word = if bytes_eq word (codes "none") then Some None else option_map Some (number_of word)

-- `#J K`, as the last words
abbrev pub key_alone : ℕ → List ℕ → List (List ℕ) → Option Entry
key_alone number word [] = option_map (λ key. record { key = key; number = number }) (key_of word)
key_alone number word (other ∷ rest) = None

abbrev pub entry_with : ℕ → List (List ℕ) → Option Entry
entry_with number [] = None
entry_with number (word ∷ rest) = key_alone number word rest

abbrev pub entry_of : List (List ℕ) → Option Entry
entry_of [] = None
entry_of (word ∷ rest) = option_and_then (λ number. entry_with number rest) (row_number_of word)

-- the change of an entry at a bridge, by the word for it; an entry is gained at a place alone
abbrev pub changed : List ℕ → Option ℕ → Entry → Option Change
changed word bridge entry =
    if bytes_eq word (codes "gain") then option_map (λ place. Gain place entry) bridge
    else (if bytes_eq word (codes "lose") then Some (Lose bridge entry)
    else None)

abbrev pub changed_at : Option ℕ → List (List ℕ) → Option Change
changed_at bridge [] = None
changed_at bridge (word ∷ rest) = option_and_then (λ entry. changed word bridge entry) (entry_of rest)

-- `B gain #J K`, or `B|none lose #J K`
abbrev pub bridged : List (List ℕ) → Option Change
bridged [] = None
bridged (word ∷ rest) = option_and_then (λ bridge. changed_at bridge rest) (bridge_of word)

-- the same after the word `bridge`
abbrev pub change_of : List (List ℕ) → Option Change
change_of [] = None
change_of (word ∷ rest) = if bytes_eq word (codes "bridge") then bridged rest else None

-- an operation and what stands after it
abbrev pub ins_then : List (List ℕ) → Option (Op × Change)
ins_then [] = None
ins_then (word ∷ rest) = option_and_then (λ key. option_map (λ change. (Ins key, change)) (change_of rest)) (key_of word)

abbrev pub op_then : List (List ℕ) → Option (Op × Change)
op_then [] = None
op_then (word ∷ rest) =
    if bytes_eq word (codes "ins") then ins_then rest
    else (if bytes_eq word (codes "delmin") then option_map (λ change. (DelMin, change)) (change_of rest)
    else None)

-- an edit of a timeline, and what stands after its place
abbrev pub placed : List ℕ → Bool → ℕ → List (List ℕ) → Option Evidence
placed name added place [] = None
placed name added place (word ∷ rest) =
    option_and_then (λ number. option_map (λ after. record { name = name; added = added; place = place; number = number; op = after.0; change = after.1 }) (op_then rest)) (row_number_of word)

abbrev pub edit_at : List ℕ → Bool → List (List ℕ) → Option Evidence
edit_at name added [] = None
edit_at name added (word ∷ rest) = option_and_then (λ place. placed name added place rest) (number_of word)

abbrev pub edit_of : List ℕ → List (List ℕ) → Option Evidence
edit_of name [] = None
edit_of name (word ∷ rest) = option_and_then (λ added. edit_at name added rest) (added_of word)

abbrev pub named : List (List ℕ) → Option Evidence
named [] = None
named (word ∷ rest) = option_and_then (λ name. edit_of name rest) (name_of word)

-- the evidence that words spell
abbrev pub spelled_by : List (List ℕ) → Option Evidence
spelled_by [] = None
spelled_by (word ∷ rest) = if bytes_eq word (codes "edit") then named rest else None

-- the evidence that a line spells
unfoldable pub evidence_of : List ℕ → Option Evidence
evidence_of line = spelled_by (words line)
