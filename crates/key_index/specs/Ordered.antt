-- Rows in the order of their keys, and of their labels on each key.
use Rattle.std.specs.Prelude.{◌≡◌, ℕ, ℤ, Bool, true, ◌&&◌, ◌||◌, int_lt, nat_lt, nat_le, Option, Some, None, List, [], ◌∷◌, length, if◌then◌else◌}
use Rattle.std.specs.List.{AllByRecursion, filter}
use Rattle.std.specs.Ordering.{int_eq}
use Rattle.key_index.specs.KeyRows.{KeyRow, AreKeyRows, key_of, is_on, with_row}

-- the order of pairs of a key and a label
abbrev pub pair_before : ℤ → ℕ → ℤ → ℕ → Bool
pair_before k l j m = int_lt k j || (int_eq k j && nat_lt l m)

abbrev pub stands_before : KeyRow → KeyRow → Bool
stands_before row later = pair_before (key_of row.1) row.0 (key_of later.1) later.0

abbrev pub AreByKey : List KeyRow → Type 0
AreByKey [] = Unit {0}
AreByKey (row ∷ rows) = AllByRecursion (λ (later : KeyRow). stands_before row later ≡ true) rows × AreByKey rows

-- the same rows by label and by key: those of each key are the same
pub record IsIndexed (rows by_key : List KeyRow) : Type 0 where
  pub listed : AreKeyRows rows
  pub ordered : AreByKey by_key
  pub as_many : length by_key ≡ length rows
  pub same : (key : ℤ) → filter (is_on key) by_key ≡ filter (is_on key) rows

-- rows, each put in by its label
abbrev pub by_label : List KeyRow → List KeyRow
by_label [] = []
by_label (row ∷ rows) = with_row row.0 row.1 (by_label rows)

-- an index of rows is those rows in the order of their keys
abbrev pub IsIndex : List KeyRow → Type 0
IsIndex by_key = IsIndexed (by_label by_key) by_key

-- a row stands up to a label on a key
abbrev pub pair_up_to : ℤ → ℕ → ℤ → ℕ → Bool
pair_up_to k l key limit = int_lt k key || (int_eq k key && nat_le l limit)

abbrev pub reaches : ℤ → ℕ → KeyRow → Bool
reaches key limit row = pair_up_to (key_of row.1) row.0 key limit

-- the row, if it is on the key
abbrev pub if_on : ℤ → KeyRow → Option KeyRow
if_on key row = if is_on key row then Some row else None
