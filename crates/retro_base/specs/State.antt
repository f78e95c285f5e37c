-- What a structure holds, and what one operation does to it. The operations are those of the textbooks.
use Rattle.std.specs.Prelude.{ℕ, ℤ, Bool, ◌&&◌, ◌||◌, List, [], ◌∷◌, ◌++◌, int_lt, nat_lt, take, length, is_some, if◌then◌else◌}
use Rattle.std.specs.Option.{option_map}
use Rattle.std.specs.Ordering.{int_cmp, int_eq}
use Rattle.std.specs.Prelude.{Option, Some, None}
use Rattle.std.specs.BTreeMap.{insert_entry}
use Rattle.std.specs.Map.{lookup, remove_entry}
use Rattle.retro_base.specs.declared.kind.Kind.{Kind}
use Rattle.retro_base.specs.declared.kind.Kind.TheVariants.{Queue, Stack, Deque, Dict, Pq}
use Rattle.retro_base.specs.declared.op.Op.{Op}
use Rattle.retro_base.specs.declared.op.Op.TheVariants.{Enq, Deq, Push, Pop, PushL, PushR, PopL, PopR, Put, Del, Ins, DelMin}
use Rattle.retro_base.specs.declared.row.Entry.{Entry}
use Rattle.retro_base.specs.declared.row.Row.{Row}

-- what a structure holds: items in a line, pairs with rising keys, or entries in rising order
pub data State : Type 0 where
  items : List ℤ → State
  pairs : List (ℤ × ℤ) → State
  entries : List Entry → State

-- what a structure holds before its first row: a queue is seen from the front, a stack from the top, a deque from the left
abbrev pub empty : Kind → State
empty Queue = items []
empty Stack = items []
empty Deque = items []
empty Dict = pairs []
empty Pq = entries []

-- the list without its first element, where it has one
abbrev pub without_first : {X : Type 0} → List X → Option (List X)
without_first [] = None
without_first (x ∷ xs) = Some xs

-- the list without its last element, where it has one
abbrev pub without_last : {X : Type 0} → List X → Option (List X)
without_last [] = None
without_last (x ∷ xs) = Some (take (length xs) (x ∷ xs))

-- the pairs with this key at this value, whatever it had before
abbrev pub with_key : ℤ → ℤ → List (ℤ × ℤ) → List (ℤ × ℤ)
with_key key value ps = insert_entry int_cmp ps key value

-- the pairs without this key, where it is there
abbrev pub without_key : ℤ → List (ℤ × ℤ) → Option (List (ℤ × ℤ))
without_key key ps = if is_some (lookup (int_eq key) ps) then Some (remove_entry (int_eq key) ps) else None

-- entries are ordered by key, then by row number
abbrev pub comes_before : Entry → Entry → Bool
comes_before a b = int_lt a.key b.key || (int_eq a.key b.key && nat_lt a.number b.number)

-- the entries with this one in its order
abbrev pub with_entry : Entry → List Entry → List Entry
with_entry new [] = new ∷ []
with_entry new (first ∷ others) = if comes_before new first then new ∷ first ∷ others else first ∷ with_entry new others

-- what a structure holds after an operation by the row of this number, or none where it cannot be performed
unfoldable pub perform : Op → ℕ → State → Option State
perform (Enq value) number (items xs) = Some (items (xs ++ value ∷ []))
perform Deq number (items xs) = option_map items (without_first xs)
perform (Push value) number (items xs) = Some (items (value ∷ xs))
perform Pop number (items xs) = option_map items (without_first xs)
perform (PushL value) number (items xs) = Some (items (value ∷ xs))
perform (PushR value) number (items xs) = Some (items (xs ++ value ∷ []))
perform PopL number (items xs) = option_map items (without_first xs)
perform PopR number (items xs) = option_map items (without_last xs)
perform (Put key value) number (pairs ps) = Some (pairs (with_key key value ps))
perform (Del key) number (pairs ps) = option_map pairs (without_key key ps)
perform (Ins key) number (entries es) = Some (entries (with_entry (record { key = key; number = number }) es))
perform DelMin number (entries es) = option_map entries (without_first es)
perform op number state = None

-- one step: the row performs its operation
abbrev pub step : Row → State → Option State
step row state = perform row.op row.number state
