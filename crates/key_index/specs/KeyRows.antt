-- Rows of a dictionary, each by its label: what stands beside a label on a key, and which row fails first.
use Rattle.std.specs.Prelude.{◌≡◌, ℕ, ℤ, pos, ◌<◌, Bool, ◌&&◌, ◌==◌, nat_lt, nat_le, Option, Some, None, List, [], ◌∷◌, ◌++◌, map}
use Rattle.std.specs.List.{AllByRecursion, filter, find, slice_get}
use Rattle.std.specs.Map.{lookup, remove_entry}
use Rattle.std.specs.Option.{option_or, option_and_then}
use Rattle.std.specs.Ordering.{int_eq}
use Rattle.retro_base.specs.declared.kind.Kind.TheVariants.{Dict}
use Rattle.retro_base.specs.declared.op.Op.{Op}
use Rattle.retro_base.specs.declared.op.Op.TheVariants.{Put, Del}
use Rattle.retro_base.specs.declared.row.Row.{Row}
use Rattle.retro_base.specs.Kind.{kind_of}
use Rattle.retro_base.specs.Replay.{failure}
use Rattle.key_index.specs.declared.key_index.Bad.{Bad}
use Rattle.key_index.specs.declared.key_index.Bad.TheVariants.{Inserted, Present}

-- a row: its label, and its operation
abbrev pub KeyRow : Type 0
KeyRow = ℕ × Op

-- each label is above those before it
abbrev pub LabelsRise : List KeyRow → Type 0
LabelsRise [] = Unit {0}
LabelsRise (row ∷ rows) = AllByRecursion (λ (later : KeyRow). row.0 < later.0) rows × LabelsRise rows

-- labels rise, and all operations are of a dictionary
pub record AreKeyRows (rows : List KeyRow) : Type 0 where
  pub rising : LabelsRise rows
  pub of_dict : AllByRecursion (λ (row : KeyRow). kind_of row.1 ≡ Dict) rows

-- the key of an operation of a dictionary
abbrev pub key_of : Op → ℤ
key_of (Put key value) = key
key_of (Del key) = key
key_of op = pos 0

abbrev pub is_on : ℤ → KeyRow → Bool
is_on key row = int_eq (key_of row.1) key

-- the last element, where there is one
abbrev pub last_of : {A : Type 0} → List A → Option A
last_of [] = None
last_of (x ∷ xs) = option_or (last_of xs) (Some x)

-- the last row on a key below a label, and the first one above it
abbrev pub last_before : ℤ → ℕ → List KeyRow → Option KeyRow
last_before key label rows = last_of (filter (λ row. is_on key row && nat_lt row.0 label) rows)

abbrev pub first_after : ℤ → ℕ → List KeyRow → Option KeyRow
first_after key label rows = find (λ row. is_on key row && nat_lt label row.0) rows

-- the operation of the row with a label, where there is one, and the rows without it
abbrev pub op_at : ℕ → List KeyRow → Option Op
op_at label rows = lookup (λ other. other == label) rows

abbrev pub without : ℕ → List KeyRow → List KeyRow
without label rows = remove_entry (λ other. other == label) rows

-- the rows up to a label, and those after it
abbrev pub up_to : ℕ → List KeyRow → List KeyRow
up_to label rows = filter (λ row. nat_le row.0 label) rows

abbrev pub behind : ℕ → List KeyRow → List KeyRow
behind label rows = filter (λ row. nat_lt label row.0) rows

-- the rows with one more after those up to its label
abbrev pub with_row : ℕ → Op → List KeyRow → List KeyRow
with_row label op rows = up_to label rows ++ (label, op) ∷ behind label rows

-- performing them, as rows of a dictionary
abbrev pub as_row : KeyRow → Row
as_row row = record { number = 0; time = 0; op = row.1 }

abbrev pub failure_of : List KeyRow → Option ℕ
failure_of rows = failure Dict (map as_row rows)

abbrev pub Replays : List KeyRow → Type 0
Replays rows = failure_of rows ≡ None

-- the first row that fails once a row is put in after those up to a label: it is that row, or one that is there
abbrev pub named : List KeyRow → List Bad
named rows = map (λ (row : KeyRow). Present row.0) rows

abbrev pub bad_with : ℕ → Op → List KeyRow → Option Bad
bad_with label op rows =
    option_and_then (slice_get (named (up_to label rows) ++ Inserted ∷ named (behind label rows))) (failure_of (with_row label op rows))

-- the label of the first row that fails
abbrev pub bad_label : List KeyRow → Option ℕ
bad_label rows = option_and_then (slice_get (map (λ (row : KeyRow). row.0) rows)) (failure_of rows)
