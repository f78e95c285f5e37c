-- What holds of the rows of every timeline, and of the rows that a structure keeps.
use Rattle.std.specs.Prelude.{◌≡◌, ◌≢◌, ℕ, ◌<◌, ◌≤◌, List, [], ◌∷◌, length}
use Rattle.std.specs.List.{AllByRecursion}
use Rattle.retro_base.specs.declared.kind.Kind.{Kind}
use Rattle.retro_base.specs.declared.row.Row.{Row}
use Rattle.retro_base.specs.Limits.{most_rows, next_limit}
use Rattle.retro_base.specs.Kind.{kind_of}
use Rattle.retro_base.specs.Replay.{IsValid}

-- what a structure is seen as: its kind, and the rows that it performs
pub record Structure : Type 0 where
  pub kind : Kind
  pub rows : List Row

-- no row has the number
abbrev pub IsFresh : ℕ → List Row → Type 0
IsFresh number rows = AllByRecursion (λ row. row.number ≢ number) rows

-- each row has a number of its own
abbrev pub HaveOwnNumbers : List Row → Type 0
HaveOwnNumbers [] = Unit {0}
HaveOwnNumbers (row ∷ rows) = IsFresh row.number rows × HaveOwnNumbers rows

-- all rows are of the kind
abbrev pub AreOfKind : Kind → List Row → Type 0
AreOfKind kind rows = AllByRecursion (λ row. kind_of row.op ≡ kind) rows

-- rows of one kind, with numbers of their own, that replay whole
pub record IsReplayable (kind : Kind) (rows : List Row) : Type 0 where
  pub few : length rows ≤ most_rows
  pub of_kind : AreOfKind kind rows
  pub own_numbers : HaveOwnNumbers rows
  pub valid : IsValid kind rows

-- no row is earlier than one before it
abbrev pub TimesNeverFall : List Row → Type 0
TimesNeverFall [] = Unit {0}
TimesNeverFall (row ∷ rows) = AllByRecursion (λ later. row.time ≤ later.time) rows × TimesNeverFall rows

-- a timeline: a history whose times never fall, and whose numbers are from 1 to below next
pub record IsTimeline (kind : Kind) (rows : List Row) (next : ℕ) : Type 0 where
  pub replayable : IsReplayable kind rows
  pub in_order : TimesNeverFall rows
  pub numbered : AllByRecursion (λ row. (1 ≤ row.number) × (row.number < next)) rows
  pub next_in_range : (1 ≤ next) × (next ≤ next_limit)
