-- The bench: the timelines that a script has made, in the order in which it made them, and the block that is being read.
use Rattle.std.specs.Prelude.{ℕ, Bool, List, [], length, Option, None}
use Rattle.std.specs.List.{find, list_any}
use Rattle.std.specs.Str.{bytes_eq}
use Rattle.retro_base.specs.declared.kind.Kind.{Kind}
use Rattle.retro_base.specs.declared.row.Row.{Row}
use Rattle.retro_base.specs.Replay.{present}
use Rattle.retro_base.specs.State.{State, items, pairs, entries}
use Rattle.retro_base.specs.History.{History, no_history}
use Rattle.timeline_file.specs.Block.{Block}

-- a timeline: its name, its kind, its rows, the number that the next row draws, and what can be undone of it and redone
pub record NamedTimeline : Type 0 where
  pub name : List ℕ
  pub kind : Kind
  pub rows : List Row
  pub next : ℕ
  pub history : History

-- a block that is being read: the name that its header gives, and what it comes to so far
pub record OpenBlock : Type 0 where
  pub name : List ℕ
  pub block : Block

-- the bench: its timelines, and the block that is being read, if there is one
pub record Bench : Type 0 where
  pub timelines : List NamedTimeline
  pub block : Option OpenBlock

-- the bench before the first line
abbrev pub empty_bench : Bench
empty_bench = record { timelines = []; block = None }

-- a bench, and whether it met out of memory
pub record BenchState : Type 0 where
  pub bench : Bench
  pub spent : Bool

-- a timeline with rows of which nothing can be undone
abbrev pub with_rows : List ℕ → Kind → ℕ → List Row → NamedTimeline
with_rows name kind next rows = record { name = name; kind = kind; rows = rows; next = next; history = no_history }

-- a timeline without rows
abbrev pub fresh : List ℕ → Kind → NamedTimeline
fresh name kind = with_rows name kind 1 []

-- a timeline has the name
abbrev pub is_named : List ℕ → NamedTimeline → Bool
is_named name timeline = bytes_eq timeline.name name

-- the timeline of the name, where one has it
abbrev pub timeline_of : List ℕ → List NamedTimeline → Option NamedTimeline
timeline_of name timelines = find (is_named name) timelines

-- one of the timelines has the name
abbrev pub has_timeline : List ℕ → List NamedTimeline → Bool
has_timeline name timelines = list_any (is_named name) timelines

-- how many rows a timeline has
abbrev pub row_count : NamedTimeline → ℕ
row_count timeline = length timeline.rows

-- how many items, pairs or entries a state holds
abbrev pub size_of : State → ℕ
size_of (items xs) = length xs
size_of (pairs ps) = length ps
size_of (entries es) = length es

-- how many a timeline holds after all its rows
abbrev pub present_size : NamedTimeline → ℕ
present_size timeline = size_of (present timeline.kind timeline.rows)
