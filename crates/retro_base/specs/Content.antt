-- What a plain list keeps beside its rows.
use Rattle.std.specs.Prelude.{◌≡◌, List, Ok}
use Rattle.retro_base.specs.declared.kind.Kind.{Kind}
use Rattle.retro_base.specs.declared.row.Row.{Row}
use Rattle.retro_base.specs.declared.content.Content.{Content}
use Rattle.retro_base.specs.declared.content.Content.TheVariants.{Line, Pairs, Entries}
use Rattle.retro_base.specs.State.{State, items, pairs, entries, empty}
use Rattle.retro_base.specs.Replay.{run}
use Rattle.retro_base.specs.Timeline.{IsReplayable}

-- the state that is held
abbrev pub state_of : Content → State
state_of (Line line) = items line.items
state_of (Pairs map) = pairs map.entries
state_of (Entries held) = entries held

-- the rows of a structure, with the state after them
pub record RepresentsRows (kind : Kind) (rows : List Row) (state : State) : Type 0 where
  pub replayable : IsReplayable kind rows
  pub kept : run rows (empty kind) ≡ Ok state
