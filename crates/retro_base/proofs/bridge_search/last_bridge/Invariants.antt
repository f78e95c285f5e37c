use Rattle.std.specs.Prelude.{◌≡◌, ◌≤◌}
use Rattle.retro_base.specs.Bridges.{last_bridge}
use Rattle.retro_base.proofs.bridges.Search.{HoldsDead}
use Rattle.retro_base.proofs.bridge_search.last_bridge.Given as goal

abbrev pub invariant-loop-index : goal.invariant-loop-index
invariant-loop-index l = record { held : HoldsDead l.fn.rows l.index l.dead; last : l.bridge ≡ last_bridge l.fn.rows l.index; within : l.bridge ≤ l.index }
