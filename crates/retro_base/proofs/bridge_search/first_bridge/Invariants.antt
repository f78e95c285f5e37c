use Rattle.std.specs.Prelude.{◌≡◌, ◌≤◌}
use Rattle.retro_base.specs.Bridges.{first_bridge}
use Rattle.retro_base.proofs.bridges.Search.{HoldsDead}
use Rattle.retro_base.proofs.bridge_search.first_bridge.Given as goal

abbrev pub invariant-loop-index : goal.invariant-loop-index
invariant-loop-index l = record { held : HoldsDead l.rows l.index l.dead; none : l.place ≤ l.index → first_bridge l.rows l.place ≡ first_bridge l.rows l.index }
