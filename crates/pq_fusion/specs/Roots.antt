-- What stands at the root of a tree of rows.
use Rattle.std.specs.Prelude.{◌≡◌, List, []}
use Rattle.retro_base.specs.declared.row.Row.{Row}
use Rattle.pq_fusion.specs.declared.root.Root.{Root}
use Rattle.pq_fusion.specs.declared.root.Root.TheVariants.{Nothing, Run, Pair}
use Rattle.pq_fusion.specs.Nodes.{IsRunOf, IsPairOf}

-- nothing where there are no rows, a run or a pair
abbrev pub IsRoot : List Row → Root → Type 0
IsRoot rows Nothing = rows ≡ []
IsRoot rows (Run run) = IsRunOf rows run.now
IsRoot rows (Pair pair) = IsPairOf rows pair.now
