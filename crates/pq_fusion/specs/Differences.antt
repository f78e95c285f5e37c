-- The one entry that a rising list has besides those of another.
use Rattle.std.specs.Prelude.{List, [], ◌∷◌, if◌then◌else◌}
use Rattle.retro_base.specs.declared.row.Entry.{Entry}
use Rattle.retro_base.specs.State.{comes_before}
use Rattle.pq_fusion.specs.declared.bound.Bound.{Bound}
use Rattle.pq_fusion.specs.declared.bound.Bound.TheVariants.{At, Top}

-- the first entry that comes before the one of the other list at its place, or stands behind all of these
abbrev pub besides : List Entry → List Entry → Bound
besides fewer [] = Top
besides [] (y ∷ ys) = At y
besides (x ∷ xs) (y ∷ ys) = if comes_before y x then At y else besides xs ys
