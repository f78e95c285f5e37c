-- What a range of rows measures: three walks, of the growth of the whole line, at its left end and at its right end.
use Rattle.std.specs.Prelude.{◌≡◌, ℤ, pos, negsuc, refl}
use Rattle.retro_base.specs.declared.row.Row.{Row}
use Rattle.monoid_laws.specs.Walk.{Walk, one_step}
use Rattle.prefix_trees.specs.declared.growth.End.{End}
use Rattle.prefix_trees.specs.declared.growth.End.TheVariants.{Left, Right}
use Rattle.prefix_trees.specs.Growth.{sign_of, left_growth, right_growth}

-- one row
abbrev pub row_walks : Row → Walk × (Walk × Walk)
row_walks row = (one_step (sign_of row.op), (one_step (left_growth row.op), one_step (right_growth row.op)))

pub one_step-items : (x : ℤ) → (one_step x).items ≡ 1
one_step-items (pos n) = refl
one_step-items (negsuc n) = refl

pub row_walks-items : (row : Row) → (row_walks row).0.items ≡ 1
row_walks-items row = one_step-items (sign_of row.op)

-- the walk of the growth at an end
abbrev pub walk_at : End → Walk × (Walk × Walk) → Walk
walk_at Left walks = walks.1.0
walk_at Right walks = walks.1.1
