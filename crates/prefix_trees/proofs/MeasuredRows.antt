-- What the tree measures of a range of rows, in the words of the growth of the line.
use Rattle.std.proofs.Common.{◌≡◌, ℕ, ◌-◌, ℤ, ◌-ℤ◌, List, [], ◌∷◌, take, drop, refl, sym, ap, ◌∙◌, arith}
use Rattle.std.specs.List.{slice_range}
use Rattle.std.specs.Int.Signed.{le_z}
use Rattle.std.proofs.lemmas.Int.{ints}
use Rattle.std.proofs.lemmas.List.{take-map, drop-map}
use Rattle.monoid_laws.specs.Walk.{Walk, no_walk, one_step, joined_walk, walk_of, end_of}
use Rattle.monoid_laws.specs.WalkLaws.{end-walk_of}
use Rattle.monoid_laws.specs.Both.{joined_both}
use Rattle.monoid_laws.specs.Measure.{measure_of}
use Rattle.monoid_laws.specs.Summed.{sum_of}
use Rattle.retro_base.specs.declared.op.Op.{Op}
use Rattle.retro_base.specs.declared.row.Row.{Row}
use Rattle.prefix_trees.specs.declared.growth.End.{End}
use Rattle.prefix_trees.specs.declared.growth.End.TheVariants.{Left, Right}
use Rattle.prefix_trees.specs.Growth.{sign_of, left_growth, right_growth, growth_at, growths, grown}
use Rattle.prefix_trees.specs.Walks.{row_walks, walk_at}

-- the walks of these rows
abbrev pub walks_of : List Row → Walk × (Walk × Walk)
walks_of rows = measure_of (no_walk, (no_walk, no_walk)) (joined_both joined_walk (joined_both joined_walk joined_walk)) row_walks rows

whole_walk : (rows : List Row) → (walks_of rows).0 ≡ walk_of (growths sign_of rows)
whole_walk [] = refl
whole_walk (row ∷ rows) = ap (joined_walk (one_step (sign_of row.op))) (whole_walk rows)

end_walk : (end : End) (rows : List Row) → walk_at end (walks_of rows) ≡ walk_of (growths (growth_at end) rows)
end_walk Left [] = refl
end_walk Right [] = refl
end_walk Left (row ∷ rows) = ap (joined_walk (one_step (left_growth row.op))) (end_walk Left rows)
end_walk Right (row ∷ rows) = ap (joined_walk (one_step (right_growth row.op))) (end_walk Right rows)

module _ (rows : List Row) (from to : ℕ) where
  growths_range : (growth : Op → ℤ) → growths growth (slice_range rows from to) ≡ slice_range (growths growth rows) from to
  growths_range growth = sym (take-map (λ (row : Row). growth row.op) (to - from) (drop from rows)) ∙ ap (take (to - from)) (sym (drop-map (λ (row : Row). growth row.op) from rows))

  -- the walks of a range of rows
  pub range-whole : (walks_of (slice_range rows from to)).0 ≡ walk_of (slice_range (growths sign_of rows) from to)
  range-whole = whole_walk (slice_range rows from to) ∙ ap walk_of (growths_range sign_of)

  pub range-end : (end : End) → walk_at end (walks_of (slice_range rows from to)) ≡ walk_of (slice_range (growths (growth_at end) rows) from to)
  range-end end = end_walk end (slice_range rows from to) ∙ ap walk_of (growths_range (growth_at end))

-- the size after the first rows
pub size-is : (rows : List Row) (place : ℕ) → end_of (walks_of (slice_range rows 0 place)).0 ≡ grown sign_of rows place
size-is rows place =
    ap end_of (range-whole rows 0 place) ∙ end-walk_of (slice_range (growths sign_of rows) 0 place) ∙ ap (λ n. sum_of (take n (growths sign_of rows))) (let same : place - 0 ≡ place = omega arith in same)

-- so much at least is so much less at most
pub from_end : (end count rise : ℤ) → le_z count rise ≡ le_z (end -ℤ rise) (end -ℤ count)
from_end end count rise = grind (arith, ints)
