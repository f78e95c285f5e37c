-- How long the pairs of a dictionary are there: from the label of a put to that of the next row on its key.
use Rattle.std.specs.Prelude.{ℕ, ℤ, Option, Some, None, List, [], ◌∷◌, ◌++◌, if◌then◌else◌}
use Rattle.retro_base.specs.declared.op.Op.{Op}
use Rattle.retro_base.specs.declared.op.Op.TheVariants.{Put}
use Rattle.key_index.specs.KeyRows.{KeyRow, is_on}
use Rattle.lifetime_segments.specs.declared.lifetime.Lifetime.{Lifetime}
use Rattle.lifetime_segments.specs.Lifetimes.{label_end, lifetime}

-- the label of the first row on a key, or the end of all labels where there is none
abbrev pub end_of : ℤ → List KeyRow → ℕ
end_of key [] = label_end
end_of key (row ∷ rows) = if is_on key row then row.0 else end_of key rows

-- the pair that an operation puts, where it puts one
abbrev pub put_by : Op → Option (ℤ × ℤ)
put_by (Put key value) = Some (key, value)
put_by op = None

-- a pair that is put at a label is there up to the next row on its key
abbrev pub begun : ℕ → Option (ℤ × ℤ) → List KeyRow → List (Lifetime (ℤ × ℤ))
begun label None rows = []
begun label (Some pair) rows = lifetime label (end_of pair.0 rows) pair ∷ []

-- the lifetimes of all pairs
abbrev pub lifetimes_of : List KeyRow → List (Lifetime (ℤ × ℤ))
lifetimes_of [] = []
lifetimes_of (row ∷ rows) = begun row.0 (put_by row.1) rows ++ lifetimes_of rows
