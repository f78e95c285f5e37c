-- How the lifetimes of a dictionary change by an edit: a row at a label ends the pair that the last row before it on its key put.
use Rattle.std.specs.Prelude.{ℕ, ℤ, Option, Some, None, List, [], ◌∷◌}
use Rattle.std.specs.Option.{option_map}
use Rattle.key_index.specs.KeyRows.{KeyRow}
use Rattle.lifetime_segments.specs.declared.lifetime.Lifetime.{Lifetime}
use Rattle.lifetime_segments.specs.Lifetimes.{lifetime}
use Rattle.retro_dictionary.specs.Lifetimes.{put_by}

-- a pair, and the label of the row that put it
abbrev pub Placed : Type 0
Placed = ℕ × (ℤ × ℤ)

-- what a row puts
abbrev pub placed_by : KeyRow → Option Placed
placed_by row = option_map (λ pair. (row.0, pair)) (put_by row.1)

-- the lifetime of a pair that is there up to a label
abbrev pub up_to_label : Option Placed → ℕ → List (Lifetime (ℤ × ℤ))
up_to_label None to = []
up_to_label (Some placed) to = lifetime placed.0 to placed.1 ∷ []
