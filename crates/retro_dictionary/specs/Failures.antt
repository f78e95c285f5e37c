-- The place of the first row that fails, where its label is known.
use Rattle.std.specs.Prelude.{ℕ, ◌+◌, ◌-◌, ◌==◌, nat_lt, Option, Some, None, List, position, if◌then◌else◌}
use Rattle.std.specs.Option.{option_map}
use Rattle.key_index.specs.declared.key_index.Bad.{Bad}
use Rattle.key_index.specs.declared.key_index.Bad.TheVariants.{Inserted, Present}

-- the place of a row once one more is put in at a place, or the one at a place is taken out
abbrev pub moved_up : ℕ → ℕ → ℕ
moved_up place index = if nat_lt index place then index else index + 1

abbrev pub moved_down : ℕ → ℕ → ℕ
moved_down place index = if nat_lt place index then index - 1 else index

-- the place of the row with a label
abbrev pub place_of : ℕ → List ℕ → Option ℕ
place_of label labels = position (λ other. other == label) labels

-- the place of the first row that fails
abbrev pub place_of_bad : List ℕ → ℕ → Option Bad → Option ℕ
place_of_bad labels place None = None
place_of_bad labels place (Some Inserted) = Some place
place_of_bad labels place (Some (Present label)) = option_map (moved_up place) (place_of label labels)

abbrev pub place_of_bad_label : List ℕ → ℕ → Option ℕ → Option ℕ
place_of_bad_label labels place None = None
place_of_bad_label labels place (Some label) = option_map (moved_down place) (place_of label labels)
