-- Rows that are given other labels, which keep their order.
use Rattle.std.specs.Prelude.{◌≡◌, ℕ, ◌<◌, ◌==◌, Bool, true, List, [], ◌∷◌, map, if◌then◌else◌}
use Rattle.std.specs.List.{AllByRecursion, list_any}
use Rattle.key_index.specs.KeyRows.{KeyRow}

-- each number is above those before it
abbrev pub Rise : List ℕ → Type 0
Rise [] = Unit {0}
Rise (label ∷ labels) = AllByRecursion (λ later. label < later) labels × Rise labels

-- what stands in the second list where a label stands in the first
abbrev pub counterpart : List ℕ → List ℕ → ℕ → ℕ
counterpart [] fresh label = label
counterpart (old ∷ former) [] label = label
counterpart (old ∷ former) (new ∷ fresh) label = if old == label then new else counterpart former fresh label

-- each row with the counterpart of its label
abbrev pub relabelled : List ℕ → List ℕ → List KeyRow → List KeyRow
relabelled former fresh rows = map (λ (row : KeyRow). (counterpart former fresh row.0, row.1)) rows

-- the label is in the list
abbrev pub is_in : List ℕ → ℕ → Bool
is_in labels label = list_any (λ other. other == label) labels

-- the label of each row is in the list
abbrev pub HoldsLabels : List ℕ → List KeyRow → Type 0
HoldsLabels labels rows = AllByRecursion (λ (row : KeyRow). is_in labels row.0 ≡ true) rows
