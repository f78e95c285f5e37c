-- What a list measures.
use Rattle.std.specs.Prelude.{List, [], ◌∷◌, map}

-- the values joined one after another, and the unit of no values
abbrev pub total : {M : Type 0} → M → (M → M → M) → List M → M
total unit join [] = unit
total unit join (x ∷ xs) = join x (total unit join xs)

-- the measures of these items, joined
abbrev pub measure_of : {A M : Type 0} → M → (M → M → M) → (A → M) → List A → M
measure_of unit join measured items = total unit join (map measured items)
