-- Labels that keep the places of a list, and the rules by which an insertion gets one.
use Rattle.std.specs.Prelude.{ℕ, zero, suc, ◌+◌, ◌-◌, ◌*◌, ◌/◌, ◌^◌, ◌≤◌, Bool, nat_le, Option, Some, None, List, [], ◌∷◌, ◌++◌, length, get_or, if◌then◌else◌}
use Rattle.std.specs.List.{insert}
use Rattle.std.specs.Option.{option_map_or}
use Rattle.costs.specs.Digits.{digits}
use Rattle.retro_base.specs.Limits.{most_rows}

-- the binary digits of a label
abbrev pub label_width : ℕ
label_width = 40

-- labels are below it
abbrev pub label_limit : ℕ
label_limit = 2 ^ label_width

-- from `first` over the labels to `last`, each number is at least so far above the one before it
abbrev pub AreApart : ℕ → ℕ → ℕ → List ℕ → Type 0
AreApart distance first last [] = first + distance ≤ last
AreApart distance first last (label ∷ labels) = (first + distance ≤ label) × AreApart distance label last labels

-- labels rise strictly, each above 0 and below the limit
pub record AreLabels (labels : List ℕ) : Type 0 where
  pub few : length labels ≤ most_rows
  pub rising : AreApart 1 0 label_limit labels

-- the label before a place, where `first` stands before them all
abbrev pub label_before : ℕ → List ℕ → ℕ → ℕ
label_before first labels zero = first
label_before first [] (suc place) = first
label_before first (label ∷ labels) (suc place) = label_before label labels place

-- the label after a place, where `last` stands after them all
abbrev pub label_after : ℕ → List ℕ → ℕ → ℕ
label_after last labels place = get_or labels place last

-- a number lies between the labels before and after the place
abbrev pub has_room : List ℕ → ℕ → Bool
has_room labels place = nat_le 2 (label_after label_limit labels place - label_before 0 labels place)

-- the middle of these labels
abbrev pub middle : List ℕ → ℕ → ℕ
middle labels place = (label_before 0 labels place + label_after label_limit labels place) / 2

-- the greatest k for which the power 2 ^ k is at most n
abbrev pub exponent : ℕ → ℕ
exponent n = digits n - 1

-- how far labels are spread: the greatest power of two of which one more than so many fit below the limit
unfoldable pub gap_of : ℕ → ℕ
gap_of count = 2 ^ exponent (label_limit / (count + 1))

-- how far apart they lie at the least: as far as those of as many rows as there may be
abbrev pub least_gap : ℕ
least_gap = gap_of most_rows

-- the first multiples of a number: (i + 1) * gap at index i
abbrev pub multiples : ℕ → ℕ → List ℕ
multiples gap zero = []
multiples gap (suc count) = multiples gap count ++ (count + 1) * gap ∷ []

-- so many labels, spread over the numbers below the limit
abbrev pub spread : ℕ → List ℕ
spread count = multiples (gap_of count) count

-- a rule says which label a row gets that is put in at a place, or that none is left
abbrev pub LabelRule : Type 0
LabelRule = List ℕ → ℕ → Option ℕ

-- the simplest rule: the middle of the labels beside the place, where a number lies between them
abbrev pub middle_rule : LabelRule
middle_rule labels place = if has_room labels place then Some (middle labels place) else None

-- the labels once a place has got one by a rule: the others stay, or all are spread where none is left
abbrev pub inserted_by : LabelRule → List ℕ → ℕ → List ℕ
inserted_by rule labels place = option_map_or (λ label. insert labels place label) (rule labels place) (spread (length labels + 1))

-- by the simplest rule
abbrev pub inserted : List ℕ → ℕ → List ℕ
inserted labels place = inserted_by middle_rule labels place
