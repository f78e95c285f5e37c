-- Numbers that lie apart stay so where one comes between two of them, and where one goes.
use Rattle.std.proofs.Common.{◌≡◌, ℕ, zero, suc, ◌+◌, ◌-◌, ◌*◌, ◌/◌, ◌<◌, ◌≤◌, List, [], ◌∷◌, ◌++◌, length, refl, arith}
use Rattle.std.specs.List.{insert, remove}
use Rattle.order_labels.specs.Labels.{AreApart, label_before, label_after}

-- the labels beside a place
pub gap_at : (distance first last : ℕ) (labels : List ℕ) (place : ℕ) → place ≤ length labels → AreApart distance first last labels → label_before first labels place + distance ≤ label_after last labels place
gap_at distance first last [] zero within apart = apart
gap_at distance first last [] (suc place) within apart = absurd (omega arith)
gap_at distance first last (label ∷ labels) zero within apart = apart.0
gap_at distance first last (label ∷ labels) (suc place) within apart = gap_at distance label last labels place (omega arith) apart.1

-- the first number is below the last
pub in_order : (distance first last : ℕ) (labels : List ℕ) → AreApart distance first last labels → first + distance ≤ last
in_order distance first last [] apart = apart
in_order distance first last (label ∷ labels) apart = omega (arith, apart.0, in_order distance label last labels apart.1)

-- no label after a place is above the last number
pub after_within : (distance first last : ℕ) (labels : List ℕ) (place : ℕ) → AreApart distance first last labels → label_after last labels place ≤ last
after_within distance first last [] place apart = omega arith
after_within distance first last (label ∷ labels) zero apart = omega (arith, in_order distance label last labels apart.1)
after_within distance first last (label ∷ labels) (suc place) apart = after_within distance label last labels place apart.1

-- a label that lies apart from both neighbours
pub apart_with : (distance first last : ℕ) (labels : List ℕ) (place label : ℕ) → place ≤ length labels → AreApart distance first last labels
    → label_before first labels place + distance ≤ label → label + distance ≤ label_after last labels place → AreApart distance first last (insert labels place label)
apart_with distance first last [] zero label within apart before after = (before, after)
apart_with distance first last [] (suc place) label within apart before after = absurd (omega arith)
apart_with distance first last (next ∷ labels) zero label within apart before after = (before, (after, apart.1))
apart_with distance first last (next ∷ labels) (suc place) label within apart before after =
    (apart.0, apart_with distance next last labels place label (omega arith) apart.1 before after)

from_lower : (distance first lower last : ℕ) (labels : List ℕ) → lower ≤ first → AreApart distance first last labels → AreApart distance lower last labels
from_lower distance first lower last [] order apart = omega arith
from_lower distance first lower last (label ∷ labels) order apart = (omega (arith, apart.0), apart.1)

-- one label less
pub apart_without : (distance first last : ℕ) (labels : List ℕ) (place : ℕ) → place < length labels → AreApart distance first last labels → AreApart distance first last (remove labels place)
apart_without distance first last [] place within apart = absurd (omega arith)
apart_without distance first last (label ∷ labels) zero within apart = from_lower distance label first last labels (omega (arith, apart.0)) apart.1
apart_without distance first last (label ∷ labels) (suc place) within apart = (apart.0, apart_without distance label last labels place (omega arith) apart.1)

-- they lie less far apart too
pub less_apart : (distance lesser first last : ℕ) (labels : List ℕ) → lesser ≤ distance → AreApart distance first last labels → AreApart lesser first last labels
less_apart distance lesser first last [] order apart = omega arith
less_apart distance lesser first last (label ∷ labels) order apart = (omega (arith, apart.0), less_apart distance lesser label last labels order apart.1)

-- they lie as far apart below a greater number
pub below_more : (distance first last more : ℕ) (labels : List ℕ) → last ≤ more → AreApart distance first last labels → AreApart distance first more labels
below_more distance first last more [] order apart = omega arith
below_more distance first last more (label ∷ labels) order apart = (apart.0, below_more distance label last more labels order apart.1)

-- and half as far with as much left at the end
pub halves_apart : (distance first last : ℕ) (labels : List ℕ) → AreApart (2 * distance) first last labels → AreApart distance first (last - distance) labels
halves_apart distance first last [] apart = omega arith
halves_apart distance first last (label ∷ labels) apart = (omega (arith, apart.0), halves_apart distance label last labels apart.1)

-- the label at a place, and the last number after them all
pub next_inside : (last other : ℕ) (labels : List ℕ) (place : ℕ) → place < length labels → label_after last labels place ≡ label_after other labels place
next_inside last other [] place within = absurd (omega arith)
next_inside last other (label ∷ labels) zero within = refl
next_inside last other (label ∷ labels) (suc place) within = next_inside last other labels place (omega arith)

pub next_at_end : (last : ℕ) (labels : List ℕ) (place : ℕ) → place ≡ length labels → label_after last labels place ≡ last
next_at_end last [] place same = refl
next_at_end last (label ∷ labels) zero same = absurd (omega arith)
next_at_end last (label ∷ labels) (suc place) same = next_at_end last labels place (omega arith)

-- the label at a place stands before the next place
pub next_before : (first last : ℕ) (labels : List ℕ) (place : ℕ) → place < length labels → label_after last labels place ≡ label_before first labels (suc place)
next_before first last [] place within = absurd (omega arith)
next_before first last (label ∷ labels) zero within = refl
next_before first last (label ∷ labels) (suc place) within = next_before label last labels place (omega arith)

-- one label more at the end
pub apart_more : (distance first last : ℕ) (labels : List ℕ) (label : ℕ) → AreApart distance first label labels → label + distance ≤ last → AreApart distance first last (labels ++ label ∷ [])
apart_more distance first last [] label apart after = (apart, after)
apart_more distance first last (next ∷ labels) label apart after = (apart.0, apart_more distance next last labels label apart.1 after)

-- the middle of two numbers lies half as far from both
pub middle_apart : (distance before after : ℕ) → before + 2 * distance ≤ after → (before + distance ≤ (before + after) / 2) × ((before + after) / 2 + distance ≤ after)
middle_apart distance before after far = (omega arith, omega arith)
