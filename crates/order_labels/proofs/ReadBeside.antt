-- What a read writes of the labels beside a place.
use Rattle.std.proofs.Common.{◌≡◌, ℕ, zero, suc, ◌+◌, ◌-◌, ◌≤◌, min, List, [], ◌∷◌, length, map, take, drop, slice_index_or, refl, ap, sym, subst, ◌∙◌, arith}
use borrow.Rule.Slice.PartMut.{mid_of, put_mid}
use Rattle.order_labels.specs.declared.labels_beside.LabelsBeside.{LabelsBeside}
use Rattle.weighted_tree.specs.Reads.{overwritten}
use Rattle.weighted_tree.specs.ReadLaws.{after_read, read_from}
use Rattle.order_labels.specs.Labels.{label_before, label_after, label_limit}
use Rattle.order_labels.specs.LabelsBeside.{IsBeside}

-- what stands there before
abbrev ends : List ℕ
ends = 0 ∷ 0 ∷ label_limit ∷ label_limit ∷ []

-- its end, for a read that begins so many labels before the place, and the whole after it
abbrev lent : ℕ → List ℕ
lent count = mid_of (2 - count) (4 - (2 - count)) ends

abbrev whole : ℕ → List ℕ → List ℕ
whole count read = put_mid (2 - count) (4 - (2 - count)) ends read

abbrev read_of : ℕ → List ℕ → List ℕ
read_of count labels = after_read (λ (label : ℕ). label) labels (lent count)

-- the labels beside a place, by the places of the first and the last of them
abbrev labels_at : ℕ → List ℕ → ℕ → ℕ → ℕ → List ℕ
labels_at first labels former place later = label_before first labels former ∷ label_before first labels place ∷ label_after label_limit labels place ∷ label_after label_limit labels later ∷ []

first_place : (labels : List ℕ) → whole 0 (read_of 0 labels) ≡ labels_at 0 labels 0 0 1
first_place [] = refl
first_place (after ∷ []) = refl
first_place (after ∷ later ∷ labels) = refl

second_place : (before : ℕ) (labels : List ℕ) → whole 1 (read_of 1 (before ∷ labels)) ≡ labels_at 0 (before ∷ labels) 0 1 2
second_place before [] = refl
second_place before (after ∷ []) = refl
second_place before (after ∷ later ∷ labels) = refl

later_place : (first : ℕ) (labels : List ℕ) (place : ℕ) → place + 2 ≤ length labels → whole 2 (read_of 2 (drop place labels)) ≡ labels_at first labels (suc place) (suc (suc place)) (suc (suc (suc place)))
later_place first [] place within = absurd (omega arith)
later_place first (former ∷ []) place within = absurd (omega arith)
later_place first (former ∷ before ∷ []) zero within = refl
later_place first (former ∷ before ∷ after ∷ []) zero within = refl
later_place first (former ∷ before ∷ after ∷ later ∷ labels) zero within = refl
later_place first (label ∷ labels) (suc place) within = later_place label labels place (omega arith)

each_place : (labels : List ℕ) (place : ℕ) → place ≤ length labels → whole (min place 2) (read_of (min place 2) (drop (place - min place 2) labels)) ≡ labels_at 0 labels (place - 1) place (place + 1)
each_place labels zero within = first_place labels
each_place [] (suc place) within = absurd (omega arith)
each_place (before ∷ labels) (suc zero) within = second_place before labels
each_place labels (suc (suc place)) within =
    let two : min (suc (suc place)) 2 ≡ 2 = omega arith in
    let from : suc (suc place) - 2 ≡ place = omega arith in
    let former : suc (suc place) - 1 ≡ suc place = omega arith in
    let later : suc (suc place) + 1 ≡ suc (suc (suc place)) = omega arith in
    rw (two, from, former, later) (later_place 0 labels place (omega arith))

abbrev beside_of : List ℕ → LabelsBeside
beside_of labels = record { former = slice_index_or labels 0 0; before = slice_index_or labels 1 0; after = slice_index_or labels 2 0; later = slice_index_or labels 3 0 }

pub beside_read : (labels : List ℕ) (place count number : ℕ) (read : List ℕ) → place ≤ length labels → count ≡ min place 2 → number ≡ min (length labels - (place - count)) (length (lent count))
    → read ≡ overwritten (lent count) 0 (map (λ (label : ℕ). label) (take number (drop (place - count) labels))) → IsBeside labels place (beside_of (whole count read))
beside_read labels place count number read within few many is =
    let all : whole count read ≡ labels_at 0 labels (place - 1) place (place + 1) =
    ap (whole count) (read_from (λ (label : ℕ). label) labels (place - count) number (lent count) read many is) ∙ rw few (each_place labels place within) in
    subst (λ read. IsBeside labels place (beside_of read)) (sym all) (record { former = refl; before = refl; after_it = refl; later = refl })
