-- A range of a node's items, seen from the side that it lies in: what a walk down the tree keeps.
use Rattle.std.proofs.Common.{◌≡◌, ℕ, suc, ◌+◌, ◌-◌, ◌<◌, ◌≤◌, List, ◌∷◌, ◌++◌, sym, ap, ◌∙◌, arith, take, drop, length, length-append}
use Rattle.monoids.specs.Laws.{MonoidLaws}
use Rattle.monoids.specs.Measure.{measure_of}
use Rattle.weighted_tree.proofs.Joins.{join_around, around_join}
use Rattle.weighted_tree.proofs.Ranges.{take-before, take-after, drop-before, drop-after}

-- the sizes of the sides
pub sizes_of : {A : Type 0} (items left right : List A) (item : A) → items ≡ left ++ item ∷ right → length items ≡ length left + suc (length right)
sizes_of items left right item split = ap length split ∙ length-append left (item ∷ right)

module _ {A M : Type 0} {count : M → ℕ} {unit : M} {join : M → M → M} (laws : MonoidLaws count unit join) (measured : A → M) (items left right : List A)
    (item : A) (split : items ≡ left ++ item ∷ right) (passed whole : M) (rest : ℕ) where
  -- the first items, after what was passed
  module _ (value : join passed (measure_of unit join measured (take rest items)) ≡ whole) where
    pub first-left : rest ≤ length left → join passed (measure_of unit join measured (take rest left)) ≡ whole
    first-left within =
        ap (λ xs. join passed (measure_of unit join measured xs)) (sym (ap (take rest) split ∙ take-before left right item rest within))
        ∙ value

    pub first-right : length left < rest → (less : ℕ) → less ≡ rest - length left - 1 → (next : M) → next
        ≡ join (join passed (measure_of unit join measured left)) (measured item) → join next (measure_of unit join measured (take less right)) ≡ whole
    first-right beyond less less_is next next_is =
        ap (λ m. join m (measure_of unit join measured (take less right))) next_is
        ∙ join_around laws measured passed left (take less right) item
        ∙ ap (λ k. join passed (measure_of unit join measured (left ++ item ∷ take k right))) less_is
        ∙ ap (λ xs. join passed (measure_of unit join measured xs)) (sym (ap (take rest) split ∙ take-after left right item rest beyond))
        ∙ value

  -- the last items, in front of what was passed
  module _ (value : join (measure_of unit join measured (drop (length items - rest) items)) passed ≡ whole) where
    sizes : length items ≡ length left + suc (length right)
    sizes = sizes_of items left right item split

    pub last-right : rest ≤ length right → join (measure_of unit join measured (drop (length right - rest) right)) passed ≡ whole
    last-right within =
        let from = length items - rest in
        let less : from - length left - 1 ≡ length right - rest = omega (arith, sizes) in
        ap (λ k. join (measure_of unit join measured (drop k right)) passed) (sym less)
        ∙ ap (λ xs. join (measure_of unit join measured xs) passed) (sym (ap (drop from) split ∙ drop-after left right item from (omega (arith, sizes))))
        ∙ value

    pub last-left : length right < rest → (less : ℕ) → less ≡ rest - length right - 1 → (next : M) → next
        ≡ join (measured item) (join (measure_of unit join measured right) passed) → join (measure_of unit join measured (drop (length left - less) left)) next
        ≡ whole
    last-left beyond less less_is next next_is =
        let from = length items - rest in
        let same : length left - less ≡ from = omega (arith, sizes) in
        ap (join (measure_of unit join measured (drop (length left - less) left))) next_is
        ∙ around_join laws measured (drop (length left - less) left) right item passed
        ∙ ap (λ k. join (measure_of unit join measured (drop k left ++ item ∷ right)) passed) same
        ∙ ap (λ xs. join (measure_of unit join measured xs) passed) (sym (ap (drop from) split ∙ drop-before left right item from (omega (arith, sizes))))
        ∙ value
