-- Laws of `measure_of`, over any monoid. They stand here for the layer above: its proofs cite them.
use Rattle.std.proofs.Common.{◌≡◌, ℕ, List, [], ◌∷◌, ◌++◌, length, sym, ap, ◌∙◌, arith}
use Rattle.monoids.specs.Laws.{MonoidLaws}
use Rattle.monoids.specs.Measure.{measure_of}

module _ {A M : Type 0} {items : M → ℕ} {unit : M} {join : M → M → M} (laws : MonoidLaws items unit join) (measured : A → M) where
  -- two ranges, one after the other
  pub measure_of-append : (xs ys : List A) → measure_of unit join measured (xs ++ ys) ≡ join (measure_of unit join measured xs) (measure_of unit join measured ys)
  measure_of-append [] ys = sym (laws.left_unit (measure_of unit join measured ys))
  measure_of-append (x ∷ xs) ys =
      ap (join (measured x)) (measure_of-append xs ys)
      ∙ sym (laws.assoc (measured x) (measure_of unit join measured xs) (measure_of unit join measured ys))

  -- two ranges and an item between them
  pub measure_of-around : (xs ys : List A) (x : A) → measure_of unit join measured (xs ++ x ∷ ys) ≡ join (join (measure_of unit join measured xs) (measured x)) (measure_of unit join measured ys)
  measure_of-around xs ys x =
      measure_of-append xs (x ∷ ys)
      ∙ sym (laws.assoc (measure_of unit join measured xs) (measured x) (measure_of unit join measured ys))

  -- as many items as the list has
  pub items-measure_of : ((x : A) → items (measured x) ≡ 1) → (xs : List A) → items (measure_of unit join measured xs) ≡ length xs
  items-measure_of single [] = laws.unit_items
  items-measure_of single (x ∷ xs) = omega (arith, laws.join_items (measured x) (measure_of unit join measured xs), single x, items-measure_of single xs)
