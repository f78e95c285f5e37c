-- Measures joined after another one.
use Rattle.std.proofs.Common.{◌≡◌, ℕ, ◌∷◌, ◌++◌, List, sym, ap, ◌∙◌}
use Rattle.monoids.specs.Laws.{MonoidLaws}
use Rattle.monoids.specs.Measure.{measure_of}
use Rattle.monoids.specs.MeasureLaws.{measure_of-around}

module _ {A M : Type 0} {items : M → ℕ} {unit : M} {join : M → M → M} (laws : MonoidLaws items unit join) (measured : A → M) where
  -- a range, an item and a range after a measure
  pub join_around : (before : M) (xs ys : List A) (x : A) → join (join (join before (measure_of unit join measured xs)) (measured x))
      (measure_of unit join measured ys) ≡ join before (measure_of unit join measured (xs ++ x ∷ ys))
  join_around before xs ys x =
      ap (λ m. join m (measure_of unit join measured ys)) (laws.assoc before (measure_of unit join measured xs) (measured x))
      ∙ laws.assoc before (join (measure_of unit join measured xs) (measured x)) (measure_of unit join measured ys)
      ∙ ap (join before) (sym (measure_of-around laws measured xs ys x))

  -- the same before a measure
  pub around_join : (xs ys : List A) (x : A) (after : M) → join (measure_of unit join measured xs)
      (join (measured x) (join (measure_of unit join measured ys) after)) ≡ join (measure_of unit join measured (xs ++ x ∷ ys)) after
  around_join xs ys x after =
      sym (laws.assoc (measure_of unit join measured xs) (measured x) (join (measure_of unit join measured ys) after))
      ∙ sym (laws.assoc (join (measure_of unit join measured xs) (measured x)) (measure_of unit join measured ys) after)
      ∙ ap (λ m. join m after) (sym (measure_of-around laws measured xs ys x))
