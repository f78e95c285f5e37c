-- What some items measure after one of them came, went or gave way to another, told from what they measured before.
use Rattle.std.proofs.Common.{◌≡◌, ℕ, suc, List, ◌∷◌, ◌++◌, length, take, drop, sym, ap, ◌∙◌, subst, arith}
use Rattle.std.specs.Prelude.{Option, Some, IfSome, slice_get, slice_set}
use Rattle.std.specs.List.{insert, remove}
use Rattle.std.proofs.Math.Seq.{drop-cons}
use Rattle.std.proofs.lemmas.List.{take-append-drop, length-take-le}
use Rattle.std.proofs.lemmas.Option.{slice_get_within, get_or_from_slice_get}
use Rattle.monoids.specs.Laws.{MonoidLaws}
use Rattle.monoids.specs.Measure.{measure_of}
use Rattle.monoids.specs.MeasureLaws.{measure_of-append, measure_of-around}
use Rattle.weighted_tree.proofs.Middles.{remove-middle, set-middle}

module _ {A M : Type 0} {count : M → ℕ} {unit : M} {join : M → M → M} (laws : MonoidLaws count unit join) (measured : A → M)
    (items new : List A) (place : ℕ) (whole : M) (whole_is : whole ≡ measure_of unit join measured items) (told : Option M) where
  abbrev measure : List A → M
  measure = measure_of unit join measured

  abbrev IsTold : M → Type 0
  IsTold value = IfSome told (λ all. all ≡ value)

  pub told_with : (item : A) (part : M) → part ≡ measured item → new ≡ insert items place item
      → ((before after : M) → whole ≡ join before after → IfSome told (λ all. all ≡ join (join before part) after))
      → IfSome told (λ all. all ≡ measure_of unit join measured new)
  told_with item part part_is new_is tells =
      let parted = ap measure (sym (take-append-drop place items)) ∙ measure_of-append laws measured (take place items) (drop place items) in
      subst IsTold
      (ap (λ p. join (join (measure (take place items)) p) (measure (drop place items))) part_is
      ∙ sym (measure_of-around laws measured (take place items) (drop place items) item)
      ∙ ap measure (sym new_is))
      (tells (measure (take place items)) (measure (drop place items)) (whole_is ∙ parted))

  module _ (old : A) (there : slice_get items place ≡ Some old) (gone : M) (gone_is : gone ≡ measured old) where
    abbrev front : List A
    front = take place items

    abbrev back : List A
    back = drop (suc place) items

    parted : items ≡ front ++ old ∷ back
    parted =
        sym (take-append-drop place items)
        ∙ ap (λ xs. front ++ xs) (drop-cons items place old (slice_get_within items place old there) ∙ ap (λ x. x ∷ back) (get_or_from_slice_get items place old old there))

    front_long : length front ≡ place
    front_long = length-take-le place items (omega (arith, slice_get_within items place old there))

    whole_around : whole ≡ join (join (measure front) gone) (measure back)
    whole_around =
        whole_is ∙ ap measure parted ∙ measure_of-around laws measured front back old
        ∙ ap (λ p. join (join (measure front) p) (measure back)) (sym gone_is)

    pub told_without : new ≡ remove items place
        → ((before after : M) → whole ≡ join (join before gone) after → IfSome told (λ all. all ≡ join before after))
        → IfSome told (λ all. all ≡ measure_of unit join measured new)
    told_without new_is tells =
        let without : new ≡ front ++ back = new_is ∙ ap (λ xs. remove xs place) parted ∙ ap (remove (front ++ old ∷ back)) (sym front_long) ∙ remove-middle front back old in
        subst IsTold (sym (ap measure without ∙ measure_of-append laws measured front back)) (tells (measure front) (measure back) whole_around)

    pub told_exchanged : (item : A) (part : M) → part ≡ measured item → new ≡ slice_set items place item
        → ((before after : M) → whole ≡ join (join before gone) after → IfSome told (λ all. all ≡ join (join before part) after))
        → IfSome told (λ all. all ≡ measure_of unit join measured new)
    told_exchanged item part part_is new_is tells =
        let with : new ≡ front ++ item ∷ back = new_is ∙ ap (λ xs. slice_set xs place item) parted ∙ ap (λ k. slice_set (front ++ old ∷ back) k item) (sym front_long) ∙ set-middle front back old item in
        subst IsTold
        (ap (λ p. join (join (measure front) p) (measure back)) part_is
        ∙ sym (measure_of-around laws measured front back item)
        ∙ ap measure (sym with))
        (tells (measure front) (measure back) whole_around)
