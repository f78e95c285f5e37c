-- A search of two lists, one after the other as they stand from where it starts.
use Rattle.std.proofs.Common.{◌≡◌, ℕ, ◌+◌, ◌-◌, ◌≤◌, List, ◌++◌, Bool, true, false, sym, ap, ◌∙◌, subst, arith, take, drop, length}
use Rattle.std.proofs.lemmas.List.{take_all, take-append-le, drop-append-le, length-drop}
use Rattle.std.proofs.Math.Seq.{take-append-add}
use Rattle.std.specs.Fn.{Shared, FnReturnsAt}
use Rattle.std.specs.Borrow.{Bor}
use Rattle.monoids.specs.Laws.{MonoidLaws}
use Rattle.monoids.specs.Measure.{measure_of}
use Rattle.monoids.specs.MeasureLaws.{measure_of-append}
use Rattle.weighted_tree.specs.Search.{Tells}
use Rattle.weighted_tree.specs.SearchSteps.{IsSought, IsBoundaryWithin}
use Rattle.weighted_tree.specs.declared.search.Search.TheVariants.{Found, Open}
use Rattle.weighted_tree.specs.Sides.{seen_from}
use Rattle.weighted_tree.specs.declared.node.Side.{Side}
use Rattle.weighted_tree.proofs.Boundaries.{boundary_later}
use Rattle.weighted_tree.proofs.SeenFrom.{length-seen}

-- a list in two parts, with the lengths of the whole and of both
pub record IsJoined {A : Type 0} (items near far : List A) (to here beyond : ℕ) : Type 0 where
  pub split : items ≡ near ++ far
  pub ends : to ≡ here + beyond
  pub near_size : length near ≡ here
  pub far_size : length far ≡ beyond

-- from a place of the near part on, two lists seen from a side
pub joined_from : {A : Type 0} (side : Side) (near far : List A) (from : ℕ) → from ≤ length near
    → IsJoined (drop from (seen_from side near ++ seen_from side far)) (drop from (seen_from side near)) (seen_from side far) (length near + length far - from) (length near - from) (length far)
joined_from side near far from within = record {
  split = drop-append-le from (seen_from side near) (seen_from side far) (omega (arith, length-seen side near));
  ends = omega arith;
  near_size = omega (arith, length-drop from (seen_from side near), length-seen side near);
  far_size = length-seen side far;
}

module _ {A M F : Type 0} {count : M → ℕ} {unit : M} {join : M → M → M} (laws : MonoidLaws count unit join) (measured : A → M) (before : M)
    (calls : Shared F (Bor M × Unit {0}) Bool) (test : F) {items near far : List A} {to here beyond : ℕ} (parts : IsJoined items near far to here beyond) where
  abbrev passed : M → List A → ℕ → M
  passed start xs k = join start (measure_of unit join measured (take k xs))

  near_same : (k : ℕ) → k ≤ here → passed before near k ≡ passed before items k
  near_same k within = ap (λ xs. join before (measure_of unit join measured xs)) (sym (ap (take k) parts.split ∙ take-append-le k near far (omega (arith, parts.near_size))))

  near_tells : (holds : ℕ → Bool) → Tells calls test (passed before items) holds 0 to → Tells calls test (passed before near) holds 0 here
  near_tells holds tells place answer above within call = tells place answer above (omega (arith, parts.ends)) (subst (λ m. FnReturnsAt calls test m answer) (near_same place within) call)

  -- the near part turns
  pub near_turns : (place : ℕ) → IsSought calls test count (passed before near) here (Found place) → IsSought calls test count (passed before items) to (Found place)
  near_turns place sought = record {
    boundary = λ holds tells. sought.boundary holds (near_tells holds tells);
    end = omega (arith, sought.end, parts.ends);
  }

  -- it does not, and the test answers of all
  module _ (through : M) (sought : IsSought calls test count (passed before near) here (Open through)) (all : M) (answer : Bool)
      (all_is : all ≡ join through (measure_of unit join measured far)) (call : FnReturnsAt calls test all answer) where
    far_same : (k : ℕ) → passed through far k ≡ passed before items (here + k)
    far_same k =
        let near_all : take here near ≡ near = take_all here near (omega (arith, parts.near_size)) in
        ap (λ m. join m (measure_of unit join measured (take k far))) (sought.end.0 ∙ ap (λ xs. join before (measure_of unit join measured xs)) near_all)
        ∙ laws.assoc before (measure_of unit join measured near) (measure_of unit join measured (take k far))
        ∙ ap (join before) (sym (measure_of-append laws measured near (take k far)))
        ∙ ap (λ xs. join before (measure_of unit join measured xs)) (sym (ap (take (length near + k)) parts.split ∙ take-append-add near far k))
        ∙ ap (λ n. passed before items (n + k)) parts.near_size

    far_tells : (holds : ℕ → Bool) → Tells calls test (passed before items) holds 0 to → Tells calls test (passed through far) (λ k. holds (here + k)) 0 beyond
    far_tells holds tells place answer above within call =
        tells (here + place) answer (omega arith) (omega (arith, parts.ends)) (subst (λ m. FnReturnsAt calls test m answer) (far_same place) call)

    all_same : all ≡ passed before items to
    all_same =
        all_is
        ∙ ap (λ xs. join through (measure_of unit join measured xs)) (sym (take_all beyond far (omega (arith, parts.far_size))))
        ∙ far_same beyond
        ∙ ap (passed before items) (sym parts.ends)

    at_end : (holds : ℕ → Bool) → Tells calls test (passed before items) holds 0 to → holds to ≡ answer
    at_end holds tells = sym (tells to answer (omega arith) (omega arith) (subst (λ m. FnReturnsAt calls test m answer) all_same call))

    -- the far part turns
    pub far_turns : answer ≡ true → (place : ℕ) → IsBoundaryWithin calls test (passed through far) beyond place → (found : ℕ) → found ≡ here + place
        → IsSought calls test count (passed before items) to (Found found)
    far_turns holding place boundary found found_is = subst (λ k. IsSought calls test count (passed before items) to (Found k)) (sym found_is) (record {
      boundary = λ holds tells. boundary_later holds here place (sought.boundary holds (near_tells holds tells))
          (boundary.boundary (λ k. holds (here + k)) (far_tells holds tells) (ap holds (sym parts.ends) ∙ at_end holds tells ∙ holding));
      end = omega (arith, boundary.within, parts.ends);
    })

    pub none_turns : answer ≡ false → count all ≡ to → IsSought calls test count (passed before items) to (Open all)
    none_turns failing counts = record {
      boundary = λ holds tells. at_end holds tells ∙ failing;
      end = (all_same, counts);
    }
