-- A search put together from the two sides of a node, as they stand from where it starts.
use Rattle.std.proofs.Common.{◌≡◌, ℕ, zero, suc, ◌+◌, ◌≤◌, List, ◌∷◌, ◌++◌, Bool, true, false, sym, ap, ◌∙◌, subst, arith, take, length}
use Rattle.std.proofs.lemmas.List.{take_all, take-append-le}
use Rattle.std.proofs.Math.Seq.{take-append-add}
use Rattle.std.specs.Fn.{Shared, FnReturnsAt}
use Rattle.std.specs.Borrow.{Bor}
use Rattle.monoids.specs.Laws.{MonoidLaws}
use Rattle.monoids.specs.Measure.{measure_of}
use Rattle.weighted_tree.specs.Search.{Tells}
use Rattle.weighted_tree.specs.SearchSteps.{IsBoundary, IsSought, IsBoundaryWithin, joined_after}
use Rattle.weighted_tree.specs.declared.search.Search.{Search}
use Rattle.weighted_tree.specs.declared.search.Search.TheVariants.{Found, Open}
use Rattle.weighted_tree.proofs.Joins.{join_around}

-- a list parted at an item, with the lengths of the whole and of both parts
pub record IsParted {A : Type 0} (items near far : List A) (item : A) (to here beyond : ℕ) : Type 0 where
  pub split : items ≡ near ++ item ∷ far
  pub ends : to ≡ here + 1 + beyond
  pub near_size : length near ≡ here
  pub far_size : length far ≡ beyond

-- the place after one where a test fails, and later places
module _ (holds : ℕ → Bool) (place : ℕ) where
  pub boundary_there : holds place ≡ false → holds (place + 1) ≡ true → IsBoundary holds (place + 1)
  boundary_there fails holding = record {
    holds_there = holding;
    not_before = λ before is. subst (λ k. holds k ≡ false) (let same : place ≡ before = omega arith in same) fails;
  }

  pub boundary_later : (count : ℕ) → holds place ≡ false → IsBoundary (λ k. holds (place + k)) count → IsBoundary holds (place + count)
  boundary_later zero fails boundary = absurd (cc (ap holds (let same : place + 0 ≡ place = omega arith in same), fails, boundary.holds_there))
  boundary_later (suc count) fails boundary = record {
    holds_there = boundary.holds_there;
    not_before = λ before is. subst (λ k. holds k ≡ false) (let same : place + count ≡ before = omega arith in same) (boundary.not_before count (omega arith));
  }

-- what a search that may come to the end answers where the test holds there
pub found_within : {F M : Type 0} (calls : Shared F (Bor M × Unit {0}) Bool) (test : F) (counts : M → ℕ) (measures : ℕ → M) (to end place : ℕ) → to ≡ end
    → IsSought calls test counts measures to (Found place) → IsBoundaryWithin calls test measures end place
found_within calls test counts measures to end place same sought =
    subst (λ k. IsBoundaryWithin calls test measures k place) same (record { boundary = λ holds tells end. sought.boundary holds tells; within = sought.end })

pub open_within : {F M : Type 0} (calls : Shared F (Bor M × Unit {0}) Bool) (test : F) (counts : M → ℕ) (measures : ℕ → M) (to end : ℕ) (measure : M) → to ≡ end
    → IsSought calls test counts measures to (Open measure) → IsBoundaryWithin calls test measures end end
open_within calls test counts measures to end measure same sought =
    subst (λ k. IsBoundaryWithin calls test measures k k) same
    (record { boundary = λ holds tells end. absurd (cc (sought.boundary holds tells, end)); within = omega arith })

-- before the first item, as many were joined as there are
pub from_start : {F M : Type 0} (calls : Shared F (Bor M × Unit {0}) Bool) (test : F) (counts : M → ℕ) (measures : M → ℕ → M) (to : ℕ) (start unit : M)
    (answer : Search M) → start ≡ unit → counts unit ≡ 0 → IsSought calls test (joined_after counts start) (measures start) to answer
    → IsSought calls test counts (measures unit) to answer
from_start calls test counts measures to start unit (Found place) start_is none sought =
    subst (λ m. IsSought calls test counts (measures m) to (Found place)) start_is (record { boundary = sought.boundary; end = sought.end })
from_start calls test counts measures to start unit (Open measure) start_is none sought =
    subst (λ m. IsSought calls test counts (measures m) to (Open measure)) start_is
    (record { boundary = sought.boundary; end = (sought.end.0, omega (arith, sought.end.1, ap counts start_is)) })

module _ {A M : Type 0} {count : M → ℕ} {unit : M} {join : M → M → M} (laws : MonoidLaws count unit join) (measured : A → M) (before : M) where
  abbrev passed : M → List A → ℕ → M
  passed start items k = join start (measure_of unit join measured (take k items))

  passed_all : (start : M) (items : List A) → passed start items (length items) ≡ join start (measure_of unit join measured items)
  passed_all start items = ap (λ xs. join start (measure_of unit join measured xs)) (take_all (length items) items (omega arith))

  module _ {F : Type 0} (calls : Shared F (Bor M × Unit {0}) Bool) (test : F) where
    -- what a call at the measure of a place says of that place
    said : (items : List A) (holds : ℕ → Bool) (to : ℕ) → Tells calls test (passed before items) holds 0 to → (place : ℕ) → place ≤ to
        → (measure : M) (answer : Bool) → measure ≡ passed before items place → FnReturnsAt calls test measure answer → holds place ≡ answer
    said items holds to tells place within measure answer is call = sym (tells place answer (omega arith) within (subst (λ m. FnReturnsAt calls test m answer) is call))

    -- the same, where the list and its length have other names
    pub carried : (rest items : List A) (length to : ℕ) → rest ≡ items → length ≡ to → (answer : Search M)
        → IsSought calls test count (passed before items) to answer → IsSought calls test count (passed before rest) length answer
    carried rest items length to same end answer sought = subst (λ xs. IsSought calls test count (passed before xs) length answer) (sym same)
        (subst (λ k. IsSought calls test count (passed before items) k answer) (sym end) sought)

    -- all items at once
    module _ (items : List A) (to : ℕ) (size : length items ≡ to) (all : M) (answer : Bool) (all_is : all ≡ join before (measure_of unit join measured items)) (call : FnReturnsAt calls test all answer) where
      whole_same : all ≡ passed before items to
      whole_same = all_is ∙ sym (passed_all before items) ∙ ap (passed before items) size

      at_whole : (holds : ℕ → Bool) → Tells calls test (passed before items) holds 0 to → holds to ≡ answer
      at_whole holds tells = said items holds to tells to (omega arith) all answer whole_same call

      pub whole_found : answer ≡ true → (place : ℕ) → IsBoundaryWithin calls test (passed before items) to place → IsSought calls test count (passed before items) to (Found place)
      whole_found is place boundary = record { boundary = λ holds tells. boundary.boundary holds tells (at_whole holds tells ∙ is); end = boundary.within }

      pub whole_open : answer ≡ false → count all ≡ to → IsSought calls test count (passed before items) to (Open all)
      whole_open is counts = record { boundary = λ holds tells. at_whole holds tells ∙ is; end = (whole_same, counts) }

  module _ {items near far : List A} {item : A} {to here beyond : ℕ} (parts : IsParted items near far item to here beyond) where
    abbrev through : M
    through = join before (measure_of unit join measured near)

    abbrev middle : M
    middle = join through (measured item)

    near_same : (k : ℕ) → k ≤ here → passed before near k ≡ passed before items k
    near_same k within = ap (λ xs. join before (measure_of unit join measured xs)) (sym (ap (take k) parts.split ∙ take-append-le k near (item ∷ far) (omega (arith, parts.near_size))))

    far_same : (k : ℕ) → passed middle far k ≡ passed before items (here + 1 + k)
    far_same k =
        join_around laws measured before near (take k far) item
        ∙ ap (λ xs. join before (measure_of unit join measured xs)) (sym (ap (take (length near + suc k)) parts.split ∙ take-append-add near (item ∷ far) (suc k)))
        ∙ ap (passed before items) (let same : length near + suc k ≡ here + 1 + k = omega (arith, parts.near_size) in same)

    item_same : middle ≡ passed before items (here + 1)
    item_same = sym (laws.right_unit middle) ∙ far_same 0 ∙ ap (passed before items) (let same : here + 1 + 0 ≡ here + 1 = omega arith in same)

    module _ {F : Type 0} (calls : Shared F (Bor M × Unit {0}) Bool) (test : F) where
      near_tells : (holds : ℕ → Bool) → Tells calls test (passed before items) holds 0 to → Tells calls test (passed before near) holds 0 here
      near_tells holds tells place answer above within call = tells place answer above (omega (arith, parts.ends)) (subst (λ m. FnReturnsAt calls test m answer) (near_same place within) call)

      far_tells : (holds : ℕ → Bool) → Tells calls test (passed before items) holds 0 to → Tells calls test (passed middle far) (λ k. holds (here + 1 + k)) 0 beyond
      far_tells holds tells place answer above within call = tells (here + 1 + place) answer (omega arith) (omega (arith, parts.ends)) (subst (λ m. FnReturnsAt calls test m answer) (far_same place) call)

      -- the near side turns
      pub near_found : (place : ℕ) → IsSought calls test count (passed before near) here (Found place) → IsSought calls test count (passed before items) to (Found place)
      near_found place sought = record {
        boundary = λ holds tells. sought.boundary holds (near_tells holds tells);
        end = omega (arith, sought.end, parts.ends);
      }

      near_said : (all : M) (answer : Bool) → all ≡ through → FnReturnsAt calls test all answer → (holds : ℕ → Bool) → Tells calls test (passed before items) holds 0 to → holds here ≡ answer
      near_said all answer same call holds tells = said calls test near holds here (near_tells holds tells) here (omega arith) all answer
          (same ∙ sym (passed_all before near) ∙ ap (passed before near) parts.near_size) call

      pub near_within : (place : ℕ) (all : M) (answer : Bool) → all ≡ through → FnReturnsAt calls test all answer → answer ≡ true
          → IsBoundaryWithin calls test (passed before near) here place → IsBoundaryWithin calls test (passed before items) to place
      near_within place all answer same call is boundary = record {
        boundary = λ holds tells end. boundary.boundary holds (near_tells holds tells) (near_said all answer same call holds tells ∙ is);
        within = omega (arith, boundary.within, parts.ends);
      }

      -- the test fails of the near side: its search came to the end, or a call says so
      abbrev fails_near : Type 0
      fails_near = (holds : ℕ → Bool) → Tells calls test (passed before items) holds 0 to → holds here ≡ false

      pub near_open : (measure : M) → IsSought calls test count (passed before near) here (Open measure) → fails_near × (measure ≡ through)
      near_open measure sought = (λ holds tells. sought.boundary holds (near_tells holds tells), sought.end.0 ∙ ap (passed before near) (sym parts.near_size) ∙ passed_all before near)

      pub near_refused : (all : M) (answer : Bool) → all ≡ through → FnReturnsAt calls test all answer → answer ≡ false → fails_near
      near_refused all answer same call is holds tells = near_said all answer same call holds tells ∙ is

      -- then it answers of the item
      module _ (fails : fails_near) (start next : M) (answer : Bool) (start_is : start ≡ through) (next_is : next ≡ join start (measured item)) (call : FnReturnsAt calls test next answer) where
        same : next ≡ middle
        same = next_is ∙ ap (λ m. join m (measured item)) start_is

        at_item : (holds : ℕ → Bool) → Tells calls test (passed before items) holds 0 to → holds (here + 1) ≡ answer
        at_item holds tells = said calls test items holds to tells (here + 1) (omega (arith, parts.ends)) next answer (same ∙ item_same) call

        pub item_found : answer ≡ true → (found : ℕ) → found ≡ here + 1 → IsSought calls test count (passed before items) to (Found found)
        item_found is found place = subst (λ k. IsSought calls test count (passed before items) to (Found k)) (sym place) (record {
          boundary = λ holds tells. boundary_there holds here (fails holds tells) (at_item holds tells ∙ is);
          end = omega (arith, parts.ends);
        })

        pub item_within : answer ≡ true → (found : ℕ) → found ≡ here + 1 → IsBoundaryWithin calls test (passed before items) to found
        item_within is found place =
            let item = item_found is found place in
            record { boundary = λ holds tells end. item.boundary holds tells; within = item.end }

        -- it fails of the item too, and the far side turns
        pub far_within : answer ≡ false → (place : ℕ) → IsBoundaryWithin calls test (passed next far) beyond place → (found : ℕ) → found ≡ here + 1 + place → IsBoundaryWithin calls test (passed before items) to found
        far_within is place boundary found place_is = subst (IsBoundaryWithin calls test (passed before items) to) (sym place_is) (record {
          boundary = λ holds tells end. boundary_later holds (here + 1) place (at_item holds tells ∙ is)
              (boundary.boundary (λ k. holds (here + 1 + k))
              (subst (λ m. Tells calls test (passed m far) (λ k. holds (here + 1 + k)) 0 beyond) (sym same) (far_tells holds tells))
              (ap holds (sym parts.ends) ∙ end));
          within = omega (arith, boundary.within, parts.ends);
        })

        -- and answers of all
        module _ (all : M) (end : Bool) (all_is : all ≡ join next (measure_of unit join measured far)) (all_call : FnReturnsAt calls test all end) where
          all_same : all ≡ passed before items to
          all_same =
              all_is
              ∙ ap (λ m. join m (measure_of unit join measured far)) same
              ∙ sym (passed_all middle far)
              ∙ far_same (length far)
              ∙ ap (passed before items) (let same : here + 1 + length far ≡ to = omega (arith, parts.ends, parts.far_size) in same)

          at_end : (holds : ℕ → Bool) → Tells calls test (passed before items) holds 0 to → holds to ≡ end
          at_end holds tells = said calls test items holds to tells to (omega arith) all end all_same all_call

          pub far_found : answer ≡ false → end ≡ true → (place : ℕ) → IsBoundaryWithin calls test (passed next far) beyond place → (found : ℕ) → found ≡ here
              + 1 + place → IsSought calls test count (passed before items) to (Found found)
          far_found is holding place boundary found place_is =
              let deep = far_within is place boundary found place_is in
              record { boundary = λ holds tells. deep.boundary holds tells (at_end holds tells ∙ holding); end = deep.within }

          pub all_open : end ≡ false → count all ≡ to → IsSought calls test count (passed before items) to (Open all)
          all_open failing counts = record {
            boundary = λ holds tells. at_end holds tells ∙ failing;
            end = (all_same, counts);
          }
