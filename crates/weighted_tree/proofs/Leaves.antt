-- What loops over the items of a leaf keep.
use Rattle.std.proofs.Common.{◌≡◌, ℕ, zero, suc, ◌+◌, ◌-◌, ◌<◌, ◌≤◌, List, [], ◌∷◌, ◌++◌, Bool, true, false, refl, sym, ap, ◌∙◌, subst, arith, inl, inr, get_or, map, take, drop, length}
use Rattle.std.specs.Prelude.{slice_set}
use Rattle.std.specs.List.{slice_range, insert}
use Rattle.std.specs.Fn.{Shared, FnReturnsAt}
use Rattle.std.specs.Borrow.{Bor}
use Rattle.std.specs.List.Sorted.{IsPartitionedBy}
use Rattle.std.proofs.Math.Seq.{take-suc}
use Rattle.std.proofs.lemmas.Bool.{cases_Bool}
use Rattle.std.proofs.lemmas.List.{get_or-drop, length-drop, length-take-le, length-map, map-append, take-append-drop}
use Rattle.std.proofs.Math.Seq.{drop-cons}
use Rattle.monoids.specs.Laws.{MonoidLaws}
use Rattle.monoids.specs.Measure.{measure_of}
use Rattle.monoids.specs.MeasureLaws.{measure_of-append}
use Rattle.weighted_tree.specs.Reads.{overwritten}
use Rattle.weighted_tree.specs.Search.{Tells}
use Rattle.weighted_tree.specs.SearchSteps.{IsSought, joined_after}
use Rattle.weighted_tree.specs.declared.search.Search.TheVariants.{Found, Open}
use Rattle.weighted_tree.proofs.Boundaries.{boundary_there}
use Rattle.weighted_tree.proofs.Middles.{insert-before, insert-after}
use Rattle.weighted_tree.proofs.WrittenItems.{overwritten_on, set_overwritten}

-- one item more from a place on
pub take_next : {A : Type 0} (xs : List A) (from k : ℕ) (x d : A) → from + k < length xs → get_or xs (from + k) d ≡ x → take (k + 1) (drop from xs) ≡ take k (drop from xs) ++ x ∷ []
take_next xs from k x d within is =
    ap (λ n. take n (drop from xs)) (let next : k + 1 ≡ suc k = omega arith in next)
    ∙ take-suc (drop from xs) k d (omega (arith, length-drop from xs))
    ∙ ap (λ y. take k (drop from xs) ++ y ∷ []) (get_or-drop from xs k d ∙ is)

module _ {A M : Type 0} {count : M → ℕ} {unit : M} {join : M → M → M} (laws : MonoidLaws count unit join) (measured : A → M) where
  -- what was passed, joined with the measure of one item more
  pub join_next : (before : M) (xs : List A) (x : A) → join before (measure_of unit join measured (xs ++ x ∷ [])) ≡ join (join before (measure_of unit join measured xs)) (measured x)
  join_next before xs x =
      ap (join before) (measure_of-append laws measured xs (x ∷ []))
      ∙ ap (λ m. join before (join (measure_of unit join measured xs) m)) (laws.right_unit (measured x))
      ∙ sym (laws.assoc before (measure_of unit join measured xs) (measured x))

  -- the measure of a list that is one item longer
  pub measure_next : (xs : List A) (x : A) → measure_of unit join measured (xs ++ x ∷ []) ≡ join (measure_of unit join measured xs) (measured x)
  measure_next xs x =
      sym (laws.left_unit (measure_of unit join measured (xs ++ x ∷ [])))
      ∙ join_next unit xs x
      ∙ ap (λ m. join m (measured x)) (laws.left_unit (measure_of unit join measured xs))

  -- the measure of a range that is one item longer
  pub range_next : (xs : List A) (from end : ℕ) (x : A) → from ≤ end → end < length xs → get_or xs end x ≡ x
      → measure_of unit join measured (slice_range xs from (end + 1)) ≡ join (measure_of unit join measured (slice_range xs from end)) (measured x)
  range_next xs from end x order within is =
      ap (λ n. measure_of unit join measured (take n (drop from xs))) (let more : end + 1 - from ≡ end - from + 1 = omega arith in more)
      ∙ ap (measure_of unit join measured) (take_next xs from (end - from) x x (omega arith) (ap (λ n. get_or xs n x) (let same : from + (end - from) ≡ end = omega arith in same) ∙ is))
      ∙ measure_next (slice_range xs from end) x

-- so many items were passed, and where they end the test fails
pub record HasPassed {A M F : Type 0} (count : M → ℕ) (unit : M) (join : M → M → M) (measured : A → M) (calls : Shared F (Bor M × Unit {0}) Bool) (test : F)
    (before : M) (items : List A) (to place : ℕ) (passed : M) : Type 0 where
  pub value : passed ≡ join before (measure_of unit join measured (take place items))
  pub counted : count passed ≡ count before + place
  pub fails : (holds : ℕ → Bool) → Tells calls test (λ k. join before (measure_of unit join measured (take k items))) holds 0 to → holds place ≡ false

module _ {A M F : Type 0} {count : M → ℕ} {unit : M} {join : M → M → M} (laws : MonoidLaws count unit join) (measured : A → M)
    (calls : Shared F (Bor M × Unit {0}) Bool) (test : F) (before : M) (items : List A) (to : ℕ) where
  abbrev at : ℕ → M
  at k = join before (measure_of unit join measured (take k items))

  said_at : (holds : ℕ → Bool) → Tells calls test at holds 0 to → (place : ℕ) → place ≤ to → (measure : M) (answer : Bool) → measure ≡ at place → FnReturnsAt calls test measure answer → holds place ≡ answer
  said_at holds tells place within measure answer is call = sym (tells place answer (omega arith) within (subst (λ m. FnReturnsAt calls test m answer) is call))

  start_is : before ≡ at 0
  start_is = sym (laws.right_unit before)

  pub start_passed : (answer : Bool) → FnReturnsAt calls test before answer → answer ≡ false → (none : ℕ) → none ≡ 0 → HasPassed count unit join measured calls test before items to none before
  start_passed answer call fails none none_is = subst (λ k. HasPassed count unit join measured calls test before items to k before) (sym none_is) (record {
    value = start_is;
    counted = omega arith;
    fails = λ holds tells. said_at holds tells 0 (omega arith) before answer start_is call ∙ fails;
  })

  pub start_turns : (answer : Bool) → FnReturnsAt calls test before answer → answer ≡ true → IsSought calls test (joined_after count before) at to (Found 0)
  start_turns answer call holding = record {
    boundary = λ holds tells. record { holds_there = said_at holds tells 0 (omega arith) before answer start_is call ∙ holding; not_before = λ k same. absurd (omega arith) };
    end = omega arith;
  }

  module _ (place : ℕ) (passed : M) (former : HasPassed count unit join measured calls test before items to place passed) where
    pub open_passed : place ≡ to → IsSought calls test (joined_after count before) at to (Open passed)
    open_passed end = record {
      boundary = λ holds tells. ap holds (sym end) ∙ former.fails holds tells;
      end = (former.value ∙ ap at end, omega (arith, former.counted));
    }

    module _ (x : A) (next : M) (answer : Bool) (within : place < to) (longer : take (place + 1) items ≡ take place items ++ x ∷ [])
        (single : count (measured x) ≡ 1) (next_is : next ≡ join passed (measured x)) (call : FnReturnsAt calls test next answer) where
      value_next : next ≡ at (place + 1)
      value_next =
          next_is
          ∙ ap (λ m. join m (measured x)) former.value
          ∙ sym (join_next laws measured before (take place items) x)
          ∙ ap (λ xs. join before (measure_of unit join measured xs)) (sym longer)

      said_next : (holds : ℕ → Bool) → Tells calls test at holds 0 to → holds (place + 1) ≡ answer
      said_next holds tells = said_at holds tells (place + 1) (omega arith) next answer value_next call

      pub next_passed : answer ≡ false → HasPassed count unit join measured calls test before items to (place + 1) next
      next_passed fails = record {
        value = value_next;
        counted = omega (arith, ap count next_is, laws.join_items passed (measured x), single, former.counted);
        fails = λ holds tells. said_next holds tells ∙ fails;
      }

      pub next_turns : answer ≡ true → IsSought calls test (joined_after count before) at to (Found (place + 1))
      next_turns holding = record {
        boundary = λ holds tells. boundary_there holds place (former.fails holds tells) (said_next holds tells ∙ holding);
        end = omega arith;
      }

-- where a test turns false among the items between two places
pub record IsTurnBetween {A : Type 0} (holds : A → Bool) (items : List A) (low high : ℕ) : Type 0 where
  pub below : (k : ℕ) (d : A) → k < low → holds (get_or items k d) ≡ true
  pub above : (k : ℕ) (d : A) → high ≤ k → k < length items → holds (get_or items k d) ≡ false

module _ {A : Type 0} (holds : A → Bool) (items : List A) (low high middle : ℕ) (x : A) (parted : IsPartitionedBy holds items)
    (turn : IsTurnBetween holds items low high) (within : middle < length items) (is : get_or items middle x ≡ x) where
  same_at : (d : A) → get_or items middle d ≡ x
  same_at d = sym (get_or_any items middle x d within) ∙ is where
    get_or_any : (xs : List A) (k : ℕ) (c e : A) → k < length xs → get_or xs k c ≡ get_or xs k e
    get_or_any [] k c e short = absurd (omega arith)
    get_or_any (y ∷ ys) zero c e short = refl
    get_or_any (y ∷ ys) (suc k) c e short = get_or_any ys k c e (omega arith)

  pub turn_above : holds x ≡ true → IsTurnBetween holds items (middle + 1) high
  turn_above holding = record {
    below = λ k d before. parted k middle d (omega arith) within (ap holds (same_at d) ∙ holding);
    above = turn.above;
  }

  pub turn_below : holds x ≡ false → IsTurnBetween holds items low middle
  turn_below failing = record {
    below = turn.below;
    above = λ k d after short. elim (cases_Bool (holds (get_or items k d))) [
      | inl holding ↦ absurd (cc (parted middle k d after short holding, ap holds (same_at d), failing))
      | inr none ↦ none
    ];
  }

-- one write more, next to those before
pub written_next : {A B : Type 0} (shows : A → B) (former written : List B) (leaf : List A) (from filled k : ℕ) (x : A) → filled + k < length former
    → length written ≡ length former → from + k < length leaf → get_or leaf (from + k) x ≡ x → written
    ≡ overwritten former filled (map shows (take k (drop from leaf))) → slice_set written (filled + k) (shows x)
    ≡ overwritten former filled (map shows (take (k + 1) (drop from leaf)))
written_next shows former written leaf from filled k x room size within is written_is =
    let front = take k (drop from leaf) in
    let long : length (map shows front) ≡ k = length-map front shows ∙ length-take-le k (drop from leaf) (omega (arith, length-drop from leaf)) in
    ap (λ xs. slice_set xs (filled + k) (shows x)) written_is
    ∙ set_overwritten (overwritten former filled (map shows front)) (filled + k) (shows x) (omega (arith, ap length written_is, size))
    ∙ overwritten_on former filled (map shows front) (shows x ∷ []) (filled + k) (omega arith) (omega (arith, long))
    ∙ ap (overwritten former filled) (sym (map-append shows front (x ∷ [])))
    ∙ ap (λ xs. overwritten former filled (map shows xs)) (sym (take_next leaf from k x x within is))

-- a leaf that is divided at an item, where one more comes in before or after it
module _ {A : Type 0} (items : List A) (cut : ℕ) (middle item : A) (within : cut < length items) (is : get_or items cut middle ≡ middle) where
  parts : items ≡ take cut items ++ middle ∷ drop (cut + 1) items
  parts =
      sym (take-append-drop cut items)
      ∙ ap (λ xs. take cut items ++ xs) (drop-cons items cut middle within ∙ ap (λ x. x ∷ drop (suc cut) items) is)
      ∙ ap (λ n. take cut items ++ middle ∷ drop n items) (let next : suc cut ≡ cut + 1 = omega arith in next)

  front_long : length (take cut items) ≡ cut
  front_long = length-take-le cut items (omega arith)

  pub divided_before : (place : ℕ) → place ≤ cut → insert (take cut items) place item ++ middle ∷ drop (cut + 1) items ≡ insert items place item
  divided_before place before =
      sym (insert-before (take cut items) (drop (cut + 1) items) middle place item (omega (arith, front_long)))
      ∙ ap (λ xs. insert xs place item) (sym parts)

  pub divided_after : (place : ℕ) → cut < place → take cut items ++ middle ∷ insert (drop (cut + 1) items) (place - cut - 1) item ≡ insert items place item
  divided_after place after =
      ap (λ n. take cut items ++ middle ∷ insert (drop (cut + 1) items) (place - n - 1) item) (sym front_long)
      ∙ sym (insert-after (take cut items) (drop (cut + 1) items) middle place item (omega (arith, front_long)))
      ∙ ap (λ xs. insert xs place item) (sym parts)
