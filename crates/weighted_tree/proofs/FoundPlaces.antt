-- From what a search answers to the first and the last place at which a test holds.
use Rattle.std.proofs.Common.{◌≡◌, ℕ, ◌+◌, ◌-◌, ◌≤◌, List, ◌++◌, Bool, false, Some, None, sym, ap, ◌∙◌, subst, arith, inl, inr, append_assoc, take, drop, reverse, length}
use Rattle.std.proofs.Math.Seq.{take-append_seam, drop-append_seam}
use Rattle.std.proofs.lemmas.Bool.{cases_Bool}
use Rattle.std.proofs.lemmas.List.{take-append-drop, reverse-append, length-reverse, length-drop, length-take-le}
use Rattle.std.proofs.lemmas.List.Folds.{drop_split}
use Rattle.std.specs.List.{slice_range}
use Rattle.std.specs.Fn.{Shared, FnReturnsAt}
use Rattle.std.specs.Borrow.{Bor}
use Rattle.monoids.specs.Laws.{MonoidLaws}
use Rattle.monoids.specs.Measure.{measure_of}
use Rattle.weighted_tree.specs.Search.{Tells, IsRising, IsFalling, IsFirstPlace, IsLastPlace, FindsFirst, FindsLast}
use Rattle.weighted_tree.specs.SearchSteps.{IsBoundary, IsSought}
use Rattle.weighted_tree.specs.declared.search.Search.TheVariants.{Found, Open}
use Rattle.weighted_tree.specs.declared.node.Side.TheVariants.{Right}
use Rattle.weighted_tree.specs.Sides.{seen_from, join_from}
use Rattle.weighted_tree.proofs.SeenFrom.{measure-seen}

-- a test that rises
module _ (holds : ℕ → Bool) (from to : ℕ) (rising : IsRising holds from to) where
  fails_before : (place : ℕ) → place ≤ to → holds place ≡ false → (earlier : ℕ) → from ≤ earlier → earlier ≤ place → holds earlier ≡ false
  fails_before place within failing earlier above before = elim (cases_Bool (holds earlier)) [
    | inl holding ↦ absurd (cc (rising earlier place above before within holding, failing))
    | inr none ↦ none
  ]

  first_place : (count : ℕ) → from + count ≤ to → IsBoundary (λ k. holds (from + k)) count → IsFirstPlace holds from to (from + count)
  first_place count within boundary = record {
    above = omega arith;
    within = within;
    holds_there = boundary.holds_there;
    not_before = λ earlier above before. fails_before (from + (count - 1)) (omega arith) (boundary.not_before (count - 1) (omega arith)) earlier above (omega arith);
  }

-- a test that falls
module _ (holds : ℕ → Bool) (to : ℕ) (falling : IsFalling holds to) where
  fails_after : (place : ℕ) → holds place ≡ false → (later : ℕ) → place ≤ later → later ≤ to → holds later ≡ false
  fails_after place failing later after within = elim (cases_Bool (holds later)) [
    | inl holding ↦ absurd (cc (falling later place after within holding, failing))
    | inr none ↦ none
  ]

  last_place : (count : ℕ) → count ≤ to → IsBoundary (λ k. holds (to - k)) count → IsLastPlace holds to (to - count)
  last_place count within boundary = record {
    within = omega arith;
    holds_there = boundary.holds_there;
    not_after = λ later above below. fails_after (to - (count - 1)) (boundary.not_before (count - 1) (omega arith)) later (omega arith) below;
  }

-- the items before `to`, from the right: a range, reversed
range_reversed : {A : Type 0} (items : List A) (to k : ℕ) → to ≤ length items → k ≤ to → take k (drop (length items - to) (reverse items)) ≡ reverse (slice_range items (to - k) to)
range_reversed items to k within below =
    let a = take (to - k) items in
    let b = slice_range items (to - k) to in
    let c = drop to items in
    let parts : items ≡ a ++ (b ++ c) = sym (take-append-drop (to - k) items) ∙ ap (λ xs. a ++ xs) (drop_split items (to - k) to (omega arith)) in
    let turned : reverse items ≡ reverse c ++ (reverse b ++ reverse a) =
    ap reverse parts ∙ reverse-append a (b ++ c) ∙ ap (λ xs. xs ++ reverse a) (reverse-append b c) ∙ append_assoc (reverse c) (reverse b) (reverse a) in
    let beyond : length items - to ≡ length (reverse c) = omega (arith, length-reverse c, length-drop to items) in
    let size : k ≡ length (reverse b) = omega (arith, length-reverse b, length-take-le (to - (to - k)) (drop (to - k) items) (omega (arith, length-drop (to - k) items))) in
    ap (λ xs. take k (drop (length items - to) xs)) turned
    ∙ ap (λ n. take k (drop n (reverse c ++ (reverse b ++ reverse a)))) beyond
    ∙ ap (take k) (drop-append_seam (reverse c) (reverse b ++ reverse a))
    ∙ ap (λ n. take n (reverse b ++ reverse a)) size
    ∙ take-append_seam (reverse b) (reverse a)

module _ {A M F : Type 0} {count : M → ℕ} {unit : M} {join : M → M → M} (laws : MonoidLaws count unit join) (measured : A → M) (calls : Shared F (Bor M × Unit {0}) Bool) (test : F) (items : List A) where
  -- from the left
  module _ (from : ℕ) (within : from ≤ length items) where
    abbrev rising_measures : ℕ → M
    rising_measures k = join unit (measure_of unit join measured (take k (drop from items)))

    abbrev ranges_from : ℕ → M
    ranges_from place = measure_of unit join measured (slice_range items from place)

    from_same : (k : ℕ) → rising_measures k ≡ ranges_from (from + k)
    from_same k = laws.left_unit (measure_of unit join measured (take k (drop from items))) ∙ ap (λ n. measure_of unit join measured (take n (drop from items))) (let same : k ≡ from + k - from = omega arith in same)

    told_from : (holds : ℕ → Bool) → Tells calls test ranges_from holds from (length items) → Tells calls test rising_measures (λ k. holds (from + k)) 0 (length items - from)
    told_from holds tells place answer above below call = tells (from + place) answer (omega arith) (omega arith) (subst (λ m. FnReturnsAt calls test m answer) (from_same place) call)

    pub found-first : (place : ℕ) → IsSought calls test count rising_measures (length items - from) (Found place) → FindsFirst calls test ranges_from from (length items) (Some (from + place))
    found-first place sought holds tells rising = first_place holds from (length items) rising place (omega (arith, sought.end)) (sought.boundary (λ k. holds (from + k)) (told_from holds tells))

    pub open-first : (measure : M) → IsSought calls test count rising_measures (length items - from) (Open measure) → FindsFirst calls test ranges_from from (length items) None
    open-first measure sought holds tells rising place above below =
        let last : from + (length items - from) ≡ length items = omega arith in
        fails_before holds from (length items) rising (length items) (omega arith) (ap holds (sym last) ∙ sought.boundary (λ k. holds (from + k)) (told_from holds tells)) place above below

  -- from the right
  module _ (to from : ℕ) (within : to ≤ length items) (from_is : from ≡ length items - to) where
    abbrev falling_measures : ℕ → M
    falling_measures k = join_from Right join unit (measure_of unit (join_from Right join) measured (take k (drop from (seen_from Right items))))

    abbrev ranges_to : ℕ → M
    ranges_to place = measure_of unit join measured (slice_range items place to)

    to_same : (k : ℕ) → k ≤ to → falling_measures k ≡ ranges_to (to - k)
    to_same k below =
        laws.right_unit (measure_of unit (join_from Right join) measured (take k (drop from (reverse items))))
        ∙ ap (measure_of unit (join_from Right join) measured) (ap (λ n. take k (drop n (reverse items))) from_is ∙ range_reversed items to k within below)
        ∙ measure-seen laws measured Right (slice_range items (to - k) to)

    told_to : (holds : ℕ → Bool) → Tells calls test ranges_to holds 0 to → Tells calls test falling_measures (λ k. holds (to - k)) 0 (length items - from)
    told_to holds tells place answer above below call = tells (to - place) answer (omega arith) (omega arith) (subst (λ m. FnReturnsAt calls test m answer) (to_same place (omega arith)) call)

    pub found-last : (place : ℕ) → IsSought calls test count falling_measures (length items - from) (Found place) → FindsLast calls test ranges_to to (Some (to - place))
    found-last place sought holds tells falling = last_place holds to falling place (omega (arith, sought.end)) (sought.boundary (λ k. holds (to - k)) (told_to holds tells))

    pub open-last : (measure : M) → IsSought calls test count falling_measures (length items - from) (Open measure) → FindsLast calls test ranges_to to None
    open-last measure sought holds tells falling place above below =
        let first : to - (length items - from) ≡ 0 = omega arith in
        fails_after holds to falling 0 (ap holds (sym first) ∙ sought.boundary (λ k. holds (to - k)) (told_to holds tells)) place above below
