-- The items of a root and those of a tail, one after the other.
use Rattle.std.proofs.Common.{◌≡◌, ℕ, ◌+◌, ◌-◌, ◌<◌, ◌≤◌, List, [], ◌∷◌, ◌++◌, Bool, true, false, refl, sym, ap, ◌∙◌, subst, arith, inl, inr, get_or, map, take, drop, length, length-append}
use Rattle.std.specs.Prelude.{Some, slice_get, Result, Ok, Err, OnOk}
use Rattle.std.specs.List.{slice_range, insert}
use Rattle.std.specs.Fn.{Shared, FnReturnsAt}
use Rattle.std.specs.Borrow.{Bor}
use Rattle.std.specs.List.Sorted.{IsPartitionedBy, IsPartitionPoint}
use Rattle.std.proofs.Math.Seq.{take-append-add, drop-append-add}
use Rattle.std.proofs.lemmas.Bool.{cases_Bool, cases_lt}
use Rattle.std.proofs.lemmas.Option.{slice_get_within, get_or_from_slice_get}
use Rattle.std.proofs.lemmas.List.{append-nil, take_all, take-append-le, drop-append-le, length-drop, length-map, length-take-le, map-append, get_or_append_left, get_or-append-add}
use Rattle.std.proofs.lemmas.List.Edits.{insert-append_right}
use Rattle.weighted_tree.specs.Reads.{overwritten}
use Rattle.weighted_tree.specs.Search.{TellsItems, FindsPartition}
use Rattle.weighted_tree.proofs.Middles.{get_shift}
use Rattle.weighted_tree.proofs.WrittenItems.{overwritten_on}

module _ {A : Type 0} (root tail : List A) where
  beyond_is : (k : ℕ) → length root ≤ k → k ≡ length root + (k - length root)
  beyond_is k beyond = omega arith

  pub get_beyond : (place : ℕ) → length root ≤ place → slice_get (root ++ tail) place ≡ slice_get tail (place - length root)
  get_beyond place beyond = ap (slice_get (root ++ tail)) (beyond_is place beyond) ∙ get_shift root tail (place - length root)

  pub drop_beyond : (from : ℕ) → length root ≤ from → drop from (root ++ tail) ≡ drop (from - length root) tail
  drop_beyond from beyond = ap (λ n. drop n (root ++ tail)) (beyond_is from beyond) ∙ drop-append-add root tail (from - length root)

  -- without a tail the root is all
  pub alone : length tail ≡ 0 → (items : List A) → root ++ tail ≡ items → root ≡ items
  alone none items items_are = sym (append-nil root) ∙ ap (λ xs. root ++ xs) (sym (is_none tail none)) ∙ items_are where
    is_none : (xs : List A) → length xs ≡ 0 → xs ≡ []
    is_none [] none = refl
    is_none (x ∷ xs) none = absurd (omega arith)

  -- where an item comes in at a place of the tail
  pub insert_beyond : (items : List A) (place inner : ℕ) (item : A) → root ++ tail ≡ items → length root ≤ place → inner ≡ place - length root
      → root ++ insert tail inner item ≡ insert items place item
  insert_beyond items place inner item items_are beyond inner_is =
      ap (λ n. root ++ insert tail n item) inner_is
      ∙ sym (insert-append_right root tail (length root) place item refl beyond)
      ∙ ap (λ xs. insert xs place item) items_are

  -- the same where there may be no memory for it
  pub inserted_beyond : {T E : Type 0} (answer : Result T E) (new items : List A) (place inner : ℕ) (item : A) → root ++ tail ≡ items → length root ≤ place
      → inner ≡ place - length root → OnOk answer (new ≡ insert tail inner item) → OnOk answer (root ++ new ≡ insert items place item)
  inserted_beyond (Ok value) new items place inner item items_are beyond inner_is new_is = ap (λ xs. root ++ xs) new_is ∙ insert_beyond items place inner item items_are beyond inner_is
  inserted_beyond (Err error) new items place inner item items_are beyond inner_is new_is = new_is

  -- a range in the tail, or in both parts
  pub range_in_tail : (from to : ℕ) → length root ≤ from → from ≤ to → slice_range (root ++ tail) from to ≡ slice_range tail (from - length root) (to - length root)
  range_in_tail from to beyond order =
      ap (take (to - from)) (drop_beyond from beyond)
      ∙ ap (λ k. take k (drop (from - length root) tail)) (let same : to - from ≡ to - length root - (from - length root) = omega arith in same)

  pub range_in_both : (from to : ℕ) → from ≤ length root → length root ≤ to → slice_range (root ++ tail) from to ≡ slice_range root from (length root) ++ take (to - length root) tail
  range_in_both from to within beyond =
      ap (take (to - from)) (drop-append-le from root tail within)
      ∙ ap (λ k. take k (drop from root ++ tail)) (let same : to - from ≡ length (drop from root) + (to - length root) = omega (arith, length-drop from root) in same)
      ∙ take-append-add (drop from root) tail (to - length root)
      ∙ ap (λ xs. xs ++ take (to - length root) tail) (sym (take_all (length root - from) (drop from root) (omega (arith, length-drop from root))))

  -- what a read writes: of the tail alone, or of the rest of the root and then of the tail
  module _ {B : Type 0} (shows : A → B) (former : List B) (part items : List A) (part_is : part ≡ tail) (items_are : root ++ tail ≡ items) (from : ℕ) where
    pub written_beyond : (last : List B) (inner result : ℕ) → length root ≤ from → inner ≡ from - length root
        → last ≡ overwritten former 0 (map shows (take (result - 0) (drop inner part))) → last ≡ overwritten former 0 (map shows (take result (drop from items)))
    written_beyond last inner result beyond inner_is last_is =
        last_is
        ∙ ap (λ n. overwritten former 0 (map shows (take n (drop inner part)))) (let same : result - 0 ≡ result = omega arith in same)
        ∙ ap (λ n. overwritten former 0 (map shows (take result (drop n part)))) inner_is
        ∙ ap (λ xs. overwritten former 0 (map shows (take result (drop (from - length root) xs)))) part_is
        ∙ ap (λ xs. overwritten former 0 (map shows (take result xs))) (sym (drop_beyond from beyond))
        ∙ ap (λ xs. overwritten former 0 (map shows (take result (drop from xs)))) items_are

    pub written_on : (first last : List B) (end result : ℕ) → from ≤ length root → end ≤ length root - from → end ≤ length former → end ≤ result → (end < length root - from → result ≡ end)
        → first ≡ overwritten former 0 (map shows (take (end - 0) (drop from root))) → last ≡ overwritten first end (map shows (take (result - end) (drop 0 part)))
        → last ≡ overwritten former 0 (map shows (take result (drop from items)))
    written_on first last end result within short fits order stopped first_is last_is =
        let near = take end (drop from root) in
        let far = take (result - end) tail in
        let long : length (map shows near) ≡ end = length-map near shows ∙ length-take-le end (drop from root) (omega (arith, length-drop from root)) in
        last_is
        ∙ ap (λ xs. overwritten first end (map shows (take (result - end) xs))) part_is
        ∙ ap (λ xs. overwritten xs end (map shows far)) first_is
        ∙ ap (λ n. overwritten (overwritten former 0 (map shows (take n (drop from root)))) end (map shows far)) (let same : end - 0 ≡ end = omega arith in same)
        ∙ overwritten_on former 0 (map shows near) (map shows far) end (omega arith) (omega (arith, long))
        ∙ ap (overwritten former 0) (sym (map-append shows near far))
        ∙ ap (λ xs. overwritten former 0 (map shows xs)) joined
        ∙ ap (λ xs. overwritten former 0 (map shows (take result (drop from xs)))) items_are where
          joined : take end (drop from root) ++ take (result - end) tail ≡ take result (drop from (root ++ tail))
          joined = elim (cases_lt end (length root - from)) [
            | inl stops ↦
                ap (λ n. take end (drop from root) ++ take n tail) (let none : result - end ≡ 0 = omega (arith, stopped stops) in none)
                ∙ append-nil (take end (drop from root))
                ∙ ap (λ n. take n (drop from root)) (sym (stopped stops))
                ∙ sym (ap (take result) (drop-append-le from root tail within) ∙ take-append-le result (drop from root) tail (omega (arith, length-drop from root, stopped stops)))
            | inr goes_on ↦
                ap (λ xs. xs ++ take (result - end) tail) (take_all end (drop from root) (omega (arith, length-drop from root)))
                ∙ sym (
                ap (take result) (drop-append-le from root tail within)
                ∙ ap (λ n. take n (drop from root ++ tail)) (let sum : result ≡ length (drop from root) + (result - end) = omega (arith, length-drop from root) in sum)
                ∙ take-append-add (drop from root) tail (result - end)
                )
          ]

-- where a test on items turns false
module _ {A : Type 0} (holds : A → Bool) (root tail : List A) (parted : IsPartitionedBy holds (root ++ tail)) where
  abbrev IsPoint : List A → ℕ → Type 0
  IsPoint items place = IsPartitionPoint (λ item. holds item ≡ true) (λ item. holds item ≡ false) items place

  at_root : (k : ℕ) (d : A) → k < length root → get_or (root ++ tail) k d ≡ get_or root k d
  at_root k d within = get_or_append_left root tail d k within

  at_tail : (k : ℕ) (d : A) → get_or (root ++ tail) (length root + k) d ≡ get_or tail k d
  at_tail k d = get_or-append-add root tail k d

  root_parted : IsPartitionedBy holds root
  root_parted i j d order within holding =
      ap holds (sym (at_root i d (omega arith)))
      ∙ parted i j d order (omega (arith, length-append root tail)) (ap holds (at_root j d within) ∙ holding)

  tail_parted : IsPartitionedBy holds tail
  tail_parted i j d order within holding =
      ap holds (sym (at_tail i d))
      ∙ parted (length root + i) (length root + j) d (omega arith) (omega (arith, length-append root tail)) (ap holds (at_tail j d) ∙ holding)

  -- among the items of the tail, where the test holds of the first of them
  turns_in_tail : (x : A) → slice_get tail 0 ≡ Some x → holds x ≡ true → (place : ℕ) → place ≤ length tail → IsPoint tail place → IsPoint (root ++ tail) (length root + place)
  turns_in_tail x is holding place within point = (
    λ k d above below. elim (cases_lt k (length root)) [
      | inl before ↦ parted k (length root) d (omega arith) (omega (arith, length-append root tail, slice_get_within tail 0 x is)) (holds_first d)
      | inr beyond ↦ ap holds (shifted k d beyond) ∙ point.0 (k - length root) d (omega arith) (omega arith)
    ],
    λ k d above below. ap holds (shifted k d (omega arith)) ∙ point.1 (k - length root) d (omega arith) (omega (arith, length-append root tail)),
  ) where
    shifted : (k : ℕ) (d : A) → length root ≤ k → get_or (root ++ tail) k d ≡ get_or tail (k - length root) d
    shifted k d beyond = ap (λ n. get_or (root ++ tail) n d) (beyond_is root tail k beyond) ∙ at_tail (k - length root) d

    holds_first : (d : A) → holds (get_or (root ++ tail) (length root) d) ≡ true
    holds_first d =
        ap (λ n. holds (get_or (root ++ tail) n d)) (let same : length root ≡ length root + 0 = omega arith in same)
        ∙ ap holds (at_tail 0 d ∙ get_or_from_slice_get tail 0 x d is)
        ∙ holding

  -- among those of the root, where it does not hold of the first of the tail
  turns_in_root : ((d : A) → 0 < length tail → holds (get_or tail 0 d) ≡ false) → (place : ℕ) → place ≤ length root → IsPoint root place → IsPoint (root ++ tail) place
  turns_in_root failing place within point = (
    λ k d above below. ap holds (at_root k d (omega arith)) ∙ point.0 k d above below,
    λ k d above below. elim (cases_lt k (length root)) [
      | inl before ↦ ap holds (at_root k d before) ∙ point.1 k d above before
      | inr beyond ↦ fails_beyond k d beyond below
    ],
  ) where
    fails_beyond : (k : ℕ) (d : A) → length root ≤ k → k < length (root ++ tail) → holds (get_or (root ++ tail) k d) ≡ false
    fails_beyond k d beyond below = elim (cases_Bool (holds (get_or (root ++ tail) k d))) [
      | inl holding ↦ absurd (cc (
        parted (length root + 0) k d (omega arith) below holding,
        ap holds (at_tail 0 d),
        failing d (omega (arith, length-append root tail)),
      ))
      | inr fails ↦ fails
    ]

-- what a search for that place finds
module _ {A F : Type 0} (calls : Shared F (Bor A × Unit {0}) Bool) (test : F) (root tail items : List A) (items_are : root ++ tail ≡ items) (place : ℕ) where
  pub finds_in_tail : (x : A) (answer : Bool) → slice_get tail 0 ≡ Some x → FnReturnsAt calls test x answer → answer ≡ true → place ≤ length tail
      → FindsPartition calls test tail place → (found : ℕ) → found ≡ length root + place → FindsPartition calls test items found
  finds_in_tail x answer is call holding within finds found found_is holds tells parted =
      let whole = subst (IsPartitionedBy holds) (sym items_are) parted in
      let point = turns_in_tail holds root tail whole x is (sym (tells x answer call) ∙ holding) place within (finds holds tells (tail_parted holds root tail whole)) in
      subst (λ xs. IsPartitionPoint (λ item. holds item ≡ true) (λ item. holds item ≡ false) xs found) items_are
      (subst (IsPartitionPoint (λ item. holds item ≡ true) (λ item. holds item ≡ false) (root ++ tail)) (sym found_is) point)

  -- the test does not hold of the first item of the tail, or there is none
  finds_before : ((holds : A → Bool) → TellsItems calls test holds → (d : A) → 0 < length tail → holds (get_or tail 0 d) ≡ false) → place ≤ length root
      → FindsPartition calls test root place → FindsPartition calls test items place
  finds_before failing within finds holds tells parted =
      let whole = subst (IsPartitionedBy holds) (sym items_are) parted in
      subst (λ xs. IsPartitionPoint (λ item. holds item ≡ true) (λ item. holds item ≡ false) xs place) items_are
      (turns_in_root holds root tail whole (failing holds tells) place within (finds holds tells (root_parted holds root tail whole)))

  pub finds_in_root : (x : A) (answer : Bool) → slice_get tail 0 ≡ Some x → FnReturnsAt calls test x answer → answer ≡ false → place ≤ length root
      → FindsPartition calls test root place → FindsPartition calls test items place
  finds_in_root x answer is call failing within finds =
      finds_before (λ holds tells d some. ap holds (get_or_from_slice_get tail 0 x d is) ∙ sym (tells x answer call) ∙ failing) within finds

  pub finds_alone : length tail ≡ 0 → place ≤ length root → FindsPartition calls test root place → FindsPartition calls test items place
  finds_alone none within finds = finds_before (λ holds tells d some. absurd (omega arith)) within finds
