-- Of few lifetimes, which stand by their items, those below the lower end of a query and those above its upper end answer nothing.
use Rattle.std.proofs.Common.{◌≡◌, ℕ, zero, suc, ◌+◌, ◌≤◌, Bool, true, false, List, [], ◌∷◌, ◌++◌, length, take, drop, slice_get, Some, refl, sym, ap, ◌∙◌, arith}
use Rattle.std.specs.Prelude.{◌||◌, slice_index_or}
use Rattle.std.proofs.lemmas.List.{length-append, take-append-drop}
use Rattle.std.specs.List.{AllByRecursion}
use Rattle.std.specs.List.Sorted.{IsPartitionPoint, IsPartitionedBy}
use Rattle.retro_base.specs.OrderLaws.{all_weaker}
use Rattle.lifetime_segments.specs.declared.lifetime.Lifetime.{Lifetime}
use Rattle.lifetime_segments.specs.Lawful.{most_items, AreLawful, RangeLaws, SearchLaws}
use Rattle.lifetime_segments.specs.Ordered.{IsOrder, AreInOrder, in_order}
use Rattle.lifetime_segments.specs.OrderedLaws.{all-in_order, in_order-absorbs, in_order-ordered, length-in_order}
use Rattle.lifetime_segments.specs.Lifetimes.{items_at, stands_by_item}
use Rattle.lifetime_segments.proofs.FewLives.{items_at-all, items_at-append}
use Rattle.lifetime_segments.proofs.Nodes.{absorbs_after, items_at-few}
use Rattle.lifetime_segments.proofs.Places.{all_at}

abbrev pub item_below : {A Q : Type 0} → (Q → A → Bool) → Q → Lifetime A → Bool
item_below below query life = below query life.item

pub front_all : {X : Type 0} (test : X → Bool) (xs : List X) (count : ℕ) → count ≤ length xs → IsPartitionPoint (λ x. test x ≡ true) (λ x. test x ≡ false) xs count
    → AllByRecursion (λ x. test x ≡ true) (take count xs)
front_all test [] zero within point = tt
front_all test (x ∷ xs) zero within point = tt
front_all test [] (suc count) within point = absurd (omega arith)
front_all test (x ∷ xs) (suc count) within point = (
  point.0 0 x (omega arith) (omega arith),
  front_all test xs count (omega arith) (λ k d from to. point.0 (suc k) d (omega arith) (omega arith), λ k d from to. point.1 (suc k) d (omega arith) (omega arith)),
)

-- of two lifetimes in their order the items are in theirs
item_after : {A : Type 0} (before : A → A → Bool) (x y : Lifetime A) → stands_by_item before y x ≡ false → before y.item x.item ≡ false
item_after before x y after = neither (before y.item x.item) _ after where
  neither : (a b : Bool) → (a || b) ≡ false → a ≡ false
  neither true b never = absurd (cc)
  neither false b _ = refl

pub below-parted : {A Q P : Type 0} {before : A → A → Bool} {answer : List A → Q → P} {below above : Q → A → Bool} (ranges : RangeLaws before answer below above) (query : Q) (lives : List (Lifetime A))
    → AreInOrder (stands_by_item before) lives → IsPartitionedBy (item_below below query) lives
below-parted ranges query [] ordered i j d up within here = absurd (omega arith)
below-parted ranges query (x ∷ xs) ordered zero zero d up within here = here
below-parted {before = before} ranges query (x ∷ xs) ordered zero (suc j) d up within here =
    ranges.below_downward query x.item (slice_index_or xs j d).item
    (item_after before x (slice_index_or xs j d) (all_at (λ later. stands_by_item before later x ≡ false) xs j d ordered.0 (omega arith))) here
below-parted ranges query (x ∷ xs) ordered (suc i) zero d up within here = absurd (omega arith)
below-parted ranges query (x ∷ xs) ordered (suc i) (suc j) d up within here = below-parted ranges query xs ordered.1 i j d (omega arith) (omega arith) here

module _ {A Q P : Type 0} {before : A → A → Bool} {answer : List A → Q → P} {empty : P} {combined : P → P → P} {below above : Q → A → Bool}
    (order : IsOrder before) (laws : SearchLaws before answer empty combined) (ranges : RangeLaws before answer below above) (query : Q) where
  -- lifetimes below it answer nothing
  pub nothing_below : (label : ℕ) (lives : List (Lifetime A)) → AllByRecursion (λ life. item_below below query life ≡ true) lives → empty ≡ answer (in_order before (items_at label lives)) query
  nothing_below label lives all =
      let Below : A → Type 0 = λ x. below query x ≡ true in
      sym (ranges.of_below (in_order before (items_at label lives)) query (all-in_order Below before (items_at label lives) (items_at-all Below label lives all)) ∙ laws.of_none query)

  all_above : (lives : List (Lifetime A)) (place : ℕ) (life : Lifetime A) → AreInOrder (stands_by_item before) lives → slice_get lives place ≡ Some life → above query life.item ≡ true
      → AllByRecursion (λ later. above query later.item ≡ true) (drop place lives)
  all_above [] place life ordered there over = absurd (cc)
  all_above (x ∷ xs) zero life ordered there over =
      let same : x ≡ life = cc in
      let here : above query x.item ≡ true = ap (λ l. above query l.item) same ∙ over in
      (here, all_weaker (λ later. stands_by_item before later x ≡ false) (λ later. above query later.item ≡ true) xs (λ later after. ranges.above_upward query x.item later.item (item_after before x later after) here) ordered.0)
  all_above (x ∷ xs) (suc place) life ordered there over = all_above xs place life ordered.1 there over

  -- nor do those from one above it on
  pub nothing_above : (label : ℕ) (lives : List (Lifetime A)) (place : ℕ) (life : Lifetime A) → AreInOrder (stands_by_item before) lives → length lives ≤ most_items
      → slice_get lives place ≡ Some life → above query life.item ≡ true
      → answer (in_order before (items_at label (take place lives))) query ≡ answer (in_order before (items_at label lives)) query
  nothing_above label lives place life ordered few there over =
      let seen = items_at label (take place lives) in
      let rest = items_at label (drop place lives) in
      let Above : A → Type 0 = λ x. above query x ≡ true in
      let nothing : answer (in_order before rest) query ≡ empty =
      ranges.of_above (in_order before rest) query (all-in_order Above before rest (items_at-all Above label (drop place lives) (all_above lives place life ordered there over))) ∙ laws.of_none query in
      let parted : take place lives ++ drop place lives ≡ lives = take-append-drop place lives in
      let many : length (in_order before seen) + length (in_order before rest) ≤ most_items =
      omega (
        arith,
        length-in_order before seen,
        length-in_order before rest,
        items_at-few label (take place lives),
        items_at-few label (drop place lives),
        length-append (take place lives) (drop place lives),
        ap length parted,
        few,
      ) in
      let lawful : AreLawful before (in_order before seen) (in_order before rest) = record {
        first_ordered = in_order-ordered order seen;
        second_ordered = in_order-ordered order rest;
        few = many;
      } in
      sym (laws.right_unit (in_order before seen) query (record { ordered = in_order-ordered order seen; few = omega (arith, many) }))
      ∙ ap (combined (answer (in_order before seen) query)) (sym nothing)
      ∙ sym (laws.together (in_order before seen) (in_order before rest) query lawful)
      ∙ ap (λ items. answer items query)
      (in_order-absorbs order seen (in_order before rest)
      ∙ absorbs_after order seen rest
      ∙ ap (in_order before) (sym (items_at-append label (take place lives) (drop place lives)) ∙ ap (items_at label) parted))
