-- Lists of the same items, put in order, are one list.
use Rattle.std.proofs.Common.{◌≡◌, ℕ, ◌<◌, Bool, true, false, not, ◌&&◌, cond, List, [], ◌∷◌, refl, sym, ap, ◌∙◌, arith, inl, inr}
use Rattle.std.specs.List.{count_by}
use Rattle.std.proofs.lemmas.Bool.{cases_Bool}
use Rattle.lifetime_segments.specs.Ordered.{IsOrder, insert_by, in_order}
use Rattle.lifetime_segments.specs.OrderedLaws.{insert_by-swap}
use Rattle.retro_dictionary.proofs.AsMany.{HaveSameItems, count-cons, same-refl, same-trans, same-cons, same-middle}

counted_yes : (b : Bool) → b ≡ true → cond {A = ℕ} b 1 0 ≡ 1
counted_yes true passes = refl
counted_yes false passes = absurd (cc)

counted_no : (b : Bool) → b ≡ false → cond {A = ℕ} b 1 0 ≡ 0
counted_no true fails = absurd (cc)
counted_no false fails = refl

same_tests : (a b : Bool) → (not a && not b) ≡ true → (a ≡ false) × (b ≡ false)
same_tests true b h = absurd (cc)
same_tests false true h = absurd (cc)
same_tests false false h = (refl, refl)

module _ {A : Type 0} {before : A → A → Bool} (order : IsOrder before) where
  -- the same item
  abbrev is : A → A → Bool
  is x y = not (before x y) && not (before y x)

  is-itself : (x : A) → is x x ≡ true
  is-itself x = rw (order.strict x) refl

  -- a list with one of its items at the front
  record HasOne (x : A) (ys : List A) : Type 0 where
    rest : List A
    ordered : in_order before ys ≡ insert_by before x (in_order before rest)
    items : HaveSameItems ys (x ∷ rest)

  one_more : (x y : A) (ys : List A) → HasOne x ys → HasOne x (y ∷ ys)
  one_more x y ys one = record {
    rest = y ∷ one.rest;
    ordered = ap (insert_by before y) one.ordered ∙ insert_by-swap order y x (in_order before one.rest);
    items = same-trans (y ∷ ys) (y ∷ x ∷ one.rest) (x ∷ y ∷ one.rest) (same-cons y ys (x ∷ one.rest) one.items) (same-middle (y ∷ []) x one.rest);
  }

  has_one : (x : A) (ys : List A) → 0 < count_by (is x) ys → HasOne x ys
  has_one x [] some = absurd (omega arith)
  has_one x (y ∷ ys) some = elim (cases_Bool (is x y)) [
    | inl this ↦
        let both = same_tests (before x y) (before y x) this in
        let one : x ≡ y = order.total x y both.0 both.1 in
        record { rest = ys; ordered = rw one refl; items = rw one (same-refl (y ∷ ys)) }
    | inr other ↦ one_more x y ys (has_one x ys (omega (arith, count-cons (is x) y ys, counted_no (is x y) other)))
  ]

  none_there : (ys : List A) → HaveSameItems [] ys → ys ≡ []
  none_there [] same = refl
  none_there (y ∷ ys) same = absurd (omega (arith, same.as_many (λ x. true), count-cons (λ x. true) y ys))

  rest_same : (x : A) (xs ys : List A) → HaveSameItems (x ∷ xs) (x ∷ ys) → HaveSameItems xs ys
  rest_same x xs ys same = record { as_many = λ test. omega (arith, same.as_many test, count-cons test x xs, count-cons test x ys) }

  pub in_order-same : (xs ys : List A) → HaveSameItems xs ys → in_order before xs ≡ in_order before ys
  in_order-same [] ys same = rw (none_there ys same) refl
  in_order-same (x ∷ xs) ys same =
      let there : 0 < count_by (is x) ys = omega (arith, same.as_many (is x), count-cons (is x) x xs, counted_yes (is x x) (is-itself x)) in
      let one = has_one x ys there in
      ap (insert_by before x) (in_order-same xs one.rest (rest_same x xs one.rest (same-trans (x ∷ xs) ys (x ∷ one.rest) same one.items))) ∙ sym one.ordered
