-- Both orders of lifetimes are strict and total, and which items are there at a label does not depend on the order of the list.
use Rattle.std.proofs.Common.{◌≡◌, ℕ, ◌⊎◌, Bool, true, false, cond, List, [], ◌∷◌, inl, inr, refl, sym, ap, ◌∙◌, arith}
use Rattle.std.specs.Prelude.{◌==◌, ◌&&◌, ◌||◌, not, nat_lt, map}
use Rattle.std.specs.List.{filter}
use Rattle.std.proofs.lemmas.Bool.Decides.{nat_tests}
use Rattle.lifetime_segments.specs.declared.lifetime.Lifetime.{Lifetime}
use Rattle.lifetime_segments.specs.Ordered.{IsOrder, insert_by, in_order}
use Rattle.lifetime_segments.specs.OrderedLaws.{insert_by-either, insert_by-swap}
use Rattle.lifetime_segments.specs.Lifetimes.{lifetime, holds, items_at, stands_earlier, stands_by_item}

-- a strict order whose ties are the same in some sense
pub record IsOrderUpTo {X : Type 0} (before : X → X → Bool) (Same : X → X → Type 0) : Type 0 where
  pub strict : (x : X) → before x x ≡ false
  pub chains : (x y z : X) → before x y ≡ true → before y z ≡ true → before x z ≡ true
  pub total : (x y : X) → before x y ≡ false → before y x ≡ false → Same x y

-- by an order of something first, and by another one where that has a tie
abbrev pub tied_by : {Y : Type 0} → (Y → Y → Bool) → Y → Y → Bool → Bool
tied_by before a b rest = before a b || (not (before b a) && rest)

module _ {Y : Type 0} {before : Y → Y → Bool} (order : IsOrder before) where
  tied_by-less : (a b : Y) (rest : Bool) → before a b ≡ true → tied_by before a b rest ≡ true
  tied_by-less a b rest less = ap (λ up. up || (not (before b a) && rest)) less

  tied_by-same : (a : Y) (rest : Bool) → tied_by before a a rest ≡ rest
  tied_by-same a rest = ap (λ up. up || (not up && rest)) (order.strict a)

  tied_by-true : (a b : Y) (rest : Bool) → tied_by before a b rest ≡ true → (before a b ≡ true) ⊎ ((a ≡ b) × (rest ≡ true))
  tied_by-true a b rest up = elim (before a b) as (λ u. before a b ≡ u → (u || (not (before b a) && rest)) ≡ true → (u ≡ true) ⊎ ((a ≡ b) × (rest ≡ true))) [
    | true ↦ λ _ _. inl refl
    | false ↦ λ not_up. elim (before b a) as (λ d. before b a ≡ d → (not d && rest) ≡ true → (false ≡ true) ⊎ ((a ≡ b) × (rest ≡ true))) [
      | true ↦ λ _ never. absurd (cc)
      | false ↦ λ not_down there. inr (order.total a b not_up not_down, there)
    ] refl
  ] refl up

  tied_by-false : (a b : Y) (rest : Bool) → tied_by before a b rest ≡ false → (before b a ≡ true) ⊎ ((a ≡ b) × (rest ≡ false))
  tied_by-false a b rest up = elim (before a b) as (λ u. before a b ≡ u → (u || (not (before b a) && rest)) ≡ false → (before b a ≡ true) ⊎ ((a ≡ b) × (rest ≡ false))) [
    | true ↦ λ _ never. absurd (cc)
    | false ↦ λ not_up. elim (before b a) as (λ d. before b a ≡ d → (not d && rest) ≡ false → (d ≡ true) ⊎ ((a ≡ b) × (rest ≡ false))) [
      | true ↦ λ _ _. inl refl
      | false ↦ λ not_down gone. inr (order.total a b not_up not_down, gone)
    ] refl
  ] refl up

  pub tied_order : {X : Type 0} (f : X → Y) (rest : X → X → Bool) (Same : X → X → Type 0) → IsOrderUpTo rest Same
      → IsOrderUpTo (λ x y. tied_by before (f x) (f y) (rest x y)) (λ x y. (f x ≡ f y) × Same x y)
  tied_order {X} f rest Same ties = record {
    strict = λ x. tied_by-same (f x) (rest x x) ∙ ties.strict x;
    chains = λ x y z first second. elim (tied_by-true (f x) (f y) (rest x y) first) [
      | inl less ↦ elim (tied_by-true (f y) (f z) (rest y z) second) [
        | inl later ↦ tied_by-less (f x) (f z) (rest x z) (order.chains (f x) (f y) (f z) less later)
        | inr level ↦ tied_by-less (f x) (f z) (rest x z) (ap (before (f x)) (sym level.0) ∙ less)
      ]
      | inr tied ↦ elim (tied_by-true (f y) (f z) (rest y z) second) [
        | inl later ↦ tied_by-less (f x) (f z) (rest x z) (ap (λ a. before a (f z)) tied.0 ∙ later)
        | inr level ↦ ap (λ a. tied_by before a (f z) (rest x z)) (tied.0 ∙ level.0) ∙ tied_by-same (f z) (rest x z) ∙ ties.chains x y z tied.1 level.1
      ]
    ];
    total = λ x y first second. elim (tied_by-false (f x) (f y) (rest x y) first) [
      | inl over ↦ elim (tied_by-false (f y) (f x) (rest y x) second) [
        | inl under ↦ absurd (let loop : true ≡ false = sym (order.chains (f y) (f x) (f y) over under) ∙ order.strict (f y) in cc)
        | inr level ↦ absurd (let loop : true ≡ false = sym over ∙ ap (λ a. before a (f x)) level.0 ∙ order.strict (f x) in cc)
      ]
      | inr tied ↦ elim (tied_by-false (f y) (f x) (rest y x) second) [
        | inl under ↦ absurd (let loop : true ≡ false = sym under ∙ ap (λ a. before a (f y)) tied.0 ∙ order.strict (f y) in cc)
        | inr level ↦ (tied.0, ties.total x y tied.1 level.1)
      ]
    ];
  }

-- the same order in other words
pub order_as : {X : Type 0} (before other : X → X → Bool) (Same : X → X → Type 0) → ((x y : X) → other x y ≡ before x y) → IsOrderUpTo before Same → IsOrderUpTo other Same
order_as before other Same same order = record {
  strict = λ x. same x x ∙ order.strict x;
  chains = λ x y z first second. same x z ∙ order.chains x y z (sym (same x y) ∙ first) (sym (same y z) ∙ second);
  total = λ x y first second. order.total x y (sym (same x y) ∙ first) (sym (same y x) ∙ second);
}

number_order : IsOrder nat_lt
number_order = record { strict = strict; chains = chains; total = total } where
  strict : (n : ℕ) → nat_lt n n ≡ false
  strict n = grind (arith, nat_tests)

  chains : (m n o : ℕ) → nat_lt m n ≡ true → nat_lt n o ≡ true → nat_lt m o ≡ true
  chains m n o first second = grind (arith, nat_tests)

  total : (m n : ℕ) → nat_lt m n ≡ false → nat_lt n m ≡ false → m ≡ n
  total m n first second = grind (arith, nat_tests)

-- by a number first, and by another order where it is the same
order_by : {X : Type 0} (f : X → ℕ) (rest : X → X → Bool) (Same : X → X → Type 0) → IsOrderUpTo rest Same
    → IsOrderUpTo (λ x y. nat_lt (f x) (f y) || ((f x == f y) && rest x y)) (λ x y. (f x ≡ f y) × Same x y)
order_by f rest Same order = order_as (λ x y. tied_by nat_lt (f x) (f y) (rest x y)) _ _ (λ x y. tied (f x) (f y) (rest x y)) (tied_order number_order f rest Same order) where
  tied : (m n : ℕ) (b : Bool) → (nat_lt m n || ((m == n) && b)) ≡ tied_by nat_lt m n b
  tied m n true = grind (arith, nat_tests)
  tied m n false = grind (arith, nat_tests)

same_lifetime : {A : Type 0} (x y : Lifetime A) → x.from ≡ y.from → x.to ≡ y.to → x.item ≡ y.item → x ≡ y
same_lifetime x y from to item =
    let parts : lifetime x.from x.to x.item ≡ lifetime y.from y.to y.item = ap (λ n. lifetime n x.to x.item) from ∙ ap (λ n. lifetime y.from n x.item) to ∙ ap (lifetime y.from y.to) item in
    parts

module _ {A : Type 0} {before : A → A → Bool} (order : IsOrder before) where
  -- lifetimes have a strict total order
  pub earlier_order : IsOrder (stands_earlier before)
  earlier_order =
      let by_item : IsOrderUpTo (λ (x : Lifetime A) (y : Lifetime A). before x.item y.item) (λ x y. x.item ≡ y.item) =
      record { strict = λ x. order.strict x.item; chains = λ x y z. order.chains x.item y.item z.item; total = λ x y. order.total x.item y.item } in
      let by_to = order_by (λ (x : Lifetime A). x.to) (λ x y. before x.item y.item) (λ x y. x.item ≡ y.item) by_item in
      let by_from = order_by (λ (x : Lifetime A). x.from) (λ x y. nat_lt x.to y.to || ((x.to == y.to) && before x.item y.item)) (λ x y. (x.to ≡ y.to) × (x.item ≡ y.item)) by_to in
      record {
        strict = by_from.strict;
        chains = by_from.chains;
        total = λ x y first second. let same = by_from.total x y first second in same_lifetime x y same.0 same.1.0 same.1.1;
      }

  -- by their items they have another one
  pub by_item_order : IsOrder (stands_by_item before)
  by_item_order =
      let by_to : IsOrderUpTo (λ (x : Lifetime A) (y : Lifetime A). nat_lt x.to y.to) (λ x y. x.to ≡ y.to) =
      record { strict = λ x. number_order.strict x.to; chains = λ x y z. number_order.chains x.to y.to z.to; total = λ x y. number_order.total x.to y.to } in
      let by_from = order_by (λ (x : Lifetime A). x.from) (λ x y. nat_lt x.to y.to) (λ x y. x.to ≡ y.to) by_to in
      let by_item_first = tied_order order (λ (x : Lifetime A). x.item) (λ x y. nat_lt x.from y.from || ((x.from == y.from) && nat_lt x.to y.to)) (λ x y. (x.from ≡ y.from) × (x.to ≡ y.to)) by_from in
      record {
        strict = by_item_first.strict;
        chains = by_item_first.chains;
        total = λ x y first second. let same = by_item_first.total x y first second in same_lifetime x y same.1.0 same.1.1 same.0;
      }

  -- an element that is put in, or not
  abbrev also : Bool → A → List A → List A
  also there x xs = cond there (insert_by before x xs) xs

  also-swap : (a b : Bool) (x y : A) (xs : List A) → also a x (also b y xs) ≡ also b y (also a x xs)
  also-swap true true x y xs = insert_by-swap order x y xs
  also-swap true false x y xs = refl
  also-swap false true x y xs = refl
  also-swap false false x y xs = refl

  items_at-cons : (label : ℕ) (life : Lifetime A) (lives : List (Lifetime A)) → in_order before (items_at label (life ∷ lives)) ≡ also (holds label life) life.item (in_order before (items_at label lives))
  items_at-cons label life lives = elim (holds label life) as
      (λ b. in_order before (map (λ l. l.item) (cond b (life ∷ filter (holds label) lives) (filter (holds label) lives)))
      ≡ also b life.item (in_order before (items_at label lives))) [
        | true ↦ refl
        | false ↦ refl
      ]

  -- a lifetime that is put in
  items_at-insert_by : (label : ℕ) (life : Lifetime A) (lives : List (Lifetime A)) → in_order before (items_at label (insert_by (stands_earlier before) life lives)) ≡ in_order before (items_at label (life ∷ lives))
  items_at-insert_by label life [] = refl
  items_at-insert_by label life (first ∷ lives) = insert_by-either (λ ls. in_order before (items_at label ls) ≡ in_order before (items_at label (life ∷ first ∷ lives))) (stands_earlier before) life first lives
      (items_at-cons label first (insert_by (stands_earlier before) life lives)
      ∙ ap (also (holds label first) first.item) (items_at-insert_by label life lives ∙ items_at-cons label life lives)
      ∙ also-swap (holds label first) (holds label life) first.item life.item (in_order before (items_at label lives))
      ∙ sym (items_at-cons label life (first ∷ lives) ∙ ap (also (holds label life) life.item) (items_at-cons label first lives)))
      refl

  -- which items are there at a label does not depend on the order of the lifetimes
  pub items_at-in_order : (label : ℕ) (lives : List (Lifetime A)) → in_order before (items_at label (in_order (stands_earlier before) lives)) ≡ in_order before (items_at label lives)
  items_at-in_order label [] = refl
  items_at-in_order label (life ∷ lives) =
      items_at-insert_by label life (in_order (stands_earlier before) lives)
      ∙ items_at-cons label life (in_order (stands_earlier before) lives)
      ∙ ap (also (holds label life) life.item) (items_at-in_order label lives)
      ∙ sym (items_at-cons label life lives)
