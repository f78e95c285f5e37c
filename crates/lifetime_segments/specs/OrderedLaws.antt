-- What an order gives.
use Rattle.std.proofs.Common.{◌≡◌, suc, ◌≤◌, Bool, true, false, cond, not, List, [], ◌∷◌, ◌++◌, length, refl, sym, ap, ◌∙◌, arith}
use Rattle.std.specs.List.{AllByRecursion}
use Rattle.retro_base.specs.OrderLaws.{all_weaker}
use Rattle.lifetime_segments.specs.Ordered.{IsOrder, AreInOrder, insert_by, in_order, is_in, without}

-- what holds of a list with an element put in, or without one, by what becomes of its front
pub insert_by-either : {A : Type 0} (P : List A → Type 0) (before : A → A → Bool) (x y : A) (ys : List A) → P (y ∷ insert_by before x ys) → P (x ∷ y ∷ ys) → P (insert_by before x (y ∷ ys))
insert_by-either P before x y ys past here = elim (before y x) as (λ b. P (cond b (y ∷ insert_by before x ys) (x ∷ y ∷ ys))) [
  | true ↦ past
  | false ↦ here
]

without-either : {A : Type 0} (P : List A → Type 0) (before : A → A → Bool) (x y : A) (ys : List A) → P (y ∷ without before x ys) → P (y ∷ ys) → P ys → P (without before x (y ∷ ys))
without-either P before x y ys past stays gone = elim (before y x) as (λ b. P (cond b (y ∷ without before x ys) (cond (before x y) (y ∷ ys) ys))) [
  | true ↦ past
  | false ↦ elim (before x y) as (λ b. P (cond b (y ∷ ys) ys)) [
    | true ↦ stays
    | false ↦ gone
  ]
]

pub length-insert_by : {A : Type 0} (before : A → A → Bool) (x : A) (xs : List A) → length (insert_by before x xs) ≡ suc (length xs)
length-insert_by before x [] = refl
length-insert_by before x (y ∷ ys) = insert_by-either (λ zs. length zs ≡ suc (suc (length ys))) before x y ys (ap suc (length-insert_by before x ys)) refl

pub length-in_order : {A : Type 0} (before : A → A → Bool) (xs : List A) → length (in_order before xs) ≡ length xs
length-in_order before [] = refl
length-in_order before (x ∷ xs) = length-insert_by before x (in_order before xs) ∙ ap suc (length-in_order before xs)

pub length-without : {A : Type 0} (before : A → A → Bool) (x : A) (xs : List A) → length (without before x xs) ≤ length xs
length-without before x [] = omega arith
length-without before x (y ∷ ys) = let fewer = length-without before x ys in without-either (λ zs. length zs ≤ suc (length ys)) before x y ys (omega arith) (omega arith) (omega arith)

-- what holds of all elements and of one more holds of all after it is put in
pub all-insert_by : {A : Type 0} (P : A → Type 0) (before : A → A → Bool) (x : A) (xs : List A) → P x → AllByRecursion P xs → AllByRecursion P (insert_by before x xs)
all-insert_by P before x [] here all = (here, tt)
all-insert_by P before x (y ∷ ys) here all = insert_by-either (AllByRecursion P) before x y ys (all.0, all-insert_by P before x ys here all.1) (here, all)

pub all-in_order : {A : Type 0} (P : A → Type 0) (before : A → A → Bool) (xs : List A) → AllByRecursion P xs → AllByRecursion P (in_order before xs)
all-in_order P before [] all = tt
all-in_order P before (x ∷ xs) all = all-insert_by P before x (in_order before xs) all.0 (all-in_order P before xs all.1)

pub all-without : {A : Type 0} (P : A → Type 0) (before : A → A → Bool) (x : A) (xs : List A) → AllByRecursion P xs → AllByRecursion P (without before x xs)
all-without P before x [] all = tt
all-without P before x (y ∷ ys) all = without-either (AllByRecursion P) before x y ys (all.0, all-without P before x ys all.1) all all.1

-- where it is not there, the list without it is the list
pub without-none : {A : Type 0} (before : A → A → Bool) (x : A) (xs : List A) → is_in before x xs ≡ false → without before x xs ≡ xs
without-none before x [] none = refl
without-none before x (y ∷ ys) none = elim (before y x) as (λ b. cond b (is_in before x ys) (not (before x y)) ≡ false → cond b (y ∷ without before x ys) (cond (before x y) (y ∷ ys) ys) ≡ y ∷ ys) [
  | true ↦ λ none. ap (λ zs. y ∷ zs) (without-none before x ys none)
  | false ↦ elim (before x y) as (λ b. not b ≡ false → cond b (y ∷ ys) ys ≡ y ∷ ys) [
    | true ↦ λ _. refl
    | false ↦ λ none. absurd (cc)
  ]
] none

module _ {A : Type 0} {before : A → A → Bool} (order : IsOrder before) where
  pub not_both : (x y : A) → before x y ≡ true → before y x ≡ false
  not_both x y up = elim (before y x) as (λ b. before y x ≡ b → b ≡ false) [
    | true ↦ λ down. sym (order.chains x y x up down) ∙ order.strict x
    | false ↦ λ _. refl
  ] refl

  -- what stands before one element and not before another has the other before the first
  pub between : (x y z : A) → before z x ≡ true → before z y ≡ false → before y x ≡ true
  between x y z near far = elim (before y x) as (λ b. before y x ≡ b → b ≡ true) [
    | true ↦ λ _. refl
    | false ↦ λ not_under. elim (before x y) as (λ b. before x y ≡ b → false ≡ true) [
      | true ↦ λ under. sym far ∙ order.chains z x y near under
      | false ↦ λ not_over. sym far ∙ ap (before z) (order.total y x not_under not_over) ∙ near
    ] refl
  ] refl

  pub insert_by-past : (x y : A) (ys : List A) → before y x ≡ true → insert_by before x (y ∷ ys) ≡ y ∷ insert_by before x ys
  insert_by-past x y ys past = ap (λ b. cond b (y ∷ insert_by before x ys) (x ∷ y ∷ ys)) past

  pub insert_by-here : (x y : A) (ys : List A) → before y x ≡ false → insert_by before x (y ∷ ys) ≡ x ∷ y ∷ ys
  insert_by-here x y ys here = ap (λ b. cond b (y ∷ insert_by before x ys) (x ∷ y ∷ ys)) here

  is_in-past : (x y : A) (ys : List A) → before y x ≡ true → is_in before x (y ∷ ys) ≡ is_in before x ys
  is_in-past x y ys past = ap (λ b. cond b (is_in before x ys) (not (before x y))) past

  without-past : (x y : A) (ys : List A) → before y x ≡ true → without before x (y ∷ ys) ≡ y ∷ without before x ys
  without-past x y ys past = ap (λ b. cond b (y ∷ without before x ys) (cond (before x y) (y ∷ ys) ys)) past

  here_is_in : (x : A) (xs : List A) → is_in before x (x ∷ xs) ≡ true
  here_is_in x xs = ap (λ b. cond b (is_in before x xs) (not b)) (order.strict x)

  here_without : (x : A) (xs : List A) → without before x (x ∷ xs) ≡ xs
  here_without x xs = ap (λ b. cond b (x ∷ without before x xs) (cond b (x ∷ xs) xs)) (order.strict x)

  -- at the front of a list, of two elements that stand there
  swap_here : (x y : A) (xs : List A) → insert_by before x xs ≡ x ∷ xs → insert_by before y xs ≡ y ∷ xs → insert_by before x (insert_by before y xs) ≡ insert_by before y (insert_by before x xs)
  swap_here x y xs at_x at_y = ap (insert_by before x) at_y ∙ (elim (before y x) as (λ b. before y x ≡ b → insert_by before x (y ∷ xs) ≡ insert_by before y (x ∷ xs)) [
    | true ↦ λ past. insert_by-past x y xs past ∙ ap (λ zs. y ∷ zs) at_x ∙ sym (insert_by-here y x xs (not_both y x past))
    | false ↦ λ here. insert_by-here x y xs here ∙ elim (before x y) as (λ b. before x y ≡ b → x ∷ y ∷ xs ≡ insert_by before y (x ∷ xs)) [
      | true ↦ λ up. ap (λ zs. x ∷ zs) (sym at_y) ∙ sym (insert_by-past y x xs up)
      | false ↦ λ level. let same : x ≡ y = order.total x y level here in rw (same, insert_by-here y y xs (order.strict y)) refl
    ] refl
  ] refl) ∙ sym (ap (insert_by before y) at_x)

  -- it does not matter which of two elements is put in first
  pub insert_by-swap : (x y : A) (xs : List A) → insert_by before x (insert_by before y xs) ≡ insert_by before y (insert_by before x xs)
  insert_by-swap x y [] = swap_here x y [] refl refl
  insert_by-swap x y (z ∷ zs) =
      elim (before z x) as (λ b. before z x ≡ b → insert_by before x (insert_by before y (z ∷ zs)) ≡ insert_by before y (insert_by before x (z ∷ zs))) [
        | true ↦ λ past_x. elim (before z y) as (λ b. before z y ≡ b → insert_by before x (insert_by before y (z ∷ zs)) ≡ insert_by before y (insert_by before x (z ∷ zs))) [
          | true ↦ λ past_y.
              rw (insert_by-past y z zs past_y, insert_by-past x z zs past_x, insert_by-past x z (insert_by before y zs) past_x, insert_by-past y z (insert_by before x zs) past_y)
              (ap (λ xs. z ∷ xs) (insert_by-swap x y zs))
          | false ↦ λ at_y. past_and_here x y z zs past_x at_y
        ] refl
        | false ↦ λ at_x. elim (before z y) as (λ b. before z y ≡ b → insert_by before x (insert_by before y (z ∷ zs)) ≡ insert_by before y (insert_by before x (z ∷ zs))) [
          | true ↦ λ past_y. sym (past_and_here y x z zs past_y at_x)
          | false ↦ λ at_y. swap_here x y (z ∷ zs) (insert_by-here x z zs at_x) (insert_by-here y z zs at_y)
        ] refl
      ] refl where
        past_and_here : (x y z : A) (zs : List A) → before z x ≡ true → before z y ≡ false → insert_by before x (insert_by before y (z ∷ zs)) ≡ insert_by before y (insert_by before x (z ∷ zs))
        past_and_here x y z zs past_x at_y =
            ap (insert_by before x) (insert_by-here y z zs at_y)
            ∙ insert_by-past x y (z ∷ zs) (between x y z past_x at_y)
            ∙ ap (λ xs. y ∷ xs) (insert_by-past x z zs past_x)
            ∙ sym (ap (insert_by before y) (insert_by-past x z zs past_x) ∙ insert_by-here y z (insert_by before x zs) at_y)

  pub in_order-middle : (x : A) (xs ys : List A) → in_order before (xs ++ x ∷ ys) ≡ insert_by before x (in_order before (xs ++ ys))
  in_order-middle x [] ys = refl
  in_order-middle x (y ∷ xs) ys = ap (insert_by before y) (in_order-middle x xs ys) ∙ insert_by-swap y x (in_order before (xs ++ ys))

  -- an element that was put in is as one at the front
  pub in_order-insert_by : (x : A) (xs ys : List A) → in_order before (insert_by before x xs ++ ys) ≡ insert_by before x (in_order before (xs ++ ys))
  in_order-insert_by x [] ys = refl
  in_order-insert_by x (z ∷ zs) ys = elim (before z x) as (λ b. before z x ≡ b → in_order before (insert_by before x (z ∷ zs) ++ ys) ≡ insert_by before x (in_order before (z ∷ zs ++ ys))) [
    | true ↦ λ past. ap (λ l. in_order before (l ++ ys)) (insert_by-past x z zs past) ∙ ap (insert_by before z) (in_order-insert_by x zs ys) ∙ insert_by-swap z x (in_order before (zs ++ ys))
    | false ↦ λ here. ap (λ l. in_order before (l ++ ys)) (insert_by-here x z zs here)
  ] refl

  pub in_order-absorbs : (xs ys : List A) → in_order before (in_order before xs ++ ys) ≡ in_order before (xs ++ ys)
  in_order-absorbs [] ys = refl
  in_order-absorbs (x ∷ xs) ys = in_order-insert_by x (in_order before xs) ys ∙ ap (insert_by before x) (in_order-absorbs xs ys)

  pub is_in-insert_by : (x : A) (xs : List A) → is_in before x (insert_by before x xs) ≡ true
  is_in-insert_by x [] = here_is_in x []
  is_in-insert_by x (y ∷ ys) = elim (before y x) as (λ b. before y x ≡ b → is_in before x (insert_by before x (y ∷ ys)) ≡ true) [
    | true ↦ λ past. ap (is_in before x) (insert_by-past x y ys past) ∙ is_in-past x y (insert_by before x ys) past ∙ is_in-insert_by x ys
    | false ↦ λ here. ap (is_in before x) (insert_by-here x y ys here) ∙ here_is_in x (y ∷ ys)
  ] refl

  pub without-insert_by : (x : A) (xs : List A) → without before x (insert_by before x xs) ≡ xs
  without-insert_by x [] = here_without x []
  without-insert_by x (y ∷ ys) = elim (before y x) as (λ b. before y x ≡ b → without before x (insert_by before x (y ∷ ys)) ≡ y ∷ ys) [
    | true ↦ λ past. ap (without before x) (insert_by-past x y ys past) ∙ without-past x y (insert_by before x ys) past ∙ ap (λ zs. y ∷ zs) (without-insert_by x ys)
    | false ↦ λ here. ap (without before x) (insert_by-here x y ys here) ∙ here_without x (y ∷ ys)
  ] refl

  -- not to stand before is transitive
  pub not_before-chains : (x y z : A) → before y x ≡ false → before z y ≡ false → before z x ≡ false
  not_before-chains x y z first second = elim (before z x) as (λ b. before z x ≡ b → b ≡ false) [
    | true ↦ λ near. sym (between x y z near second) ∙ first
    | false ↦ λ _. refl
  ] refl

  pub insert_by-ordered : (x : A) (xs : List A) → AreInOrder before xs → AreInOrder before (insert_by before x xs)
  insert_by-ordered x [] ordered = (tt, tt)
  insert_by-ordered x (y ∷ ys) ordered = elim (before y x) as (λ b. before y x ≡ b → AreInOrder before (cond b (y ∷ insert_by before x ys) (x ∷ y ∷ ys))) [
    | true ↦ λ past. (all-insert_by (λ later. before later y ≡ false) before x ys (not_both y x past) ordered.0, insert_by-ordered x ys ordered.1)
    | false ↦ λ here. ((here, all_weaker (λ later. before later y ≡ false) (λ later. before later x ≡ false) ys (λ later far. not_before-chains x y later here far) ordered.0), ordered)
  ] refl

  pub in_order-ordered : (xs : List A) → AreInOrder before (in_order before xs)
  in_order-ordered [] = tt
  in_order-ordered (x ∷ xs) = insert_by-ordered x (in_order before xs) (in_order-ordered xs)

  -- at the front of a list whose elements do not stand before it
  pub insert_by-front : (x : A) (xs : List A) → AllByRecursion (λ later. before later x ≡ false) xs → insert_by before x xs ≡ x ∷ xs
  insert_by-front x [] all = refl
  insert_by-front x (y ∷ ys) all = insert_by-here x y ys all.0

  pub in_order-kept : (xs : List A) → AreInOrder before xs → in_order before xs ≡ xs
  in_order-kept [] ordered = refl
  in_order-kept (x ∷ xs) ordered = ap (insert_by before x) (in_order-kept xs ordered.1) ∙ insert_by-front x xs ordered.0

  -- of two of which neither stands before the other, where the tests say so
  same_at : (x y : A) → before y x ≡ false → not (before x y) ≡ true → x ≡ y
  same_at x y here there = order.total x y (elim (before x y) as (λ b. not b ≡ true → b ≡ false) [
    | true ↦ λ t. absurd (cc)
    | false ↦ λ _. refl
  ] there) here

  pub insert_by-without : (x : A) (xs : List A) → AreInOrder before xs → is_in before x xs ≡ true → insert_by before x (without before x xs) ≡ xs
  insert_by-without x [] ordered there = absurd (cc)
  insert_by-without x (y ∷ ys) ordered there = elim (before y x) as (λ b. before y x ≡ b → insert_by before x (without before x (y ∷ ys)) ≡ y ∷ ys) [
    | true ↦ λ past.
        ap (insert_by before x) (without-past x y ys past)
        ∙ insert_by-past x y (without before x ys) past
        ∙ ap (λ zs. y ∷ zs) (insert_by-without x ys ordered.1 (sym (is_in-past x y ys past) ∙ there))
    | false ↦ λ here.
        let same : x ≡ y = same_at x y here (sym (ap (λ b. cond b (is_in before x ys) (not (before x y))) here) ∙ there) in
        ap (λ w. insert_by before w (without before w (y ∷ ys))) same ∙ ap (insert_by before y) (here_without y ys) ∙ insert_by-front y ys ordered.0
  ] refl

  pub without-ordered : (x : A) (xs : List A) → AreInOrder before xs → AreInOrder before (without before x xs)
  without-ordered x [] ordered = tt
  without-ordered x (y ∷ ys) ordered =
      without-either (AreInOrder before) before x y ys (all-without (λ later. before later y ≡ false) before x ys ordered.0, without-ordered x ys ordered.1) ordered ordered.1

  -- what holds of all elements holds of one that is there
  pub is_in-all : (P : A → Type 0) (x : A) (xs : List A) → AllByRecursion P xs → is_in before x xs ≡ true → P x
  is_in-all P x [] all there = absurd (cc)
  is_in-all P x (y ∷ ys) all there = elim (before y x) as (λ b. before y x ≡ b → P x) [
    | true ↦ λ past. is_in-all P x ys all.1 (sym (is_in-past x y ys past) ∙ there)
    | false ↦ λ here.
        let same : x ≡ y = same_at x y here (sym (ap (λ b. cond b (is_in before x ys) (not (before x y))) here) ∙ there) in
        rw same all.0
  ] refl

  pub not_in : (x : A) (xs : List A) → AllByRecursion (λ y. y ≡ x → ⊥) xs → is_in before x (in_order before xs) ≡ false
  not_in x xs none = elim (is_in before x (in_order before xs)) as (λ b. is_in before x (in_order before xs) ≡ b → b ≡ false) [
    | true ↦ λ there. absurd (is_in-all (λ y. y ≡ x → ⊥) x (in_order before xs) (all-in_order (λ y. y ≡ x → ⊥) before xs none) there refl)
    | false ↦ λ _. refl
  ] refl
