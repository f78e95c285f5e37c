-- Lists that are filtered, and their last elements.
use Rattle.std.proofs.Common.{◌≡◌, ℕ, zero, suc, ◌-◌, ◌<◌, ◌≤◌, Bool, true, false, ◌&&◌, cond, Option, Some, None, List, [], ◌∷◌, ◌++◌, length, take, drop, map, slice_get, refl, sym, ap, ◌∙◌, arith}
use Rattle.std.specs.List.{AllByRecursion, filter, find}
use Rattle.std.specs.Option.{option_or}
use Rattle.key_index.specs.KeyRows.{last_of}

-- what holds of all elements of two lists holds of all of both
pub all-append : {A : Type 0} (P : A → Type 0) (xs ys : List A) → AllByRecursion P xs → AllByRecursion P ys → AllByRecursion P (xs ++ ys)
all-append P [] ys here there = there
all-append P (x ∷ xs) ys here there = (here.0, all-append P xs ys here.1 there)

pub all_front : {A : Type 0} (P : A → Type 0) (xs ys : List A) → AllByRecursion P (xs ++ ys) → AllByRecursion P xs
all_front P [] ys all = tt
all_front P (x ∷ xs) ys all = (all.0, all_front P xs ys all.1)

pub all_after : {A : Type 0} (P : A → Type 0) (xs ys : List A) → AllByRecursion P (xs ++ ys) → AllByRecursion P ys
all_after P [] ys all = all
all_after P (x ∷ xs) ys all = all_after P xs ys all.1

pub all-map : {A B : Type 0} (P : B → Type 0) (f : A → B) (xs : List A) → AllByRecursion (λ x. P (f x)) xs → AllByRecursion P (map f xs)
all-map P f [] all = tt
all-map P f (x ∷ xs) all = (all.0, all-map P f xs all.1)

pub all_both : {A : Type 0} (P Q R : A → Type 0) (xs : List A) → ((x : A) → P x → Q x → R x) → AllByRecursion P xs → AllByRecursion Q xs → AllByRecursion R xs
all_both P Q R [] both here there = tt
all_both P Q R (x ∷ xs) both here there = (both x here.0 there.0, all_both P Q R xs both here.1 there.1)

module _ {A : Type 0} (test : A → Bool) where
  pub filter-yes : (x : A) (xs : List A) → test x ≡ true → filter test (x ∷ xs) ≡ x ∷ filter test xs
  filter-yes x xs passing = ap (λ b. cond b (x ∷ filter test xs) (filter test xs)) passing

  pub filter-no : (x : A) (xs : List A) → test x ≡ false → filter test (x ∷ xs) ≡ filter test xs
  filter-no x xs failing = ap (λ b. cond b (x ∷ filter test xs) (filter test xs)) failing

  pub none_pass : (xs : List A) → AllByRecursion (λ x. test x ≡ false) xs → filter test xs ≡ []
  none_pass [] all = refl
  none_pass (x ∷ xs) all = filter-no x xs all.0 ∙ none_pass xs all.1

  pub all_pass : (xs : List A) → AllByRecursion (λ x. test x ≡ true) xs → filter test xs ≡ xs
  all_pass [] all = refl
  all_pass (x ∷ xs) all = filter-yes x xs all.0 ∙ ap (λ ys. x ∷ ys) (all_pass xs all.1)

  -- what holds of all elements holds of those that pass, and they pass
  pub all_filter : (P : A → Type 0) (xs : List A) → AllByRecursion P xs → AllByRecursion P (filter test xs)
  all_filter P [] all = tt
  all_filter P (x ∷ xs) all = elim (test x) as (λ b. AllByRecursion P (cond b (x ∷ filter test xs) (filter test xs))) [
    | true ↦ (all.0, all_filter P xs all.1)
    | false ↦ all_filter P xs all.1
  ]

  pub filter_passes : (xs : List A) → AllByRecursion (λ x. test x ≡ true) (filter test xs)
  filter_passes [] = tt
  filter_passes (x ∷ xs) = elim (test x) as (λ b. test x ≡ b → AllByRecursion (λ y. test y ≡ true) (cond b (x ∷ filter test xs) (filter test xs))) [
    | true ↦ λ passing. (passing, filter_passes xs)
    | false ↦ λ failing. filter_passes xs
  ] refl

  -- what holds of all that pass holds of each element that passes
  pub all_unfiltered : (P : A → Type 0) (xs : List A) → AllByRecursion P (filter test xs) → AllByRecursion (λ x. test x ≡ true → P x) xs
  all_unfiltered P [] all = tt
  all_unfiltered P (x ∷ xs) all = elim (test x) as (λ b. test x ≡ b → AllByRecursion P (cond b (x ∷ filter test xs) (filter test xs)) → AllByRecursion (λ y. test y ≡ true → P y) (x ∷ xs)) [
    | true ↦ λ passing all. (λ passes. all.0, all_unfiltered P xs all.1)
    | false ↦ λ failing all. (λ passes. absurd (let wrong : true ≡ false = sym passes ∙ failing in cc), all_unfiltered P xs all)
  ] refl all

  -- a second test of those that pass
  pub filter_both : (other : A → Bool) (xs : List A) → filter (λ x. test x && other x) xs ≡ filter other (filter test xs)
  filter_both other [] = refl
  filter_both other (x ∷ xs) = elim (test x) as (λ b. cond (b && other x) (x ∷ filter (λ y. test y && other y) xs) (filter (λ y. test y && other y) xs) ≡ filter other (cond b (x ∷ filter test xs) (filter test xs))) [
    | true ↦ ap (λ ys. cond (other x) (x ∷ ys) ys) (filter_both other xs)
    | false ↦ filter_both other xs
  ]

  pub filter-same : (other : A → Bool) → ((x : A) → test x ≡ other x) → (xs : List A) → filter test xs ≡ filter other xs
  filter-same other same [] = refl
  filter-same other same (x ∷ xs) = ap (λ b. cond b (x ∷ filter test xs) (filter test xs)) (same x) ∙ ap (λ ys. cond (other x) (x ∷ ys) ys) (filter-same other same xs)

either_way : (a b : Bool) → (a && b) ≡ (b && a)
either_way true true = refl
either_way true false = refl
either_way false true = refl
either_way false false = refl

-- two tests, one after the other
pub filter_either : {A : Type 0} (test other : A → Bool) (xs : List A) → filter (λ x. test x && other x) xs ≡ filter test (filter other xs)
filter_either test other xs = filter-same (λ x. test x && other x) (λ x. other x && test x) (λ x. either_way (test x) (other x)) xs ∙ filter_both other test xs

-- the first element, where there is one
abbrev pub first_of : {A : Type 0} → List A → Option A
first_of [] = None
first_of (x ∷ xs) = Some x

pub find_is : {A : Type 0} (test : A → Bool) (xs : List A) → find test xs ≡ first_of (filter test xs)
find_is test [] = refl
find_is test (x ∷ xs) = elim (test x) as (λ b. cond b (Some x) (find test xs) ≡ first_of (cond b (x ∷ filter test xs) (filter test xs))) [ true ↦ refl | false ↦ find_is test xs ]

-- the last of a list is that of its rest, where there is one
pub settled : {A : Type 0} (o : Option A) (y x : A) → option_or (option_or o (Some y)) (Some x) ≡ option_or o (Some y)
settled None y x = refl
settled (Some z) y x = refl

-- all elements but the last
abbrev pub all_but_last : {A : Type 0} → List A → List A
all_but_last [] = []
all_but_last (x ∷ []) = []
all_but_last (x ∷ y ∷ ys) = x ∷ all_but_last (y ∷ ys)

pub take_less : {A : Type 0} (xs : List A) (n : ℕ) → n ≤ length xs → take (n - 1) xs ≡ all_but_last (take n xs)
take_less xs zero within = refl
take_less [] (suc n) within = absurd (omega arith)
take_less (x ∷ xs) (suc zero) within = refl
take_less (x ∷ []) (suc (suc n)) within = absurd (omega arith)
take_less (x ∷ y ∷ ys) (suc (suc n)) within =
    let less : suc (suc n) - 1 ≡ suc n = omega arith in
    let one_less : suc n - 1 ≡ n = omega arith in
    ap (λ k. take k (x ∷ y ∷ ys)) less ∙ ap (λ zs. x ∷ zs) (ap (λ k. take k (y ∷ ys)) (sym one_less) ∙ take_less (y ∷ ys) (suc n) (omega arith))

pub last_at : {A : Type 0} (xs : List A) (n : ℕ) (x : A) → 0 < n → slice_get xs (n - 1) ≡ Some x → last_of (take n xs) ≡ Some x
last_at xs zero x some there = absurd (omega arith)
last_at [] (suc n) x some there = absurd (cc)
last_at (y ∷ ys) (suc zero) x some there = there
last_at (y ∷ ys) (suc (suc n)) x some there =
    let less : suc (suc n) - 1 ≡ suc n = omega arith in
    let one_less : suc n - 1 ≡ n = omega arith in
    ap (λ o. option_or o (Some y)) (last_at ys (suc n) x (omega arith) (ap (slice_get ys) one_less ∙ sym (ap (slice_get (y ∷ ys)) less) ∙ there))

pub first_at : {A : Type 0} (xs : List A) (n : ℕ) → slice_get xs n ≡ first_of (drop n xs)
first_at [] zero = refl
first_at [] (suc n) = refl
first_at (x ∷ xs) zero = refl
first_at (x ∷ xs) (suc n) = first_at xs n
