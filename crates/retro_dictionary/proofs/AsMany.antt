-- How many items pass a test, and lists of the same items.
use Rattle.std.proofs.Common.{◌≡◌, ◌+◌, Bool, true, false, ◌&&◌, cond, List, [], ◌∷◌, ◌++◌, refl, sym, ap, ◌∙◌, arith}
use Rattle.std.specs.List.{filter, count_by}
use Rattle.std.proofs.lemmas.List.Sums.{sum_by-cons, sum_by-append}

-- of each test, as many items pass it
pub record HaveSameItems {X : Type 0} (xs ys : List X) : Type 0 where
  pub as_many : (test : X → Bool) → count_by test xs ≡ count_by test ys

pub count-cons : {X : Type 0} (test : X → Bool) (x : X) (xs : List X) → count_by test (x ∷ xs) ≡ cond (test x) 1 0 + count_by test xs
count-cons test x xs = sum_by-cons (λ y. cond (test y) 1 0) x xs

pub count-append : {X : Type 0} (test : X → Bool) (xs ys : List X) → count_by test (xs ++ ys) ≡ count_by test xs + count_by test ys
count-append test xs ys = sum_by-append (λ y. cond (test y) 1 0) xs ys

pub count-filter : {X : Type 0} (test other : X → Bool) (xs : List X) → count_by test (filter other xs) ≡ count_by (λ x. other x && test x) xs
count-filter test other [] = refl
count-filter test other (x ∷ xs) =
    elim (other x) as (λ b. count_by test (cond b (x ∷ filter other xs) (filter other xs)) ≡ cond (b && test x) 1 0 + count_by (λ y. other y && test y) xs) [
      | true ↦ count-cons test x (filter other xs) ∙ ap (λ n. cond (test x) 1 0 + n) (count-filter test other xs)
      | false ↦ count-filter test other xs ∙ omega arith
    ] ∙ sym (count-cons (λ y. other y && test y) x xs)

module _ {X : Type 0} where
  pub same-refl : (xs : List X) → HaveSameItems xs xs
  same-refl xs = record { as_many = λ test. refl }

  pub same-sym : (xs ys : List X) → HaveSameItems xs ys → HaveSameItems ys xs
  same-sym xs ys same = record { as_many = λ test. sym (same.as_many test) }

  pub same-trans : (xs ys zs : List X) → HaveSameItems xs ys → HaveSameItems ys zs → HaveSameItems xs zs
  same-trans xs ys zs p q = record { as_many = λ test. p.as_many test ∙ q.as_many test }

  pub same-cons : (x : X) (xs ys : List X) → HaveSameItems xs ys → HaveSameItems (x ∷ xs) (x ∷ ys)
  same-cons x xs ys same = record { as_many = λ test. count-cons test x xs ∙ ap (λ n. cond (test x) 1 0 + n) (same.as_many test) ∙ sym (count-cons test x ys) }

  pub same-filter : (test : X → Bool) (xs ys : List X) → HaveSameItems xs ys → HaveSameItems (filter test xs) (filter test ys)
  same-filter test xs ys same = record { as_many = λ other. count-filter other test xs ∙ same.as_many (λ x. test x && other x) ∙ sym (count-filter other test ys) }

  pub same-append : (xs ys us vs : List X) → HaveSameItems xs ys → HaveSameItems us vs → HaveSameItems (xs ++ us) (ys ++ vs)
  same-append xs ys us vs p q = record { as_many = λ test. omega (arith, count-append test xs us, count-append test ys vs, p.as_many test, q.as_many test) }

  pub same-middle : (xs : List X) (x : X) (ys : List X) → HaveSameItems (xs ++ x ∷ ys) (x ∷ (xs ++ ys))
  same-middle xs x ys = record { as_many = λ test. omega (arith, count-append test xs (x ∷ ys), count-append test xs ys, count-cons test x ys, count-cons test x (xs ++ ys)) }

  pub same-regroup : (xs ys zs : List X) → HaveSameItems ((xs ++ ys) ++ zs) (ys ++ (xs ++ zs))
  same-regroup xs ys zs = record { as_many = λ test. omega (arith, count-append test xs ys, count-append test (xs ++ ys) zs, count-append test xs zs, count-append test ys (xs ++ zs)) }
