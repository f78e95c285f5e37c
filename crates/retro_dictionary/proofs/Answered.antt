-- Each question of a dictionary is answered by what is found of the pairs in a range of keys.
use Rattle.std.proofs.Common.{◌≡◌, ℕ, suc, ◌+◌, ◌-◌, ◌*◌, ◌^◌, ◌<◌, ◌≤◌, ◌≤ℤ◌, ◌+ℤ◌, neg_ℤ, ℤ, pos, negsuc, Bool, true, false, ◌&&◌}
use Rattle.std.proofs.Common.{cond, Option, Some, None, List, [], ◌∷◌, ◌++◌, length, reverse, refl, sym, ap, ◌∙◌, arith}
use Rattle.std.specs.Prelude.{int_le, slice_get}
use Rattle.std.specs.Int.{w128}
use Rattle.std.specs.Int.RustNames.{FitsSigned}
use Rattle.std.specs.List.{AllByRecursion, filter, find, fold}
use Rattle.std.specs.Map.{lookup}
use Rattle.std.specs.Option.{option_map, option_or}
use Rattle.std.specs.Ordering.{int_eq}
use Rattle.std.proofs.lemmas.Int.{ints, int_wrap_fits}
use Rattle.std.proofs.lemmas.List.{reverse-append}
use Rattle.retro_base.specs.OrderLaws.{all_weaker}
use Rattle.retro_base.specs.declared.question.Question.{Question}
use Rattle.retro_base.specs.declared.question.Question.TheVariants.{Size, Front, Back, Top, Left, Right, Min, Nth, Get, Succ, Pred, Count, Sum}
use Rattle.retro_base.specs.declared.question.Answer.TheVariants.{Number}
use Rattle.retro_base.specs.Answers.{answer_of, number_of, pair_of, pairs_between, last_of, sum_of_values}
use Rattle.retro_base.specs.State.{pairs}
use Rattle.retro_dictionary.specs.Asked.{least_number, greatest_number, IsNumber, AreOfNumbers, range_of, answer_from}
use Rattle.retro_dictionary.specs.PairSearch.{found_in, in_bits}
use Rattle.retro_base.specs.Limits.{most_rows}

-- one key
one_key : (key k : ℤ) → int_eq key k ≡ (int_le key k && int_le k key)
one_key key k = grind (arith, ints)

get-found : (key : ℤ) (ps : List (ℤ × ℤ)) → lookup (int_eq key) ps ≡ option_map (λ (pair : ℤ × ℤ). pair.1) (slice_get (pairs_between key key ps) 0)
get-found key [] = refl
get-found key (p ∷ ps) =
    ap (λ b. cond b (Some p.1) (lookup (int_eq key) ps)) (one_key key p.0)
    ∙ elim (int_le key p.0 && int_le p.0 key) as (λ b. cond b (Some p.1) (lookup (int_eq key) ps)
    ≡ option_map (λ (pair : ℤ × ℤ). pair.1) (slice_get (cond b (p ∷ pairs_between key key ps) (pairs_between key key ps)) 0)) [
      | true ↦ refl
      | false ↦ get-found key ps
    ]

-- the first that passes a test
find-first : {A : Type 0} (test : A → Bool) (xs : List A) → find test xs ≡ slice_get (filter test xs) 0
find-first test [] = refl
find-first test (x ∷ xs) = elim (test x) as (λ b. cond b (Some x) (find test xs) ≡ slice_get (cond b (x ∷ filter test xs) (filter test xs)) 0) [ true ↦ refl | false ↦ find-first test xs ]

-- and the last one is the first from the other end
last-cons : {A : Type 0} (x y : A) (ys : List A) → last_of (x ∷ y ∷ ys) ≡ last_of (y ∷ ys)
last-cons x y ys = ap (slice_get (x ∷ y ∷ ys)) (let less : suc (suc (length ys)) - 1 ≡ suc (suc (length ys) - 1) = omega arith in less)

pub last-or : {A : Type 0} (x : A) (ys : List A) → option_or (last_of ys) (Some x) ≡ last_of (x ∷ ys)
last-or x [] = refl
last-or x (y ∷ []) = refl
last-or x (y ∷ z ∷ ys) = ap (λ o. option_or o (Some x)) (last-cons y z ys) ∙ last-or x (z ∷ ys) ∙ last-cons x z ys ∙ sym (last-cons y z ys) ∙ sym (last-cons x y (z ∷ ys))

option_or-none : {A : Type 0} (o : Option A) → option_or o None ≡ o
option_or-none None = refl
option_or-none (Some x) = refl

find-more : {A : Type 0} (test : A → Bool) (xs : List A) (x : A) → find test (xs ++ x ∷ []) ≡ option_or (find test xs) (cond (test x) (Some x) None)
find-more test [] x = refl
find-more test (y ∷ ys) x = elim (test y) as (λ b. cond b (Some y) (find test (ys ++ x ∷ [])) ≡ option_or (cond b (Some y) (find test ys)) (cond (test x) (Some x) None)) [ true ↦ refl | false ↦ find-more test ys x ]

find-last : {A : Type 0} (test : A → Bool) (xs : List A) → find test (reverse xs) ≡ last_of (filter test xs)
find-last test [] = refl
find-last test (x ∷ xs) =
    ap (find test) (reverse-append (x ∷ []) xs) ∙ find-more test (reverse xs) x ∙ ap (λ o. option_or o (cond (test x) (Some x) None)) (find-last test xs)
    ∙ elim (test x) as (λ b. option_or (last_of (filter test xs)) (cond b (Some x) None) ≡ last_of (cond b (x ∷ filter test xs) (filter test xs))) [
      | true ↦ last-or x (filter test xs)
      | false ↦ option_or-none (last_of (filter test xs))
    ]

-- every key is up to the greatest, and from the least on
all_within : (test other : ℤ × ℤ → Bool) (ps : List (ℤ × ℤ)) → AllByRecursion (λ (p : ℤ × ℤ). test p ≡ other p) ps → filter test ps ≡ filter other ps
all_within test other [] all = refl
all_within test other (p ∷ ps) all = ap (λ b. cond b (p ∷ filter test ps) (filter test ps)) all.0 ∙ ap (λ rest. cond (other p) (p ∷ rest) rest) (all_within test other ps all.1)

le_test : (k l : ℤ) → k ≤ℤ l → int_le k l ≡ true
le_test k l order = grind (arith, ints)

from_least : (k : ℤ) → least_number ≤ℤ k → int_le least_number k ≡ true
from_least k order = le_test least_number k order

up_to_greatest : (k : ℤ) → k ≤ℤ greatest_number → int_le k greatest_number ≡ true
up_to_greatest k order = le_test k greatest_number order

and-true : (b : Bool) → (b && true) ≡ b
and-true true = refl
and-true false = refl

from_low : (key : ℤ) (ps : List (ℤ × ℤ)) → AreOfNumbers ps → filter (λ (p : ℤ × ℤ). int_le key p.0) ps ≡ pairs_between key greatest_number ps
from_low key ps all =
    all_within (λ (p : ℤ × ℤ). int_le key p.0) (λ (p : ℤ × ℤ). int_le key p.0 && int_le p.0 greatest_number) ps (all_weaker (λ (p : ℤ × ℤ). IsNumber p.0 × IsNumber p.1) _ ps (λ p is. low_test key p.0 is.0) all) where
      low_test : (key k : ℤ) → IsNumber k → int_le key k ≡ (int_le key k && int_le k greatest_number)
      low_test key k is = let high : int_le k greatest_number ≡ true = up_to_greatest k is.1 in rw high (sym (and-true (int_le key k)))

up_to_high : (key : ℤ) (ps : List (ℤ × ℤ)) → AreOfNumbers ps → filter (λ (p : ℤ × ℤ). int_le p.0 key) ps ≡ pairs_between least_number key ps
up_to_high key ps all =
    all_within (λ (p : ℤ × ℤ). int_le p.0 key) (λ (p : ℤ × ℤ). int_le least_number p.0 && int_le p.0 key) ps (all_weaker (λ (p : ℤ × ℤ). IsNumber p.0 × IsNumber p.1) _ ps (λ p is. high_test key p.0 is.0) all) where
      high_test : (key k : ℤ) → IsNumber k → int_le k key ≡ (int_le least_number k && int_le k key)
      high_test key k is = let low : int_le least_number k ≡ true = from_least k is.0 in rw low refl

pub all_between : (ps : List (ℤ × ℤ)) → AreOfNumbers ps → pairs_between least_number greatest_number ps ≡ ps
all_between [] all = refl
all_between (p ∷ ps) all =
    ap (λ b. cond b (p ∷ pairs_between least_number greatest_number ps) (pairs_between least_number greatest_number ps)) (inside p.0 all.0.0) ∙ ap (λ rest. p ∷ rest) (all_between ps all.1) where
      inside : (k : ℤ) → IsNumber k → (int_le least_number k && int_le k greatest_number) ≡ true
      inside k is = rw (from_least k is.0) (up_to_greatest k is.1)

-- the sum of so many values fits 128 bits
values_within : (start : ℤ) (bound : ℕ) (ps : List (ℤ × ℤ)) → AreOfNumbers ps → neg_ℤ (pos bound) ≤ℤ start → start ≤ℤ pos bound
    → (neg_ℤ (pos (bound + 2 ^ 63 * length ps)) ≤ℤ fold (λ sum pair. sum +ℤ pair.1) start ps) × (fold (λ sum pair. sum +ℤ pair.1) start ps ≤ℤ pos (bound + 2 ^ 63 * length ps))
values_within start bound [] all low high = (omega (arith, ints), omega (arith, ints))
values_within start bound (p ∷ ps) all low high =
    let rest = values_within (start +ℤ p.1) (bound + 2 ^ 63) ps all.1 (omega (arith, ints, all.0.1.0)) (omega (arith, ints, all.0.1.1)) in
    (omega (arith, ints, rest.0), omega (arith, ints, rest.1))

all_of : (P : ℤ × ℤ → Type 0) (test : ℤ × ℤ → Bool) (ps : List (ℤ × ℤ)) → AllByRecursion P ps → AllByRecursion P (filter test ps)
all_of P test [] all = tt
all_of P test (p ∷ ps) all = elim (test p) as (λ b. AllByRecursion P (cond b (p ∷ filter test ps) (filter test ps))) [ true ↦ (all.0, all_of P test ps all.1) | false ↦ all_of P test ps all.1 ]

pub filter-le : (test : ℤ × ℤ → Bool) (ps : List (ℤ × ℤ)) → length (filter test ps) ≤ length ps
filter-le test [] = omega arith
filter-le test (p ∷ ps) = elim (test p) as (λ b. length (cond b (p ∷ filter test ps) (filter test ps)) ≤ suc (length ps)) [ true ↦ omega (arith, filter-le test ps) | false ↦ omega (arith, filter-le test ps) ]

fits_bits : (z : ℤ) (bound : ℕ) → bound < 2 ^ 127 → neg_ℤ (pos bound) ≤ℤ z → z ≤ℤ pos bound → FitsSigned w128 z
fits_bits (pos n) bound few low high = record { sfits = omega (arith, ints) }
fits_bits (negsuc n) bound few low high = record { sfits = omega (arith, ints) }

sum-fits : (ps : List (ℤ × ℤ)) → AreOfNumbers ps → length ps ≤ most_rows → in_bits (sum_of_values ps) ≡ sum_of_values ps
sum-fits ps all few =
    let within = values_within (pos 0) 0 ps all (omega (arith, ints)) (omega (arith, ints)) in
    let fits : FitsSigned w128 (sum_of_values ps) = fits_bits (sum_of_values ps) (2 ^ 63 * length ps) (omega arith) (omega (arith, ints, within.0)) (omega (arith, ints, within.1)) in
    int_wrap_fits w128 (sum_of_values ps) fits

pub answer-found : (ps : List (ℤ × ℤ)) (question : Question) → AreOfNumbers ps → length ps ≤ most_rows → answer_of (pairs ps) question ≡ answer_from question (found_in ps (range_of question))
unfolding answer_of
answer-found ps Size all few = ap (λ qs. Number (pos (length qs))) (sym (all_between ps all))
answer-found ps (Get key) all few = ap number_of (get-found key ps)
answer-found ps (Succ key) all few = ap pair_of (find-first (λ p. int_le key p.0) ps ∙ ap (λ qs. slice_get qs 0) (from_low key ps all))
answer-found ps (Pred key) all few = ap pair_of (find-last (λ p. int_le p.0 key) ps ∙ ap last_of (up_to_high key ps all))
answer-found ps (Count low high) all few = refl
answer-found ps (Sum low high) all few =
    let between = pairs_between low high ps in
    ap Number (sym (sum-fits between (all_of (λ (p : ℤ × ℤ). IsNumber p.0 × IsNumber p.1) _ ps all) (omega (arith, filter-le (λ (p : ℤ × ℤ). int_le low p.0 && int_le p.0 high) ps, few))))
answer-found ps Front all few = refl
answer-found ps Back all few = refl
answer-found ps Top all few = refl
answer-found ps Left all few = refl
answer-found ps Right all few = refl
answer-found ps Min all few = refl
answer-found ps (Nth index) all few = refl
