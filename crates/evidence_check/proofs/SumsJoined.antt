-- The sums of two lists joined are the join of their sums.
use Rattle.std.proofs.Common.{◌≡◌, ℕ, suc, ℤ, pos, Bool, true, false, List, [], ◌∷◌, ◌++◌, length, refl, ap, ◌∙◌, arith, Option, Some, None, length-append}
use Rattle.std.specs.Prelude.{◌+ℤ◌, ◌≤ℤ◌}
use Rattle.std.proofs.lemmas.Bool.Decides.{nat_tests}
use Rattle.std.proofs.lemmas.Int.{ints}
use Rattle.retro_base.specs.declared.row.Entry.{Entry}
use Rattle.retro_base.specs.lemmas.bridges.Best.{before_is_order, after_is_order}
use Rattle.evidence_check.specs.declared.weighed_row.WeighedRow.{WeighedRow}
use Rattle.evidence_check.specs.declared.sums.Sums.{Sums}
use Rattle.retro_base.specs.Better.{comes_after, better_of}
use Rattle.retro_base.specs.State.{comes_before}
use Rattle.evidence_check.specs.Marks.{alive_entry, dead_entry, entry_of, greatest_dead, least_alive}
use Rattle.evidence_check.specs.Sums.{AreBounded, joined, lesser, low_of, sum_of, sums_of, weight_by, weight_of}
use Rattle.evidence_check.proofs.Best.{best-join}

-- a weight is at most 1, up or down
weight-up : (alive : Bool) (o : Option Entry) → weight_by alive o ≤ℤ pos 1
weight-up alive None = omega (arith, ints)
weight-up true (Some e) = omega (arith, ints)
weight-up false (Some e) = omega (arith, ints)

weight-down : (alive : Bool) (o : Option Entry) → pos 0 ≤ℤ (weight_by alive o +ℤ pos 1)
weight-down alive None = omega (arith, ints)
weight-down true (Some e) = omega (arith, ints)
weight-down false (Some e) = omega (arith, ints)

-- the lesser one of two numbers
pub lesser-first : (a b : ℤ) → lesser a b ≤ℤ a
lesser-first a b = grind (arith, ints, nat_tests)

pub lesser-second : (a b : ℤ) → lesser a b ≤ℤ b
lesser-second a b = grind (arith, ints, nat_tests)

lesser-least : (a b c : ℤ) → c ≤ℤ a → c ≤ℤ b → c ≤ℤ lesser a b
lesser-least a b c first second = grind (arith, ints, nat_tests)

lesser-moved : (w l s m : ℤ) → lesser w (w +ℤ lesser l (s +ℤ m)) ≡ lesser (lesser w (w +ℤ l)) ((w +ℤ s) +ℤ m)
lesser-moved w l s m = grind (arith, ints, nat_tests)

lesser-one : (m : ℤ) → m ≤ℤ pos 1 → m ≡ lesser (pos 1) (pos 0 +ℤ m)
lesser-one m most = grind (arith, ints, nat_tests)

-- sums of weights
pub sum-join : (xs ys : List WeighedRow) → sum_of (xs ++ ys) ≡ sum_of xs +ℤ sum_of ys
sum-join [] ys = let n : ℤ = sum_of ys in none n
  where
    none : (n : ℤ) → n ≡ pos 0 +ℤ n
    none n = omega (arith, ints)
sum-join (x ∷ xs) ys = ap (λ n. weight_of x +ℤ n) (sum-join xs ys) ∙ moved (weight_of x) (sum_of xs) (sum_of ys)
  where
    moved : (a b c : ℤ) → (a +ℤ (b +ℤ c)) ≡ ((a +ℤ b) +ℤ c)
    moved a b c = omega (arith, ints)

pub low-up : (xs : List WeighedRow) → low_of xs ≤ℤ pos 1
low-up [] = omega (arith, ints)
low-up (x ∷ xs) =
    let first = lesser-first (weight_of x) (weight_of x +ℤ low_of xs) in
    let weight = weight-up x.alive (entry_of x) in
    below (low_of (x ∷ xs)) (weight_of x) first weight
  where
    below : (a b : ℤ) → a ≤ℤ b → b ≤ℤ pos 1 → a ≤ℤ pos 1
    below a b first weight = omega (arith, ints)

low-join : (xs ys : List WeighedRow) → low_of (xs ++ ys) ≡ lesser (low_of xs) (sum_of xs +ℤ low_of ys)
low-join [] ys = lesser-one (low_of ys) (low-up ys)
low-join (x ∷ xs) ys =
    ap (λ n. lesser (weight_of x) (weight_of x +ℤ n)) (low-join xs ys) ∙ lesser-moved (weight_of x) (low_of xs) (sum_of xs) (low_of ys)

pub dead-join : (xs ys : List WeighedRow) → greatest_dead (xs ++ ys) ≡ better_of comes_before (greatest_dead xs) (greatest_dead ys)
dead-join xs ys = best-join comes_before before_is_order dead_entry xs ys

pub alive-join : (xs ys : List WeighedRow) → least_alive (xs ++ ys) ≡ better_of comes_after (least_alive xs) (least_alive ys)
alive-join xs ys = best-join comes_after after_is_order alive_entry xs ys

pub same_sums : (n m : ℕ) (s t l k : ℤ) (d e a b : Option Entry) → n ≡ m → s ≡ t → l ≡ k → d ≡ e → a ≡ b
    → ◌≡◌ {A = Sums} (record { rows = n; sum = s; low = l; dead = d; alive = a }) (record { rows = m; sum = t; low = k; dead = e; alive = b })
same_sums n m s t l k d e a b one two three four five = rw (one, two, three, four, five) refl

-- the law
pub sums-join : (xs ys : List WeighedRow) → sums_of (xs ++ ys) ≡ joined (sums_of xs) (sums_of ys)
sums-join xs ys = same_sums _ _ _ _ _ _ _ _ _ _ (length-append xs ys) (sum-join xs ys) (low-join xs ys) (dead-join xs ys) (alive-join xs ys)

-- sums keep within the number of rows
pub sum-up : (xs : List WeighedRow) → sum_of xs ≤ℤ pos (length xs)
sum-up [] = omega (arith, ints)
sum-up (x ∷ xs) = more (weight_of x) (sum_of xs) (length xs) (weight-up x.alive (entry_of x)) (sum-up xs)
  where
    more : (w s : ℤ) (n : ℕ) → w ≤ℤ pos 1 → s ≤ℤ pos n → (w +ℤ s) ≤ℤ pos (suc n)
    more w s n first rest = omega (arith, ints)

pub sum-down : (xs : List WeighedRow) → pos 0 ≤ℤ (sum_of xs +ℤ pos (length xs))
sum-down [] = omega (arith, ints)
sum-down (x ∷ xs) = more (weight_of x) (sum_of xs) (length xs) (weight-down x.alive (entry_of x)) (sum-down xs)
  where
    more : (w s : ℤ) (n : ℕ) → pos 0 ≤ℤ (w +ℤ pos 1) → pos 0 ≤ℤ (s +ℤ pos n) → pos 0 ≤ℤ ((w +ℤ s) +ℤ pos (suc n))
    more w s n first rest = omega (arith, ints)

pub low-down : (xs : List WeighedRow) → pos 0 ≤ℤ (low_of xs +ℤ pos (length xs))
low-down [] = omega (arith, ints)
low-down (x ∷ xs) = more (weight_of x) (low_of xs) (length xs) (weight-down x.alive (entry_of x)) (low-down xs)
  where
    more : (w l : ℤ) (n : ℕ) → pos 0 ≤ℤ (w +ℤ pos 1) → pos 0 ≤ℤ (l +ℤ pos n) → pos 0 ≤ℤ (lesser w (w +ℤ l) +ℤ pos (suc n))
    more w l n first rest = grind (arith, ints, nat_tests)

pub sums-bounded : (xs : List WeighedRow) → AreBounded (sums_of xs)
sums-bounded xs = record { up = sum-up xs; down = sum-down xs; low_up = low-up xs; low_down = low-down xs }
