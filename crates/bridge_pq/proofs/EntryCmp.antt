-- The derived order of entries is that of the definitions.
use Rattle.std.proofs.Common.{◌≡◌, ℕ, ℤ, Bool, true, false, ◌&&◌, ◌||◌, ◌⊎◌, inl, inr, refl, sym, subst, arith, int_cmp, nat_cmp}
use Rattle.std.specs.Prelude.{int_lt, nat_lt}
use Rattle.std.specs.Ordering.{is_gt, is_lt, ordering_then, int_eq}
use Rattle.std.proofs.lemmas.Int.{ints}
use Rattle.std.proofs.lemmas.Bool.Decides.{nat_tests}
use Rattle.retro_base.specs.declared.row.Entry.{Entry}
use Rattle.retro_base.specs.State.{comes_before}
use Rattle.bridge_pq.specs.EntryOrder.{entry_order}
use Rattle.retro_base.specs.lemmas.bridges.EntryOrder.{key_irreflexive}

-- the order of pairs of a key and a number
abbrev pair_before : ℤ → ℕ → ℤ → ℕ → Bool
pair_before k m l n = int_lt k l || (int_eq k l && nat_lt m n)

by_keys : (k l : ℤ) → (int_lt k l ≡ true) ⊎ ((int_lt l k ≡ true) ⊎ (k ≡ l))
by_keys k l = grind (arith, ints, nat_tests)

number_agrees : (m n : ℕ) → is_gt (nat_cmp m n) ≡ false → nat_lt n m ≡ false
number_agrees m n upto = grind (arith, nat_tests)

not_less : (k l : ℤ) → int_lt k l ≡ true → int_lt l k ≡ false
not_less k l less = grind (arith, ints, nat_tests)

agrees_at : (k : ℤ) (m n : ℕ) → is_gt (ordering_then (int_cmp k k) (nat_cmp m n)) ≡ false → pair_before k n k m ≡ false
agrees_at k m n upto = rw (key_irreflexive k) (number_agrees m n (rw (key_irreflexive k) at upto))

pair_agrees : (k : ℤ) (m : ℕ) (l : ℤ) (n : ℕ) → is_gt (ordering_then (int_cmp k l) (nat_cmp m n)) ≡ false → pair_before l n k m ≡ false
pair_agrees k m l n upto = elim (by_keys k l) [
  | inl less ↦ rw (not_less k l less, less) refl
  | inr other ↦ elim other [
    | inl greater ↦ let wrong : true ≡ false = rw (not_less l k greater, greater) at upto in absurd (cc)
    | inr same ↦ subst (λ j. pair_before j n k m ≡ false) same (agrees_at k m n (subst (λ j. is_gt (ordering_then (int_cmp k j) (nat_cmp m n)) ≡ false) (sym same) upto))
  ]
]

pub agrees : (a b : Entry) → is_gt (entry_order a b) ≡ false → comes_before b a ≡ false
agrees a b upto = pair_agrees a.key a.number b.key b.number upto

less_number : (m n : ℕ) → is_lt (nat_cmp m n) ≡ false → nat_lt m n ≡ false
less_number m n from = grind (arith, nat_tests)

less_at : (k : ℤ) (m n : ℕ) → is_lt (ordering_then (int_cmp k k) (nat_cmp m n)) ≡ false → pair_before k m k n ≡ false
less_at k m n from = rw (key_irreflexive k) (less_number m n (rw (key_irreflexive k) at from))

pair_less : (k : ℤ) (m : ℕ) (l : ℤ) (n : ℕ) → is_lt (ordering_then (int_cmp k l) (nat_cmp m n)) ≡ false → pair_before k m l n ≡ false
pair_less k m l n from = elim (by_keys k l) [
  | inl less ↦ let wrong : true ≡ false = rw less at from in absurd (cc)
  | inr other ↦ elim other [
    | inl greater ↦ rw (not_less l k greater, greater) refl
    | inr same ↦ subst (λ j. pair_before k m j n ≡ false) same (less_at k m n (subst (λ j. is_lt (ordering_then (int_cmp k j) (nat_cmp m n)) ≡ false) (sym same) from))
  ]
]

pub agrees_less : (a b : Entry) → is_lt (entry_order a b) ≡ false → comes_before a b ≡ false
agrees_less a b from = pair_less a.key a.number b.key b.number from
