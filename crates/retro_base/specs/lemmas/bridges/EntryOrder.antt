-- Entries are in a strict order: no entry comes before itself, and of two different ones either the first comes before
-- the second or the second before the first.
--
--     a < b < c    then  a < c
use Rattle.std.proofs.Common.{◌≡◌, ◌≢◌, ℕ, ℤ, true, false, ◌⊎◌, inl, inr, refl, sym, ◌∙◌, arith}
use Rattle.std.specs.Prelude.{int_lt, ◌==◌}
use Rattle.std.specs.Ordering.{int_eq}
use Rattle.std.proofs.lemmas.Int.{ints}
use Rattle.std.proofs.lemmas.Bool.Decides.{nat_tests, Decides-int_eq, Decides-eqb}
use Rattle.retro_base.specs.declared.row.Entry.{Entry}
use Rattle.retro_base.specs.State.{comes_before}
use Rattle.retro_base.specs.Bridges.{same_entry}
use Rattle.retro_base.specs.Facts.{both_true}

pub key_irreflexive : (k : ℤ) → int_lt k k ≡ false
key_irreflexive k = grind (arith, ints, nat_tests)

pub before_irreflexive : (a : Entry) → comes_before a a ≡ false
before_irreflexive a = grind (arith, ints, nat_tests)

pub before_transitive : (a b c : Entry) → comes_before a b ≡ true → comes_before b c ≡ true → comes_before a c ≡ true
before_transitive a b c first second = grind (arith, ints, nat_tests)

pub before_one_way : (a b : Entry) → comes_before a b ≡ true → comes_before b a ≡ false
before_one_way a b first = grind (arith, ints, nat_tests)

-- the test whether two entries are one
pub same_entry-refl : (a : Entry) → same_entry a a ≡ true
same_entry-refl a = rw ((Decides-int_eq a.key a.key).1 refl, (Decides-eqb a.number a.number).1 refl) refl

entry_of_parts : (k l : ℤ) (m n : ℕ) → k ≡ l → m ≡ n → ◌≡◌ {A = Entry} (record { key = k; number = m }) (record { key = l; number = n })
entry_of_parts k l m n e f = rw (e, f) refl

pub same_entry-same : (a b : Entry) → same_entry a b ≡ true → a ≡ b
same_entry-same a b same =
    let parts = both_true (int_eq a.key b.key) (a.number == b.number) same in
    entry_of_parts a.key b.key a.number b.number ((Decides-int_eq a.key b.key).0 parts.0) ((Decides-eqb a.number b.number).0 parts.1)

pub same_or_other : (a b : Entry) → (a ≡ b) ⊎ (a ≢ b)
same_or_other a b = elim (same_entry a b) as (λ s. same_entry a b ≡ s → (a ≡ b) ⊎ (a ≢ b)) [
  | true ↦ λ same. inl (same_entry-same a b same)
  | false ↦ λ differ. inr (λ same. let wrong : true ≡ false = sym (same_entry-refl a) ∙ (rw (← same) at differ) in absurd (cc))
] refl

pub not_same : (a b : Entry) → a ≢ b → same_entry a b ≡ false
not_same a b other = elim (same_entry a b) as (λ s. same_entry a b ≡ s → s ≡ false) [
  | true ↦ λ same. absurd (other (same_entry-same a b same))
  | false ↦ λ differ. refl
] refl

one_of_three : (a b : Entry) → same_entry a b ≡ false → comes_before a b ≡ false → comes_before b a ≡ true
one_of_three a b differ after = grind (arith, ints, nat_tests)

pub before_or_after : (a b : Entry) → a ≢ b → comes_before a b ≡ false → comes_before b a ≡ true
before_or_after a b other after = one_of_three a b (not_same a b other) after

-- what does not come before an entry, where that one does not come before another, does not come before the other; what comes
-- before an entry comes before each that does not come before it; and what does not come before an entry comes after a lesser one
pub not_before_later : (a b c : Entry) → comes_before a b ≡ false → comes_before b c ≡ false → comes_before a c ≡ false
not_before_later a b c first second = grind (arith, ints, nat_tests)

pub before_later : (a b c : Entry) → comes_before a b ≡ true → comes_before c b ≡ false → comes_before a c ≡ true
before_later a b c first after = grind (arith, ints, nat_tests)

pub front_before : (y x e : Entry) → comes_before y x ≡ false → comes_before y e ≡ true → comes_before x e ≡ true
front_before y x e after before = grind (arith, ints, nat_tests)

-- of two entries of which neither comes before the other there is one
pub neither_before : (a b : Entry) → comes_before a b ≡ false → comes_before b a ≡ false → a ≡ b
neither_before a b first second = elim (same_or_other a b) [
  | inl same ↦ same
  | inr other ↦ let wrong : true ≡ false = sym (before_or_after a b other first) ∙ second in absurd (cc)
]
