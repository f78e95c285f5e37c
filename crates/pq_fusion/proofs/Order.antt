-- Entries in order, of which two may be the same: one more keeps them so, and in which order several come does not matter.
use Rattle.std.proofs.Common.{◌≡◌, ℕ, ℤ, ◌+◌, Bool, true, false, cond, ◌&&◌, ◌||◌, List, [], ◌∷◌, ◌++◌, length, inl, inr, refl, ap, sym, ◌∙◌, arith}
use Rattle.std.specs.Prelude.{int_lt, nat_lt}
use Rattle.std.specs.Ordering.{int_eq}
use Rattle.std.specs.List.{AllByRecursion}
use Rattle.std.proofs.lemmas.Int.{ints}
use Rattle.std.proofs.lemmas.Bool.Decides.{nat_tests}
use Rattle.retro_base.specs.declared.row.Entry.{Entry}
use Rattle.retro_base.specs.EntriesInOrder.{AreInOrder}
use Rattle.retro_base.specs.State.{comes_before, with_entry}
use Rattle.retro_base.specs.lemmas.bridges.EntryOrder.{before_one_way, same_or_other, neither_before}
use Rattle.retro_base.specs.lemmas.bridges.Entries.{with_first, with_later, with_swapped}
use Rattle.retro_base.specs.lemmas.CountedEntries.{with_length}
use Rattle.pq_fusion.specs.Pieces.{together}

-- no entry of the list comes before this one
abbrev pub IsLeast : Entry → List Entry → Type 0
IsLeast x ys = AllByRecursion (λ y. comes_before y x ≡ false) ys

-- the order of pairs of a key and a number
abbrev pair_before : ℤ → ℕ → ℤ → ℕ → Bool
pair_before k m l n = int_lt k l || (int_eq k l && nat_lt m n)

pair_further : (k : ℤ) (m : ℕ) (l : ℤ) (n : ℕ) (j : ℤ) (o : ℕ) → pair_before l n k m ≡ false → pair_before j o l n ≡ false → pair_before j o k m ≡ false
pair_further k m l n j o first second = grind (arith, ints, nat_tests)

-- what is no earlier than a later entry is no earlier than this one
pub not_earlier : (x y z : Entry) → comes_before y x ≡ false → comes_before z y ≡ false → comes_before z x ≡ false
not_earlier x y z first second = pair_further x.key x.number y.key y.number z.key z.number first second

pub least_further : (x y : Entry) (zs : List Entry) → comes_before y x ≡ false → IsLeast y zs → IsLeast x zs
least_further x y [] first least = tt
least_further x y (z ∷ zs) first least = (not_earlier x y z first least.0, least_further x y zs first least.1)

-- an entry that no other comes before stands first
pub least_first : (x : Entry) (zs : List Entry) → IsLeast x zs → with_entry x zs ≡ x ∷ zs
least_first x [] least = refl
least_first x (z ∷ zs) least = elim (comes_before x z) as (λ b. comes_before x z ≡ b → with_entry x (z ∷ zs) ≡ x ∷ z ∷ zs) [
  | true ↦ λ before. with_first x z zs before
  | false ↦ λ after.
      let same : x ≡ z = neither_before x z after least.0 in
      with_later x z zs after ∙ ap (λ l. z ∷ l) (least_first x zs least.1) ∙ ap (λ e. z ∷ e ∷ zs) same ∙ ap (λ e. e ∷ z ∷ zs) (sym same)
] refl

pub least_with : (x e : Entry) (zs : List Entry) → IsLeast x zs → comes_before e x ≡ false → IsLeast x (with_entry e zs)
least_with x e [] least later = (later, tt)
least_with x e (z ∷ zs) least later = elim (comes_before e z) as (λ b. IsLeast x (cond b (e ∷ z ∷ zs) (z ∷ with_entry e zs))) [
  | true ↦ (later, least)
  | false ↦ (least.0, least_with x e zs least.1 later)
]

-- one more entry keeps them in order
pub order_with : (e : Entry) (xs : List Entry) → AreInOrder xs → AreInOrder (with_entry e xs)
order_with e [] order = (tt, tt)
order_with e (x ∷ xs) order = elim (comes_before e x) as (λ b. comes_before e x ≡ b → AreInOrder (cond b (e ∷ x ∷ xs) (x ∷ with_entry e xs))) [
  | true ↦ λ before. let later = before_one_way e x before in ((later, least_further e x xs later order.0), order)
  | false ↦ λ after. (least_with x e xs order.0 after, order_with e xs order.1)
] refl

-- two more can come in either order
pub with_either : (a b : Entry) (xs : List Entry) → with_entry a (with_entry b xs) ≡ with_entry b (with_entry a xs)
with_either a b xs = elim (same_or_other a b) [
  | inl same ↦ ap (λ e. with_entry e (with_entry b xs)) same ∙ ap (λ e. with_entry b (with_entry e xs)) (sym same)
  | inr other ↦ with_swapped a b xs other
]

-- two lists together
pub together_none : (ys : List Entry) → together [] ys ≡ ys
unfolding together
together_none ys = refl

pub together_more : (x : Entry) (xs ys : List Entry) → together (x ∷ xs) ys ≡ with_entry x (together xs ys)
unfolding together
together_more x xs ys = refl

pub order_together : (xs ys : List Entry) → AreInOrder ys → AreInOrder (together xs ys)
unfolding together
order_together [] ys order = order
order_together (x ∷ xs) ys order = order_with x (together xs ys) (order_together xs ys order)

pub least_together : (z : Entry) (xs ys : List Entry) → IsLeast z xs → IsLeast z ys → IsLeast z (together xs ys)
unfolding together
least_together z [] ys first second = second
least_together z (x ∷ xs) ys first second = least_with z x (together xs ys) (least_together z xs ys first.1 second) first.0

pub length_together : (xs ys : List Entry) → length (together xs ys) ≡ length xs + length ys
unfolding together
length_together [] ys = omega arith
length_together (x ∷ xs) ys = omega (arith, with_length x (together xs ys), length_together xs ys)

-- alone they stay as they are
pub together_alone : (xs : List Entry) → AreInOrder xs → together xs [] ≡ xs
unfolding together
together_alone [] order = refl
together_alone (x ∷ xs) order = ap (with_entry x) (together_alone xs order.1) ∙ least_first x xs order.0

-- one more in the one list, or in the other, is one more in both together
pub with_in_first : (e : Entry) (xs ys : List Entry) → together (with_entry e xs) ys ≡ with_entry e (together xs ys)
unfolding together
with_in_first e [] ys = refl
with_in_first e (x ∷ xs) ys = elim (comes_before e x) as (λ b. together (cond b (e ∷ x ∷ xs) (x ∷ with_entry e xs)) ys ≡ with_entry e (with_entry x (together xs ys))) [
  | true ↦ refl
  | false ↦ ap (with_entry x) (with_in_first e xs ys) ∙ with_either x e (together xs ys)
]

pub with_in_second : (e : Entry) (xs ys : List Entry) → together xs (with_entry e ys) ≡ with_entry e (together xs ys)
unfolding together
with_in_second e [] ys = refl
with_in_second e (x ∷ xs) ys = ap (with_entry x) (with_in_second e xs ys) ∙ with_either x e (together xs ys)

pub with_none : (xs : List Entry) → xs ≡ xs ++ []
with_none [] = refl
with_none (x ∷ xs) = ap (λ l. x ∷ l) (with_none xs)
