-- Lists of entries in rising order, which one more entry keeps in order. Membership is by recursion here.
--
--     a c d  with b  is  a b c d
use Rattle.std.proofs.Common.{◌≡◌, ◌≢◌, zero, suc, ◌<◌, Bool, true, false, List, [], ◌∷◌, length, ◌⊎◌, inl, inr, refl, ap, sym, ◌∙◌, arith, cond}
use Rattle.std.specs.Prelude.{Contains, slice_index_or}
use Rattle.std.specs.List.{AllByRecursion}
use Rattle.std.proofs.lemmas.Bool.Decides.{nat_tests}
use Rattle.std.proofs.lemmas.Int.{ints}
use Rattle.retro_base.specs.declared.row.Entry.{Entry}
use Rattle.retro_base.specs.State.{comes_before, with_entry}
use Rattle.retro_base.specs.lemmas.bridges.EntryOrder.{before_irreflexive, before_transitive, before_or_after, before_one_way, same_or_other}

-- an entry is among these
abbrev pub In : Entry → List Entry → Type 0
In x [] = ⊥
In x (y ∷ ys) = (x ≡ y) ⊎ In x ys

pub in_or_not : (x : Entry) (ys : List Entry) → In x ys ⊎ (¬ In x ys)
in_or_not x [] = inr (λ none. none)
in_or_not x (y ∷ ys) = elim (same_or_other x y) [
  | inl same ↦ inl (inl same)
  | inr other ↦ elim (in_or_not x ys) [
    | inl inside ↦ inl (inr inside)
    | inr outside ↦ inr (λ h. elim h [ inl same ↦ other same | inr inside ↦ outside inside ])
  ]
]

pub contains_in : (xs : List Entry) (x : Entry) → Contains xs x → In x xs
contains_in [] x h = absurd (omega (arith, h.1))
contains_in (y ∷ ys) x h = elim h.0 as (λ k. k < length (y ∷ ys) → slice_index_or (y ∷ ys) k x ≡ x → In x (y ∷ ys)) [
  | zero ↦ λ within at. inl (sym at)
  | suc k ↦ λ within at. inr (contains_in ys x (k, omega arith, at))
] h.1 h.2

pub in_contains : (xs : List Entry) (x : Entry) → In x xs → Contains xs x
in_contains [] x h = absurd h
in_contains (y ∷ ys) x h = elim h [
  | inl same ↦ (zero, omega arith, sym same)
  | inr inside ↦ let k = in_contains ys x inside in (suc k.0, omega (arith, k.1), k.2)
]

-- the entries of a list come after this one
abbrev pub Above : Entry → List Entry → Type 0
Above x ys = AllByRecursion (λ y. comes_before x y ≡ true) ys

abbrev pub Rising : List Entry → Type 0
Rising [] = Unit {0}
Rising (x ∷ xs) = Above x xs × Rising xs

pub above_in : (x y : Entry) (ys : List Entry) → Above x ys → In y ys → comes_before x y ≡ true
above_in x y [] above h = absurd h
above_in x y (z ∷ zs) above h = elim h [
  | inl same ↦ rw same above.0
  | inr inside ↦ above_in x y zs above.1 inside
]

-- the first of a rising list stands in it once
pub first_once : (x : Entry) (xs : List Entry) → Above x xs → ¬ In x xs
first_once x xs above inside = let wrong : false ≡ true = sym (before_irreflexive x) ∙ above_in x x xs above inside in absurd (cc)

above_further : (x y : Entry) (zs : List Entry) → comes_before x y ≡ true → Above y zs → Above x zs
above_further x y [] before above = tt
above_further x y (z ∷ zs) before above = (before_transitive x y z before above.0, above_further x y zs before above.1)

-- one more entry is among them
pub with_in : (e y : Entry) (xs : List Entry) → (y ≡ e) ⊎ In y xs → In y (with_entry e xs)
with_in e y [] h = h
with_in e y (x ∷ xs) h = elim (comes_before e x) as (λ b. In y (cond b (e ∷ x ∷ xs) (x ∷ with_entry e xs))) [
  | true ↦ h
  | false ↦ elim h [
    | inl same ↦ inr (with_in e y xs (inl same))
    | inr inside ↦ elim inside [ inl first ↦ inl first | inr further ↦ inr (with_in e y xs (inr further)) ]
  ]
]

pub in_with : (e y : Entry) (xs : List Entry) → In y (with_entry e xs) → (y ≡ e) ⊎ In y xs
in_with e y [] h = h
in_with e y (x ∷ xs) h = elim (comes_before e x) as (λ b. In y (cond b (e ∷ x ∷ xs) (x ∷ with_entry e xs)) → (y ≡ e) ⊎ In y (x ∷ xs)) [
  | true ↦ λ inside. inside
  | false ↦ λ inside. elim inside [
    | inl first ↦ inr (inl first)
    | inr further ↦ elim (in_with e y xs further) [ inl same ↦ inl same | inr there ↦ inr (inr there) ]
  ]
] h

above_with : (x e : Entry) (xs : List Entry) → Above x xs → comes_before x e ≡ true → Above x (with_entry e xs)
above_with x e [] above before = (before, tt)
above_with x e (y ∷ ys) above before = elim (comes_before e y) as (λ b. Above x (cond b (e ∷ y ∷ ys) (y ∷ with_entry e ys))) [
  | true ↦ (before, above)
  | false ↦ (above.0, above_with x e ys above.1 before)
]

-- one more entry keeps them rising
pub rising_with : (e : Entry) (xs : List Entry) → Rising xs → ¬ In e xs → Rising (with_entry e xs)
rising_with e [] rising absent = (tt, tt)
rising_with e (x ∷ xs) rising absent = elim (comes_before e x) as (λ b. comes_before e x ≡ b → Rising (cond b (e ∷ x ∷ xs) (x ∷ with_entry e xs))) [
  | true ↦ λ before. ((before, above_further e x xs before rising.0), rising)
  | false ↦ λ after. (above_with x e xs rising.0 (before_or_after e x (λ same. absent (inl same)) after), rising_with e xs rising.1 (λ inside. absent (inr inside)))
] refl

-- an entry before all of them comes first, and one after the first comes later
pub with_first : (e x : Entry) (xs : List Entry) → comes_before e x ≡ true → with_entry e (x ∷ xs) ≡ e ∷ x ∷ xs
with_first e x xs before = rw before refl

pub with_later : (e x : Entry) (xs : List Entry) → comes_before e x ≡ false → with_entry e (x ∷ xs) ≡ x ∷ with_entry e xs
with_later e x xs after = rw after refl

pub with_above : (e : Entry) (xs : List Entry) → Above e xs → with_entry e xs ≡ e ∷ xs
with_above e [] above = refl
with_above e (x ∷ xs) above = with_first e x xs above.0

-- what is after a later entry is after an earlier one
pub not_before : (a b x : Entry) → comes_before a x ≡ true → comes_before b x ≡ false → comes_before b a ≡ false
not_before a b x first later = grind (arith, ints, nat_tests)

-- two more entries can come in either order: both before the others, both after the first of them, or on its two sides
swapped_first : (a b : Entry) (xs : List Entry) → a ≢ b → with_entry a xs ≡ a ∷ xs → with_entry b xs ≡ b ∷ xs → with_entry a (b ∷ xs) ≡ with_entry b (a ∷ xs)
swapped_first a b xs other a_first b_first = elim (comes_before a b) as (λ t. comes_before a b ≡ t → with_entry a (b ∷ xs) ≡ with_entry b (a ∷ xs)) [
  | true ↦ λ first. with_first a b xs first ∙ sym (with_later b a xs (before_one_way a b first) ∙ ap (λ l. a ∷ l) b_first)
  | false ↦ λ after. with_later a b xs after ∙ ap (λ l. b ∷ l) a_first ∙ sym (with_first b a xs (before_or_after a b other after))
] refl

swapped_by : (a b x : Entry) (xs : List Entry) → a ≢ b → with_entry a (with_entry b xs) ≡ with_entry b (with_entry a xs)
    → (s t : Bool) → comes_before a x ≡ s → comes_before b x ≡ t → with_entry a (with_entry b (x ∷ xs)) ≡ with_entry b (with_entry a (x ∷ xs))
swapped_by a b x xs other rest true true a_first b_first =
    ap (with_entry a) (with_first b x xs b_first) ∙ swapped_first a b (x ∷ xs) other (with_first a x xs a_first) (with_first b x xs b_first)
    ∙ sym (ap (with_entry b) (with_first a x xs a_first))
swapped_by a b x xs other rest true false a_first b_later = simp (a_first, b_later, not_before a b x a_first b_later)
swapped_by a b x xs other rest false true a_later b_first = simp (a_later, b_first, not_before b a x b_first a_later)
swapped_by a b x xs other rest false false a_later b_later = simp (a_later, b_later) (ap (λ l. x ∷ l) rest)

pub with_swapped : (a b : Entry) (xs : List Entry) → a ≢ b → with_entry a (with_entry b xs) ≡ with_entry b (with_entry a xs)
with_swapped a b [] other = swapped_first a b [] other refl refl
with_swapped a b (x ∷ xs) other = swapped_by a b x xs other (with_swapped a b xs other) (comes_before a x) (comes_before b x) refl refl
