-- What counts of entries come to where a piece follows, and what they say of the entry at an index.
use Rattle.std.proofs.Common.{◌≡◌, ℕ, zero, suc, ◌+◌, ◌-◌, ◌<◌, ◌≤◌, true, false, cond, List, [], ◌∷◌, length, drop, min, Some, refl, arith, slice_get}
use Rattle.std.specs.List.{AllWithin}
use Rattle.std.proofs.lemmas.List.{length-drop}
use Rattle.retro_base.specs.declared.row.Entry.{Entry}
use Rattle.retro_base.specs.EntriesInOrder.{AreInOrder}
use Rattle.retro_base.specs.State.{comes_before, with_entry}
use Rattle.pq_fusion.specs.declared.entry_counts.EntryCounts.{EntryCounts}
use Rattle.pq_fusion.specs.Pieces.{PieceParts, together, fuse}
use Rattle.pq_fusion.specs.EntryCounts.{reaching}
use Rattle.pq_fusion.proofs.Order.{IsLeast, not_earlier, length_together, order_together}

-- no more reach than there are
pub reaching_few : (bound : Entry) (xs : List Entry) → reaching bound xs ≤ length xs
reaching_few bound [] = omega arith
reaching_few bound (x ∷ xs) = elim (comes_before x bound) as (λ t. cond t 0 1 + reaching bound xs ≤ suc (length xs)) [
  | true ↦ omega (arith, reaching_few bound xs)
  | false ↦ omega (arith, reaching_few bound xs)
]

-- those behind a place where the entries turn reach, and no others
pub reaching_counts : (bound : Entry) (xs : List Entry) (place : ℕ) → place ≤ length xs → AllWithin (λ y. comes_before y bound ≡ true) xs 0 place
    → AllWithin (λ y. comes_before y bound ≡ false) xs place (length xs) → length xs - place ≡ reaching bound xs
reaching_counts bound [] place within before after = omega arith
reaching_counts bound (x ∷ xs) zero within before after =
    let own : comes_before x bound ≡ false = after 0 x (omega arith) (omega arith) in
    let others : AllWithin (λ y. comes_before y bound ≡ false) xs 0 (length xs) = λ k d from to. after (suc k) d (omega arith) (omega arith) in
    let none : AllWithin (λ y. comes_before y bound ≡ true) xs 0 0 = λ k d from to. absurd (omega arith) in
    rw own (omega (arith, reaching_counts bound xs 0 (omega arith) none others))
reaching_counts bound (x ∷ xs) (suc place) within before after =
    let own : comes_before x bound ≡ true = before 0 x (omega arith) (omega arith) in
    let first : AllWithin (λ y. comes_before y bound ≡ true) xs 0 place = λ k d from to. before (suc k) d (omega arith) (omega arith) in
    let second : AllWithin (λ y. comes_before y bound ≡ false) xs place (length xs) = λ k d from to. after (suc k) d (omega arith) (omega arith) in
    rw own (omega (arith, reaching_counts bound xs place (omega arith) first second))

-- of two lists together those of both reach
reaching_with : (bound e : Entry) (xs : List Entry) → reaching bound (with_entry e xs) ≡ cond (comes_before e bound) 0 1 + reaching bound xs
reaching_with bound e [] = refl
reaching_with bound e (x ∷ xs) = elim (comes_before e x) as (λ t. reaching bound (cond t (e ∷ x ∷ xs) (x ∷ with_entry e xs)) ≡ cond (comes_before e bound) 0 1 + (cond (comes_before x bound) 0 1 + reaching bound xs)) [
  | true ↦ refl
  | false ↦ omega (arith, reaching_with bound e xs)
]

reaching_together : (bound : Entry) (xs ys : List Entry) → reaching bound (together xs ys) ≡ reaching bound xs + reaching bound ys
unfolding together
reaching_together bound [] ys = omega arith
reaching_together bound (x ∷ xs) ys = omega (arith, reaching_with bound x (together xs ys), reaching_together bound xs ys)

-- where the first of a rising list reaches, all do
pub reaching_all : (bound x : Entry) (xs : List Entry) → IsLeast x xs → comes_before x bound ≡ false → reaching bound xs ≡ length xs
reaching_all bound x [] least after = refl
reaching_all bound x (y ∷ ys) least after = rw (not_earlier bound x y after least.0) (omega (arith, reaching_all bound x ys least.1 after))

-- so of its greatest ones as many reach as of all, as far as they go
reaching_greatest : (bound : Entry) (n : ℕ) (xs : List Entry) → AreInOrder xs → reaching bound (drop n xs) ≡ min (length xs - n) (reaching bound xs)
reaching_greatest bound zero xs order = omega (arith, reaching_few bound xs)
reaching_greatest bound (suc n) [] order = omega arith
reaching_greatest bound (suc n) (x ∷ xs) order = elim (comes_before x bound) as (λ t. comes_before x bound ≡ t → reaching bound (drop n xs) ≡ min (suc (length xs) - suc n) (cond t 0 1 + reaching bound xs)) [
  | true ↦ λ before. omega (arith, reaching_greatest bound n xs order.1)
  | false ↦ λ after. omega (arith, reaching_greatest bound n xs order.1, reaching_all bound x xs order.0 after)
] refl

-- a piece that follows: how many it leaves, and how many of these reach
pub fused_length : (a b : PieceParts) → length (fuse a b).left ≡ length b.left + (length a.left - b.unmet)
unfolding fuse
fused_length a b =
    let met = together a.left b.removed in
    let place = length met - (length a.left - b.unmet) in
    omega (arith, length_together b.left (drop place met), length-drop place met, length_together a.left b.removed)

pub fused_reaching : (bound : Entry) (a b : PieceParts) → AreInOrder b.removed
    → reaching bound (fuse a b).left ≡ reaching bound b.left + min (length a.left - b.unmet) (reaching bound a.left + reaching bound b.removed)
unfolding fuse
fused_reaching bound a b order =
    let met = together a.left b.removed in
    let place = length met - (length a.left - b.unmet) in
    omega (
      arith,
      reaching_together bound b.left (drop place met),
      reaching_greatest bound place met (order_together a.left b.removed order),
      reaching_together bound a.left b.removed,
      length_together a.left b.removed,
    )

pub same_counts : (k l m n : ℕ) → k ≡ l → m ≡ n → ◌≡◌ {A = EntryCounts} (record { left = k; reaching = m }) (record { left = l; reaching = n })
same_counts k l m n e f = rw (e, f) refl

-- the entry at an index comes before a bound where too few reach it
pub rank_reached : (bound : Entry) (xs : List Entry) (index : ℕ) (x : Entry) → AreInOrder xs → slice_get xs index ≡ Some x
    → length xs - index ≤ reaching bound xs → comes_before x bound ≡ false
rank_reached bound [] index x order there enough = absurd (cc)
rank_reached bound (y ∷ ys) zero x order there enough =
    let same : y ≡ x = cc in
    elim (comes_before y bound) as (λ t. comes_before y bound ≡ t → suc (length ys) - zero ≤ cond t 0 1 + reaching bound ys → comes_before x bound ≡ false) [
      | true ↦ λ before most. absurd (omega (arith, reaching_few bound ys))
      | false ↦ λ after most. rw (← same) after
    ] refl enough
rank_reached bound (y ∷ ys) (suc index) x order there enough =
    elim (comes_before y bound) as (λ t. comes_before y bound ≡ t → suc (length ys) - suc index ≤ cond t 0 1 + reaching bound ys → comes_before x bound ≡ false) [
      | true ↦ λ before most. rank_reached bound ys index x order.1 there (omega arith)
      | false ↦ λ after most. rank_reached bound ys index x order.1 there (omega (arith, reaching_all bound y ys order.0 after))
    ] refl enough

pub rank_missed : (bound : Entry) (xs : List Entry) (index : ℕ) (x : Entry) → AreInOrder xs → slice_get xs index ≡ Some x
    → reaching bound xs < length xs - index → comes_before x bound ≡ true
rank_missed bound [] index x order there few = absurd (cc)
rank_missed bound (y ∷ ys) zero x order there few =
    let same : y ≡ x = cc in
    elim (comes_before y bound) as (λ t. comes_before y bound ≡ t → cond t 0 1 + reaching bound ys < suc (length ys) - zero → comes_before x bound ≡ true) [
      | true ↦ λ before most. rw (← same) before
      | false ↦ λ after most. absurd (omega (arith, reaching_all bound y ys order.0 after))
    ] refl few
rank_missed bound (y ∷ ys) (suc index) x order there few =
    elim (comes_before y bound) as (λ t. comes_before y bound ≡ t → cond t 0 1 + reaching bound ys < suc (length ys) - suc index → comes_before x bound ≡ true) [
      | true ↦ λ before most. rank_missed bound ys index x order.1 there (omega arith)
      | false ↦ λ after most. absurd (omega (arith, reaching_all bound y ys order.0 after))
    ] refl few
