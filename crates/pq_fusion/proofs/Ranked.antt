-- The entry at a rank of two rising lists together, where so many of the least ones are of the first and so many of the second.
use Rattle.std.proofs.Common.{◌≡◌, ℕ, zero, suc, ◌+◌, ◌≤◌, true, false, cond, List, [], ◌∷◌, length, Some, None, slice_get, refl, ap, sym, ◌∙◌, arith}
use Rattle.retro_base.specs.declared.row.Entry.{Entry}
use Rattle.retro_base.specs.EntriesInOrder.{AreInOrder}
use Rattle.retro_base.specs.State.{comes_before}
use Rattle.retro_base.specs.lemmas.bridges.EntryOrder.{before_one_way}
use Rattle.pq_fusion.specs.declared.bound.Bound.{Bound}
use Rattle.pq_fusion.specs.declared.bound.Bound.TheVariants.{Low, At, Top}
use Rattle.pq_fusion.specs.Bounds.{is_below, higher, lower, at_rank, last_of}
use Rattle.pq_fusion.specs.Pieces.{together}
use Rattle.pq_fusion.proofs.Order.{IsLeast, least_further, least_together, together_none, together_alone}
use Rattle.pq_fusion.proofs.Merged.{second_first, first_first}
use Rattle.pq_fusion.proofs.Bounded.{further, higher_first, higher_second, higher_low, higher_joined, higher_turned, lower_first}
use Rattle.pq_fusion.proofs.Parted.{rank_above, rank_in, rank_some}

pub never_low : (b : Bound) → is_below b Low ≡ false
never_low Low = refl
never_low (At e) = refl
never_low Top = refl

low_top : (b : Bound) → lower Top b ≡ b
low_top Low = refl
low_top (At e) = refl
low_top Top = refl

pub at_some : (xs : List Entry) (n : ℕ) (x : Entry) → slice_get xs n ≡ Some x → At x ≡ at_rank xs n
at_some [] n x there = absurd (cc)
at_some (y ∷ ys) zero x there = let same : y ≡ x = cc in ap At (sym same)
at_some (y ∷ ys) (suc n) x there = at_some ys n x there

pub at_none : (xs : List Entry) (n : ℕ) → slice_get xs n ≡ None → Top ≡ at_rank xs n
at_none [] n there = refl
at_none (y ∷ ys) zero there = absurd (cc)
at_none (y ∷ ys) (suc n) there = at_none ys n there

pub at_end : (xs : List Entry) (n : ℕ) → length xs ≤ n → at_rank xs n ≡ Top
at_end [] n over = refl
at_end (x ∷ xs) zero over = absurd (omega arith)
at_end (x ∷ xs) (suc n) over = at_end xs n (omega arith)

-- the last of the first ones
pub last_less : (xs : List Entry) (n : ℕ) → n ≤ length xs → is_below (last_of xs n) Top ≡ true
last_less xs zero within = refl
last_less [] (suc n) within = absurd (omega arith)
last_less (x ∷ xs) (suc zero) within = refl
last_less (x ∷ xs) (suc (suc n)) within = last_less xs (suc n) (omega arith)

last_more : (x : Entry) (xs : List Entry) (n : ℕ) (b : Bound) → is_below b (at_rank (x ∷ xs) n) ≡ false → is_below b (last_of xs n) ≡ false
last_more x xs zero b after = never_low b
last_more x xs (suc n) b after = after

first_less : (x : Entry) (xs : List Entry) (n : ℕ) (b : Bound) → is_below Low b ≡ true → is_below (at_rank (x ∷ xs) n) b ≡ true → is_below (last_of xs n) b ≡ true
first_less x xs zero b some before = some
first_less x xs (suc n) b some before = before

-- the parts of both
pub record AreSplit (xs ys : List Entry) (i j : ℕ) : Type 0 where
  pub first : i ≤ length xs
  pub second : j ≤ length ys
  pub lesser : is_below (at_rank ys j) (last_of xs i) ≡ false
  pub greater : is_below (last_of ys j) (at_rank xs i) ≡ true

at_first : (xs ys : List Entry) → AreInOrder xs → AreInOrder ys → at_rank (together xs ys) 0 ≡ lower (at_rank xs 0) (at_rank ys 0)
at_first [] ys first second = ap (λ l. at_rank l 0) (together_none ys) ∙ sym (low_top (at_rank ys 0))
at_first (x ∷ xs) [] first second = ap (λ l. at_rank l 0) (together_alone (x ∷ xs) first)
at_first (x ∷ xs) (y ∷ ys) first second = elim (comes_before y x) as (λ t. comes_before y x ≡ t → at_rank (together (x ∷ xs) (y ∷ ys)) 0 ≡ cond t (At y) (At x)) [
  | true ↦ λ before. ap (λ l. at_rank l 0) (second_first x y xs ys first second before)
  | false ↦ λ after. ap (λ l. at_rank l 0) (first_first x y xs ys first second after)
] refl

-- no entry of the second is left out where its first one comes before the last of the first
none_first : (x y : Entry) (xs ys : List Entry) (i : ℕ) → IsLeast x xs → comes_before y x ≡ true → is_below (At y) (at_rank (x ∷ xs) i) ≡ false → ⊥
none_first x y xs ys i least before after =
    let above : is_below (At y) (At x) ≡ false = further (At x) (at_rank (x ∷ xs) i) (At y) (rank_in x xs i least) after in
    let wrong : true ≡ false = sym before ∙ above in absurd (cc)

none_second : (x y : Entry) (ys : List Entry) (j : ℕ) → IsLeast y ys → comes_before y x ≡ false → is_below (at_rank (y ∷ ys) j) (At x) ≡ true → ⊥
none_second x y ys j least after before =
    let above : is_below (at_rank (y ∷ ys) j) (At x) ≡ false = further (At x) (At y) (at_rank (y ∷ ys) j) after (rank_in y ys j least) in
    let wrong : true ≡ false = sym before ∙ above in absurd (cc)

pub rank_of_split : (r : ℕ) (xs ys : List Entry) (i j : ℕ) → r ≡ i + j → AreInOrder xs → AreInOrder ys → AreSplit xs ys i j
    → at_rank (together xs ys) r ≡ lower (at_rank xs i) (at_rank ys j)
rank_of_split zero xs ys zero zero sum first second parts = at_first xs ys first second
rank_of_split zero xs ys (suc i) j sum first second parts = absurd (omega (arith, sum))
rank_of_split zero xs ys zero (suc j) sum first second parts = absurd (omega (arith, sum))
rank_of_split (suc r) [] ys i j sum first second parts =
    let same : suc r ≡ j = omega (arith, sum, parts.first) in
    ap (λ l. at_rank l (suc r)) (together_none ys) ∙ ap (at_rank ys) same ∙ sym (low_top (at_rank ys j))
rank_of_split (suc r) (x ∷ xs) [] i j sum first second parts =
    let same : suc r ≡ i = omega (arith, sum, parts.second) in
    ap (λ l. at_rank l (suc r)) (together_alone (x ∷ xs) first) ∙ ap (at_rank (x ∷ xs)) same ∙ sym (lower_first (at_rank (x ∷ xs) i) Top refl)
rank_of_split (suc r) (x ∷ xs) (y ∷ ys) zero zero sum first second parts = absurd (omega (arith, sum))
rank_of_split (suc r) (x ∷ xs) (y ∷ ys) (suc i) zero sum first second parts =
    elim (comes_before y x) as (λ t. comes_before y x ≡ t → at_rank (together (x ∷ xs) (y ∷ ys)) (suc r) ≡ lower (at_rank xs i) (At y)) [
      | true ↦ λ before. absurd (none_first x y xs ys i first.0 before parts.lesser)
      | false ↦ λ after.
          ap (λ l. at_rank l (suc r)) (first_first x y xs ys first second after)
          ∙ rank_of_split r xs (y ∷ ys) i zero (omega (arith, sum)) first.1 second (record {
            first = omega (arith, parts.first);
            second = parts.second;
            lesser = last_more x xs i (At y) parts.lesser;
            greater = parts.greater;
          })
    ] refl
rank_of_split (suc r) (x ∷ xs) (y ∷ ys) zero (suc j) sum first second parts =
    elim (comes_before y x) as (λ t. comes_before y x ≡ t → at_rank (together (x ∷ xs) (y ∷ ys)) (suc r) ≡ lower (At x) (at_rank ys j)) [
      | true ↦ λ before.
          ap (λ l. at_rank l (suc r)) (second_first x y xs ys first second before)
          ∙ rank_of_split r (x ∷ xs) ys zero j (omega (arith, sum)) first second.1 (record {
            first = parts.first;
            second = omega (arith, parts.second);
            lesser = parts.lesser;
            greater = first_less y ys j (At x) refl parts.greater;
          })
      | false ↦ λ after. absurd (none_second x y ys j second.0 after parts.greater)
    ] refl
rank_of_split (suc r) (x ∷ xs) (y ∷ ys) (suc i) (suc j) sum first second parts =
    elim (comes_before y x) as (λ t. comes_before y x ≡ t → at_rank (together (x ∷ xs) (y ∷ ys)) (suc r) ≡ lower (at_rank xs i) (at_rank ys j)) [
      | true ↦ λ before.
          ap (λ l. at_rank l (suc r)) (second_first x y xs ys first second before)
          ∙ rank_of_split r (x ∷ xs) ys (suc i) j (omega (arith, sum)) first second.1 (record {
            first = parts.first;
            second = omega (arith, parts.second);
            lesser = parts.lesser;
            greater = first_less y ys j (at_rank xs i) (rank_some xs i) parts.greater;
          })
      | false ↦ λ after.
          ap (λ l. at_rank l (suc r)) (first_first x y xs ys first second after)
          ∙ rank_of_split r xs (y ∷ ys) i (suc j) (omega (arith, sum)) first.1 second (record {
            first = omega (arith, parts.first);
            second = parts.second;
            lesser = last_more x xs i (at_rank ys j) parts.lesser;
            greater = parts.greater;
          })
    ] refl

-- the last one before the rank
more_last : (x : Entry) (xs : List Entry) (n : ℕ) → IsLeast x xs → at_rank (x ∷ xs) n ≡ higher (At x) (last_of xs n)
more_last x xs zero least = refl
more_last x xs (suc n) least = sym (higher_second (At x) (at_rank xs n) (rank_above x xs n least))

least_both_first : (x y : Entry) (xs ys : List Entry) → AreInOrder (x ∷ xs) → AreInOrder (y ∷ ys) → comes_before y x ≡ false → IsLeast x (together xs (y ∷ ys))
least_both_first x y xs ys first second after = least_together x xs (y ∷ ys) first.0 (after, least_further x y ys after second.0)

least_both_second : (x y : Entry) (xs ys : List Entry) → AreInOrder (x ∷ xs) → AreInOrder (y ∷ ys) → comes_before y x ≡ true → IsLeast y (together (x ∷ xs) ys)
least_both_second x y xs ys first second before =
    let later = before_one_way y x before in least_together y (x ∷ xs) ys (later, least_further y x xs later first.0) second.0

take_in_first : (x y : Entry) (xs ys : List Entry) (i j r : ℕ) → AreInOrder (x ∷ xs) → AreInOrder (y ∷ ys) → comes_before y x ≡ false
    → last_of (together xs (y ∷ ys)) r ≡ higher (last_of xs i) (last_of (y ∷ ys) j)
    → last_of (together (x ∷ xs) (y ∷ ys)) (suc r) ≡ higher (last_of (x ∷ xs) (suc i)) (last_of (y ∷ ys) j)
take_in_first x y xs ys i j r first second after rest =
    ap (λ l. at_rank l r) (first_first x y xs ys first second after)
    ∙ more_last x (together xs (y ∷ ys)) r (least_both_first x y xs ys first second after)
    ∙ ap (higher (At x)) rest ∙ higher_joined (At x) (last_of xs i) (last_of (y ∷ ys) j)
    ∙ ap (λ b. higher b (last_of (y ∷ ys) j)) (sym (more_last x xs i first.0))

take_in_second : (x y : Entry) (xs ys : List Entry) (i j r : ℕ) → AreInOrder (x ∷ xs) → AreInOrder (y ∷ ys) → comes_before y x ≡ true
    → last_of (together (x ∷ xs) ys) r ≡ higher (last_of (x ∷ xs) i) (last_of ys j)
    → last_of (together (x ∷ xs) (y ∷ ys)) (suc r) ≡ higher (last_of (x ∷ xs) i) (last_of (y ∷ ys) (suc j))
take_in_second x y xs ys i j r first second before rest =
    ap (λ l. at_rank l r) (second_first x y xs ys first second before)
    ∙ more_last y (together (x ∷ xs) ys) r (least_both_second x y xs ys first second before)
    ∙ ap (higher (At y)) rest ∙ higher_joined (At y) (last_of (x ∷ xs) i) (last_of ys j)
    ∙ ap (λ b. higher b (last_of ys j)) (higher_turned (At y) (last_of (x ∷ xs) i))
    ∙ sym (higher_joined (last_of (x ∷ xs) i) (At y) (last_of ys j))
    ∙ ap (higher (last_of (x ∷ xs) i)) (sym (more_last y ys j second.0))

pub last_of_split : (r : ℕ) (xs ys : List Entry) (i j : ℕ) → r ≡ i + j → AreInOrder xs → AreInOrder ys → AreSplit xs ys i j
    → last_of (together xs ys) r ≡ higher (last_of xs i) (last_of ys j)
last_of_split zero xs ys zero zero sum first second parts = refl
last_of_split zero xs ys (suc i) j sum first second parts = absurd (omega (arith, sum))
last_of_split zero xs ys zero (suc j) sum first second parts = absurd (omega (arith, sum))
last_of_split (suc r) [] ys zero j sum first second parts =
    let same : suc r ≡ j = omega (arith, sum) in
    ap (λ l. last_of l (suc r)) (together_none ys) ∙ ap (last_of ys) same ∙ sym (higher_low (last_of ys j))
last_of_split (suc r) [] ys (suc i) j sum first second parts = absurd (omega (arith, parts.first))
last_of_split (suc r) (x ∷ xs) [] i zero sum first second parts =
    let same : suc r ≡ i = omega (arith, sum) in
    ap (λ l. last_of l (suc r)) (together_alone (x ∷ xs) first) ∙ ap (last_of (x ∷ xs)) same
    ∙ sym (higher_first (last_of (x ∷ xs) i) Low (never_low (last_of (x ∷ xs) i)))
last_of_split (suc r) (x ∷ xs) [] i (suc j) sum first second parts = absurd (omega (arith, parts.second))
last_of_split (suc r) (x ∷ xs) (y ∷ ys) zero zero sum first second parts = absurd (omega (arith, sum))
last_of_split (suc r) (x ∷ xs) (y ∷ ys) (suc i) zero sum first second parts =
    elim (comes_before y x) as (λ t. comes_before y x ≡ t → last_of (together (x ∷ xs) (y ∷ ys)) (suc r) ≡ higher (at_rank (x ∷ xs) i) Low) [
      | true ↦ λ before. absurd (none_first x y xs ys i first.0 before parts.lesser)
      | false ↦ λ after. take_in_first x y xs ys i zero r first second after
          (last_of_split r xs (y ∷ ys) i zero (omega (arith, sum)) first.1 second (record {
            first = omega (arith, parts.first);
            second = parts.second;
            lesser = last_more x xs i (At y) parts.lesser;
            greater = parts.greater;
          }))
    ] refl
last_of_split (suc r) (x ∷ xs) (y ∷ ys) zero (suc j) sum first second parts =
    elim (comes_before y x) as (λ t. comes_before y x ≡ t → last_of (together (x ∷ xs) (y ∷ ys)) (suc r) ≡ higher Low (at_rank (y ∷ ys) j)) [
      | true ↦ λ before. take_in_second x y xs ys zero j r first second before
          (last_of_split r (x ∷ xs) ys zero j (omega (arith, sum)) first second.1 (record {
            first = parts.first;
            second = omega (arith, parts.second);
            lesser = parts.lesser;
            greater = first_less y ys j (At x) refl parts.greater;
          }))
      | false ↦ λ after. absurd (none_second x y ys j second.0 after parts.greater)
    ] refl
last_of_split (suc r) (x ∷ xs) (y ∷ ys) (suc i) (suc j) sum first second parts =
    elim (comes_before y x) as (λ t. comes_before y x ≡ t → last_of (together (x ∷ xs) (y ∷ ys)) (suc r) ≡ higher (at_rank (x ∷ xs) i) (at_rank (y ∷ ys) j)) [
      | true ↦ λ before. take_in_second x y xs ys (suc i) j r first second before
          (last_of_split r (x ∷ xs) ys (suc i) j (omega (arith, sum)) first second.1 (record {
            first = parts.first;
            second = omega (arith, parts.second);
            lesser = parts.lesser;
            greater = first_less y ys j (at_rank xs i) (rank_some xs i) parts.greater;
          }))
      | false ↦ λ after. take_in_first x y xs ys i (suc j) r first second after
          (last_of_split r xs (y ∷ ys) i (suc j) (omega (arith, sum)) first.1 second (record {
            first = omega (arith, parts.first);
            second = parts.second;
            lesser = last_more x xs i (at_rank ys j) parts.lesser;
            greater = parts.greater;
          }))
    ] refl
