-- The n least entries of a rising list, and the others, where one entry more comes among them, or one taking more.
use Rattle.std.proofs.Common.{◌≡◌, ℕ, zero, suc, ◌+◌, ◌-◌, true, false, cond, List, [], ◌∷◌, length, take, drop, refl, ap, sym, ◌∙◌, arith, subst}
use Rattle.retro_base.specs.declared.row.Entry.{Entry}
use Rattle.retro_base.specs.EntriesInOrder.{AreInOrder}
use Rattle.retro_base.specs.State.{comes_before, with_entry}
use Rattle.retro_base.specs.lemmas.bridges.EntryOrder.{before_one_way, before_irreflexive}
use Rattle.retro_base.specs.lemmas.bridges.Entries.{with_first, with_later}
use Rattle.pq_fusion.specs.declared.bound.Bound.{Bound}
use Rattle.pq_fusion.specs.declared.bound.Bound.TheVariants.{Low, At, Top}
use Rattle.pq_fusion.specs.Bounds.{is_below, higher, lower, with_bound, tops, at_rank, last_of}
use Rattle.pq_fusion.proofs.Order.{IsLeast, least_first}
use Rattle.pq_fusion.proofs.Bounded.{further, higher_first, higher_second, lower_first, higher_above, above_low, lows, length_bound}

-- what stands behind the first entry is no less
pub rank_above : (x : Entry) (xs : List Entry) (n : ℕ) → IsLeast x xs → is_below (at_rank xs n) (At x) ≡ false
rank_above x [] n least = refl
rank_above x (y ∷ ys) zero least = least.0
rank_above x (y ∷ ys) (suc n) least = rank_above x ys n least.1

pub rank_in : (x : Entry) (xs : List Entry) (n : ℕ) → IsLeast x xs → is_below (at_rank (x ∷ xs) n) (At x) ≡ false
rank_in x xs zero least = before_irreflexive x
rank_in x xs (suc n) least = rank_above x xs n least

pub rank_some : (xs : List Entry) (n : ℕ) → is_below Low (at_rank xs n) ≡ true
rank_some [] n = refl
rank_some (x ∷ xs) zero = refl
rank_some (x ∷ xs) (suc n) = rank_some xs n

pub rank_tops : (xs : List Entry) (n : ℕ) → suc n - length xs ≡ tops (at_rank xs n) + (n - length xs)
rank_tops [] n = omega arith
rank_tops (x ∷ xs) zero = omega arith
rank_tops (x ∷ xs) (suc n) = omega (arith, rank_tops xs n)

behind_first : (b : Bound) (x : Entry) (xs : List Entry) → is_below b (At x) ≡ false → with_bound b (x ∷ xs) ≡ x ∷ with_bound b xs
behind_first Low x xs above = absurd (cc)
behind_first (At e) x xs above = with_later e x xs above
behind_first Top x xs above = refl

-- one more is taken: the least that stays
pub drop_more : (xs : List Entry) (n : ℕ) → AreInOrder xs → drop n xs ≡ with_bound (at_rank xs n) (drop (suc n) xs)
drop_more [] zero order = refl
drop_more [] (suc n) order = refl
drop_more (x ∷ xs) zero order = sym (least_first x xs order.0)
drop_more (x ∷ xs) (suc n) order = drop_more xs n order.1

pub take_more : (xs : List Entry) (n : ℕ) → AreInOrder xs → take (suc n) xs ≡ with_bound (at_rank xs n) (take n xs)
take_more [] zero order = refl
take_more [] (suc n) order = refl
take_more (x ∷ xs) zero order = refl
take_more (x ∷ xs) (suc n) order = ap (λ l. x ∷ l) (take_more xs n order.1) ∙ sym (behind_first (at_rank xs n) x (take n xs) (rank_above x xs n order.0))

-- one entry more: it is taken and the last one taken stays, or it stays
abbrev last_with : Entry → List Entry → ℕ → Bound
last_with e xs n = higher (At e) (last_of xs n)

first_last : (e x : Entry) (xs : List Entry) (n : ℕ) → AreInOrder (x ∷ xs) → comes_before e x ≡ true → last_with e (x ∷ xs) (suc n) ≡ at_rank (x ∷ xs) n
first_last e x xs n order before =
    higher_second (At e) (at_rank (x ∷ xs) n) (further (At e) (At x) (at_rank (x ∷ xs) n) (before_one_way e x before) (rank_in x xs n order.0))

drop_first : (e x : Entry) (xs : List Entry) (n : ℕ) → AreInOrder (x ∷ xs) → comes_before e x ≡ true
    → drop n (x ∷ xs) ≡ with_bound (last_with e (x ∷ xs) (suc n)) (drop n xs)
drop_first e x xs n order before = drop_more (x ∷ xs) n order ∙ ap (λ b. with_bound b (drop n xs)) (sym (first_last e x xs n order before))

drop_with : (e : Entry) (xs : List Entry) (n : ℕ) → AreInOrder xs → drop n (with_entry e xs) ≡ with_bound (last_with e xs n) (drop n xs)
drop_with e xs zero order = refl
drop_with e [] (suc zero) order = refl
drop_with e [] (suc (suc n)) order = refl
drop_with e (x ∷ xs) (suc zero) order = elim (comes_before e x) as (λ t. comes_before e x ≡ t → drop 1 (cond t (e ∷ x ∷ xs) (x ∷ with_entry e xs)) ≡ with_bound (last_with e (x ∷ xs) 1) xs) [
  | true ↦ λ before. drop_first e x xs zero order before
  | false ↦ λ after. ap (λ b. with_bound b xs) (sym (higher_first (At e) (At x) after))
] refl
drop_with e (x ∷ xs) (suc (suc n)) order =
    elim (comes_before e x) as (λ t. comes_before e x ≡ t → drop (suc (suc n)) (cond t (e ∷ x ∷ xs) (x ∷ with_entry e xs)) ≡ with_bound (last_with e (x ∷ xs) (suc (suc n))) (drop (suc n) xs)) [
      | true ↦ λ before. drop_first e x xs (suc n) order before
      | false ↦ λ after. drop_with e xs (suc n) order.1
    ] refl

take_first : (e x : Entry) (xs : List Entry) (n : ℕ) → AreInOrder (x ∷ xs) → comes_before e x ≡ true
    → with_entry e (x ∷ take n xs) ≡ with_bound (last_with e (x ∷ xs) (suc n)) (e ∷ take n (x ∷ xs))
take_first e x xs n order before =
    let last = first_last e x xs n order before in
    let above = further (At e) (At x) (at_rank (x ∷ xs) n) (before_one_way e x before) (rank_in x xs n order.0) in
    with_first e x (take n xs) before ∙ ap (λ l. e ∷ l) (take_more (x ∷ xs) n order)
    ∙ sym (ap (λ b. with_bound b (e ∷ take n (x ∷ xs))) last ∙ behind_first (at_rank (x ∷ xs) n) e (take n (x ∷ xs)) above)

take_with : (e : Entry) (xs : List Entry) (n : ℕ) → AreInOrder xs → with_entry e (take n xs) ≡ with_bound (last_with e xs n) (take n (with_entry e xs))
take_with e xs zero order = refl
take_with e [] (suc zero) order = refl
take_with e [] (suc (suc n)) order = refl
take_with e (x ∷ xs) (suc zero) order = elim (comes_before e x) as (λ t. comes_before e x ≡ t → with_entry e (x ∷ []) ≡ with_bound (last_with e (x ∷ xs) 1) (take 1 (cond t (e ∷ x ∷ xs) (x ∷ with_entry e xs)))) [
  | true ↦ λ before. take_first e x xs zero order before
  | false ↦ λ after. ap (λ b. with_bound b (x ∷ [])) (sym (higher_first (At e) (At x) after))
] refl
take_with e (x ∷ xs) (suc (suc n)) order =
    elim (comes_before e x) as (λ t. comes_before e x ≡ t → with_entry e (x ∷ take (suc n) xs) ≡ with_bound (last_with e (x ∷ xs) (suc (suc n))) (take (suc (suc n)) (cond t (e ∷ x ∷ xs) (x ∷ with_entry e xs)))) [
      | true ↦ λ before. take_first e x xs (suc n) order before
      | false ↦ λ after.
          with_later e x (take (suc n) xs) after ∙ ap (λ l. x ∷ l) (take_with e xs (suc n) order.1)
          ∙ sym (behind_first (last_with e xs (suc n)) x (take (suc n) (with_entry e xs)) (further (At x) (At e) (last_with e xs (suc n)) after (higher_above (At e) (at_rank xs n))))
    ] refl

-- what stands at the boundary tells the same before and after, clamped by the entry
staying_with : (e : Entry) (xs : List Entry) (n : ℕ) → AreInOrder xs → higher (At e) (at_rank (with_entry e xs) n) ≡ last_with e xs n
staying_with e [] zero order = higher_first (At e) (At e) (before_irreflexive e)
staying_with e [] (suc n) order = refl
staying_with e (x ∷ xs) zero order = elim (comes_before e x) as (λ t. comes_before e x ≡ t → higher (At e) (at_rank (cond t (e ∷ x ∷ xs) (x ∷ with_entry e xs)) 0) ≡ At e) [
  | true ↦ λ before. higher_first (At e) (At e) (before_irreflexive e)
  | false ↦ λ after. higher_first (At e) (At x) after
] refl
staying_with e (x ∷ xs) (suc zero) order = elim (comes_before e x) as (λ t. comes_before e x ≡ t → higher (At e) (at_rank (cond t (e ∷ x ∷ xs) (x ∷ with_entry e xs)) 1) ≡ last_with e (x ∷ xs) 1) [
  | true ↦ λ before. refl
  | false ↦ λ after. staying_with e xs zero order.1 ∙ sym (higher_first (At e) (At x) after)
] refl
staying_with e (x ∷ xs) (suc (suc n)) order =
    elim (comes_before e x) as (λ t. comes_before e x ≡ t → higher (At e) (at_rank (cond t (e ∷ x ∷ xs) (x ∷ with_entry e xs)) (suc (suc n))) ≡ last_with e (x ∷ xs) (suc (suc n))) [
      | true ↦ λ before. refl
      | false ↦ λ after. staying_with e xs (suc n) order.1
    ] refl

rank_with : (e : Entry) (xs : List Entry) (n : ℕ) → AreInOrder xs → lower (At e) (at_rank (with_entry e xs) n) ≡ lower (At e) (at_rank xs n)
rank_with e [] zero order = lower_first (At e) (At e) (before_irreflexive e)
rank_with e [] (suc n) order = refl
rank_with e (x ∷ xs) zero order = elim (comes_before e x) as (λ t. comes_before e x ≡ t → lower (At e) (at_rank (cond t (e ∷ x ∷ xs) (x ∷ with_entry e xs)) 0) ≡ lower (At e) (At x)) [
  | true ↦ λ before. lower_first (At e) (At e) (before_irreflexive e) ∙ sym (lower_first (At e) (At x) (before_one_way e x before))
  | false ↦ λ after. refl
] refl
rank_with e (x ∷ xs) (suc n) order = elim (comes_before e x) as (λ t. comes_before e x ≡ t → lower (At e) (at_rank (cond t (e ∷ x ∷ xs) (x ∷ with_entry e xs)) (suc n)) ≡ lower (At e) (at_rank xs n)) [
  | true ↦ λ before.
      lower_first (At e) (at_rank (x ∷ xs) n) (further (At e) (At x) (at_rank (x ∷ xs) n) (before_one_way e x before) (rank_in x xs n order.0))
      ∙ sym (lower_first (At e) (at_rank xs n) (further (At e) (At x) (at_rank xs n) (before_one_way e x before) (rank_above x xs n order.0)))
  | false ↦ λ after. rank_with e xs n order.1
] refl

pub taken_with : (x : Bound) (xs : List Entry) (n : ℕ) → AreInOrder xs → lower x (last_of (with_bound x xs) n) ≡ lower x (last_of xs n)
taken_with x xs zero order = refl
taken_with Low xs (suc n) order = refl
taken_with (At e) xs (suc n) order = rank_with e xs n order
taken_with Top xs (suc n) order = refl

-- a bound comes among the entries, and `low` of the n takings with it
pub record Enters (b : Bound) (xs : List Entry) (m n : ℕ) : Type 0 where
  pub stays : drop m (with_bound b xs) ≡ with_bound (higher b (last_of xs n)) (drop n xs)
  pub taken : with_bound b (take n xs) ≡ with_bound (higher b (last_of xs n)) (take m (with_bound b xs))
  pub counted : tops b + (n - length xs) ≡ tops (higher b (last_of xs n)) + (m - length (with_bound b xs))
  pub same : higher b (at_rank (with_bound b xs) m) ≡ higher b (last_of xs n)
  pub some : is_below Low (higher b (last_of xs n)) ≡ true

entry_counted : (e : Entry) (xs : List Entry) (n : ℕ) → n - length xs ≡ tops (last_with e xs n) + (n - length (with_entry e xs))
entry_counted e xs zero = omega arith
entry_counted e xs (suc n) =
    omega (arith, length_bound (At e) xs, rank_tops xs n, higher_tops (at_rank xs n) (rank_some xs n))
  where
    higher_tops : (b : Bound) → is_below Low b ≡ true → tops (higher (At e) b) ≡ tops b
    higher_tops Low some = absurd (cc)
    higher_tops (At d) some = elim (comes_before e d) as (λ t. tops (cond t (At d) (At e)) ≡ 0) [ true ↦ refl | false ↦ refl ]
    higher_tops Top some = refl

low_higher : (b : Bound) → is_below Low b ≡ true → higher Low b ≡ b
low_higher b some = rw some refl

pub enters : (b : Bound) (xs : List Entry) (m n : ℕ) → AreInOrder xs → m + lows b ≡ n → Enters b xs m n
enters (At e) xs m n order same =
    let equal : m ≡ n = omega (arith, same) in
    subst (Enters (At e) xs m) equal (record {
      stays = drop_with e xs m order;
      taken = take_with e xs m order;
      counted = omega (arith, entry_counted e xs m);
      same = staying_with e xs m order;
      some = above_low (At e) (last_with e xs m) refl (higher_above (At e) (last_of xs m));
    })
enters Top xs m n order same =
    let equal : m ≡ n = omega (arith, same) in
    subst (Enters Top xs m) equal (record { stays = refl; taken = refl; counted = refl; same = refl; some = refl })
enters Low xs m n order same =
    let equal : suc m ≡ n = omega (arith, same) in
    let last = low_higher (at_rank xs m) (rank_some xs m) in
    subst (Enters Low xs m) equal (record {
      stays = drop_more xs m order ∙ ap (λ b. with_bound b (drop (suc m) xs)) (sym last);
      taken = take_more xs m order ∙ ap (λ b. with_bound b (take m xs)) (sym last);
      counted = omega (arith, rank_tops xs m, ap tops last);
      same = refl;
      some = subst (λ b. is_below Low b ≡ true) (sym last) (rank_some xs m);
    })
