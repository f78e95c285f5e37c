-- What passes in one of two pieces passes in both, or what stands at the boundary of what is taken.
use Rattle.std.proofs.Common.{◌≡◌, ℕ, zero, suc, ◌+◌, ◌-◌, ◌≤◌, ◌⊎◌, inl, inr, true, false, List, [], ◌∷◌, ◌++◌, length, take, drop, refl, ap, sym, ◌∙◌, arith, subst, Some, None}
use Rattle.std.proofs.lemmas.List.{take_all, drop_all, take-append-drop}
use Rattle.retro_base.specs.declared.kind.Kind.TheVariants.{Pq}
use Rattle.retro_base.specs.declared.row.Entry.{Entry}
use Rattle.retro_base.specs.declared.row.Row.{Row}
use Rattle.retro_base.specs.EntriesInOrder.{AreInOrder}
use Rattle.retro_base.specs.Kind.{kind_of}
use Rattle.retro_base.specs.Weights.{added_by}
use Rattle.pq_fusion.specs.declared.bound.Bound.{Bound}
use Rattle.pq_fusion.specs.declared.bound.Bound.TheVariants.{Low, At, Top}
use Rattle.pq_fusion.specs.Bounds.{is_below, higher, lower, with_bound, tops, at_rank, last_of}
use Rattle.pq_fusion.specs.Edits.{Apart, DiffersBy, takings, last_taken, first_staying}
use Rattle.pq_fusion.specs.Pieces.{PieceParts, IsRising, no_parts, tolerant, together, met, kept, fuse}
use Rattle.pq_fusion.proofs.Order.{order_together, length_together}
use Rattle.pq_fusion.proofs.Split.{order_front}
use Rattle.pq_fusion.proofs.Fused.{parts, unit_after}
use Rattle.pq_fusion.proofs.FromRows.{tolerant_rise, nothing_rises, rows_fuse, row_between}
use Rattle.pq_fusion.proofs.Replays.{of_adding, of_taking}
use Rattle.pq_fusion.proofs.Bounded.{further, higher_above, above_low, not_itself, between, either_clamped, bound_either, bound_in_first, bound_in_second, order_bound, entries_in, lows, length_bound, cancel, exchanged}
use Rattle.pq_fusion.proofs.Parted.{Enters, enters, taken_with}

-- the fused piece by the takings of the second
same_place : (l r u k t : ℕ) → k ≡ l + r - (l - u) → t ≡ r + u → (k ≡ t) ⊎ ((l + r ≤ k) × (l + r ≤ t))
same_place l r u k t e f = elim (order_of u l) [ inl less ↦ inl (omega arith) | inr more ↦ inr (omega arith, omega arith) ]
  where
    order_of : (m n : ℕ) → (m ≤ n) ⊎ (n ≤ m)
    order_of zero n = inl (omega arith)
    order_of (suc m) zero = inr (omega arith)
    order_of (suc m) (suc n) = elim (order_of m n) [ inl less ↦ inl (omega (arith, less)) | inr more ↦ inr (omega (arith, more)) ]

drop_same : (xs : List Entry) (k t : ℕ) → (k ≡ t) ⊎ ((length xs ≤ k) × (length xs ≤ t)) → drop k xs ≡ drop t xs
drop_same xs k t (inl same) = ap (λ n. drop n xs) same
drop_same xs k t (inr over) = drop_all k xs over.0 ∙ sym (drop_all t xs over.1)

take_same : (xs : List Entry) (k t : ℕ) → (k ≡ t) ⊎ ((length xs ≤ k) × (length xs ≤ t)) → take k xs ≡ take t xs
take_same xs k t (inl same) = ap (λ n. take n xs) same
take_same xs k t (inr over) = take_all k xs over.0 ∙ sym (take_all t xs over.1)

module _ (a b : PieceParts) where
  at_takings : ((length (met a b) - kept a b) ≡ takings b) ⊎ ((length (met a b) ≤ length (met a b) - kept a b) × (length (met a b) ≤ takings b))
  at_takings =
      let whole : length (met a b) ≡ length a.left + length b.removed = length_together a.left b.removed in
      subst (λ n. ((length (met a b) - kept a b) ≡ takings b) ⊎ ((n ≤ length (met a b) - kept a b) × (n ≤ takings b))) (sym whole)
      (same_place (length a.left) (length b.removed) b.unmet (length (met a b) - kept a b) (takings b) (ap (λ n. n - kept a b) whole) refl)

  pub left_is : (fuse a b).left ≡ together b.left (drop (takings b) (met a b))
  unfolding fuse
  left_is = ap (together b.left) (drop_same (met a b) _ _ at_takings)

  pub removed_is : (fuse a b).removed ≡ together a.removed (take (takings b) (met a b))
  unfolding fuse
  removed_is = ap (together a.removed) (take_same (met a b) _ _ at_takings)

  pub unmet_is : (fuse a b).unmet ≡ a.unmet + (takings b - length (met a b))
  unfolding fuse
  unmet_is = omega (arith, length_together a.left b.removed)

-- a bound that is some is an entry or greater than each
one_of : (x : Bound) → is_below Low x ≡ true → entries_in x + tops x ≡ 1
one_of Low some = absurd (cc)
one_of (At e) some = refl
one_of Top some = refl

other_of : (own : Bound) → is_below own Top ≡ true → (entries_in own + lows own ≡ 1) × (tops own ≡ 0)
other_of Low no_top = (refl, refl)
other_of (At e) no_top = (refl, refl)
other_of Top no_top = absurd (cc)

no_lows : (x : Bound) → is_below Low x ≡ true → lows x ≡ 0
no_lows Low some = absurd (cc)
no_lows (At e) some = refl
no_lows Top some = refl

module _ (own x : Bound) (p q : PieceParts) (apart : Apart own x p q) where
  -- both pieces have as many takings, or the first has the edited one more
  fewer_takings : takings q + lows own ≡ takings p
  fewer_takings = omega (
    arith,
    length_bound own p.removed,
    length_bound x q.removed,
    ap length apart.removed,
    apart.unmet,
    one_of x apart.some,
    other_of own apart.no_top,
  )

  module _ (b : PieceParts) (rising : IsRising b) where
    earlier_met : met q b ≡ with_bound x (met p b)
    earlier_met = ap (λ l. together l b.removed) apart.left ∙ bound_in_first x p.left b.removed

    earlier_enters : Enters x (met p b) (takings b) (takings b)
    earlier_enters = enters x (met p b) (takings b) (takings b) (order_together p.left b.removed rising.removed) (omega (arith, no_lows x apart.some))

    pub earlier_passes : Apart own (higher x (last_taken p b)) (fuse p b) (fuse q b)
    earlier_passes =
        let y = higher x (last_taken p b) in
        record {
          left = left_is q b ∙ ap (λ m. together b.left (drop (takings b) m)) earlier_met ∙ ap (together b.left) earlier_enters.stays
              ∙ bound_in_second y b.left (drop (takings b) (met p b)) ∙ ap (with_bound y) (sym (left_is p b));
          removed = ap (with_bound own) (removed_is p b) ∙ sym (bound_in_first own p.removed (take (takings b) (met p b)))
              ∙ ap (λ l. together l (take (takings b) (met p b))) apart.removed ∙ bound_in_first x q.removed (take (takings b) (met p b))
              ∙ sym (bound_in_second x q.removed (take (takings b) (met p b))) ∙ ap (together q.removed) earlier_enters.taken
              ∙ ap (λ m. together q.removed (with_bound y (take (takings b) m))) (sym earlier_met)
              ∙ bound_in_second y q.removed (take (takings b) (met q b)) ∙ ap (with_bound y) (sym (removed_is q b));
          unmet = omega (arith, unmet_is p b, unmet_is q b, apart.unmet, earlier_enters.counted, ap length earlier_met);
          order = further own x y apart.order (higher_above x (last_taken p b));
          some = above_low x y apart.some (higher_above x (last_taken p b));
          no_top = apart.no_top;
        }

    pub earlier_after : higher x (last_taken p b) ≡ higher x (first_staying q b)
    earlier_after = sym (ap (λ m. higher x (at_rank m (takings b))) earlier_met ∙ earlier_enters.same)

-- what passes in both, told before the gain and after it
pub record PassesIn (own x : Bound) (a p q : PieceParts) : Type 0 where
  pub passed : Bound
  pub apart : Apart own passed (fuse a p) (fuse a q)
  pub before : higher own (lower x (last_taken a p)) ≡ passed
  pub after : higher own (lower x (first_staying a q)) ≡ passed

order_take : (n : ℕ) (xs : List Entry) → AreInOrder xs → AreInOrder (take n xs)
order_take n xs order = order_front (take n xs) (drop n xs) (subst AreInOrder (sym (take-append-drop n xs)) order)

-- of three clamped to what lies between
median_swap : (own x t : Bound) → is_below x own ≡ false → (xs : List Entry)
    → with_bound x (with_bound (higher own t) xs) ≡ with_bound (higher own (lower x t)) (with_bound (higher x t) xs)
median_swap own x t order xs = elim (between own x t order) [
  | inl w ↦ ap (λ b. with_bound x (with_bound b xs)) w.1 ∙ ap (λ b. with_bound b (with_bound (higher x t) xs)) (sym w.0)
  | inr w ↦ bound_either x (higher own t) xs ∙ ap (λ b. with_bound (higher own t) (with_bound b xs)) (sym w.1)
      ∙ ap (λ b. with_bound b (with_bound (higher x t) xs)) (sym w.0)
]

median_tops : (own x t : Bound) → is_below x own ≡ false → tops x + tops (higher own t) ≡ tops (higher own (lower x t)) + tops (higher x t)
median_tops own x t order = elim (between own x t order) [
  | inl w ↦ omega (arith, ap tops w.0, ap tops w.1)
  | inr w ↦ omega (arith, ap tops w.0, ap tops w.1)
]

median_some : (own x t : Bound) → is_below x own ≡ false → is_below Low x ≡ true → is_below Low (higher own t) ≡ true → is_below Low (higher own (lower x t)) ≡ true
median_some own x t order some above = elim (between own x t order) [
  | inl w ↦ subst (λ b. is_below Low b ≡ true) (sym w.0) some
  | inr w ↦ subst (λ b. is_below Low b ≡ true) (sym w.0) above
]

pub alone_clamped : (own c : Bound) → higher own (lower own c) ≡ own
alone_clamped own c = elim (between own own c (not_itself own)) [ inl w ↦ w.0 | inr w ↦ w.0 ∙ w.1 ]

module _ (own x : Bound) (p q : PieceParts) (apart : Apart own x p q) (a : PieceParts) where
  -- nothing but the edited entry itself changes hands
  module _ (one : own ≡ x) (removed : p.removed ≡ q.removed) where
    same_takings : takings q ≡ takings p
    same_takings = omega (arith, fewer_takings own x p q apart, no_lows x apart.some, ap lows one)

    same_met : met a q ≡ met a p
    same_met = ap (together a.left) (sym removed)

    later_alone : PassesIn own x a p q
    later_alone = record {
      passed = own;
      apart = record {
        left = left_is a q ∙ ap (λ n. together q.left (drop n (met a q))) same_takings ∙ ap (λ m. together q.left (drop (takings p) m)) same_met
            ∙ ap (λ l. together l (drop (takings p) (met a p))) apart.left ∙ bound_in_first x p.left (drop (takings p) (met a p))
            ∙ ap (with_bound x) (sym (left_is a p)) ∙ ap (λ b. with_bound b (fuse a p).left) (sym one);
        removed = ap (with_bound own) (removed_is a p ∙ ap (λ m. together a.removed (take (takings p) m)) (sym same_met)
            ∙ ap (λ n. together a.removed (take n (met a q))) (sym same_takings) ∙ sym (removed_is a q));
        unmet = omega (arith, unmet_is a p, unmet_is a q, same_takings, ap length same_met, other_of own apart.no_top);
        order = not_itself own;
        some = subst (λ b. is_below Low b ≡ true) (sym one) apart.some;
        no_top = apart.no_top;
      };
      before = ap (λ b. higher own (lower b (last_taken a p))) (sym one) ∙ alone_clamped own (last_taken a p);
      after = ap (λ b. higher own (lower b (first_staying a q))) (sym one) ∙ alone_clamped own (first_staying a q);
    }

  -- either has the other's entry, beside the same others
  module _ (first : IsRising a) (others : List Entry) (order : AreInOrder others) (in_first : p.removed ≡ with_bound x others) (in_second : q.removed ≡ with_bound own others) where
    shared_order : AreInOrder (together a.left others)
    shared_order = order_together a.left others order

    met_first : met a p ≡ with_bound x (together a.left others)
    met_first = ap (together a.left) in_first ∙ bound_in_second x a.left others

    met_second : met a q ≡ with_bound own (together a.left others)
    met_second = ap (together a.left) in_second ∙ bound_in_second own a.left others

    x_enters : Enters x (together a.left others) (takings p) (takings p)
    x_enters = enters x (together a.left others) (takings p) (takings p) shared_order (omega (arith, no_lows x apart.some))

    own_enters : Enters own (together a.left others) (takings q) (takings p)
    own_enters = enters own (together a.left others) (takings q) (takings p) shared_order (fewer_takings own x p q apart)

    taken_both : with_bound own (take (takings p) (met a p)) ≡ with_bound (higher own (lower x (last_of (together a.left others) (takings p)))) (take (takings q) (met a q))
    taken_both =
        let shared = together a.left others in
        let t = last_of shared (takings p) in
        let hx = higher x t in
        let ho = higher own t in
        let y = higher own (lower x t) in
        let first_part = take (takings p) (met a p) in
        let second_part = take (takings q) (met a q) in
        let first_enters : with_bound x (take (takings p) shared) ≡ with_bound hx first_part =
        x_enters.taken ∙ ap (λ m. with_bound hx (take (takings p) m)) (sym met_first) in
        let second_enters : with_bound own (take (takings p) shared) ≡ with_bound ho second_part =
        own_enters.taken ∙ ap (λ m. with_bound ho (take (takings q) m)) (sym met_second) in
        let rising_first : AreInOrder (met a p) = subst AreInOrder (sym met_first) (order_bound x shared shared_order) in
        let rising_second : AreInOrder (met a q) = subst AreInOrder (sym met_second) (order_bound own shared shared_order) in
        cancel hx (with_bound own first_part) (with_bound y second_part)
        (order_bound own first_part (order_take (takings p) (met a p) rising_first))
        (order_bound y second_part (order_take (takings q) (met a q) rising_second))
        (bound_either hx own first_part ∙ ap (with_bound own) (sym first_enters) ∙ bound_either own x (take (takings p) shared)
        ∙ ap (with_bound x) second_enters ∙ median_swap own x t apart.order second_part ∙ bound_either y hx second_part)

    later_exchanged : PassesIn own x a p q
    later_exchanged =
        let shared = together a.left others in
        let t = last_of shared (takings p) in
        let hx = higher x t in
        let ho = higher own t in
        let y = higher own (lower x t) in
        let staying = drop (takings p) shared in
        record {
          passed = y;
          apart = record {
            left = left_is a q ∙ ap (λ m. together q.left (drop (takings q) m)) met_second
                ∙ ap (together q.left) own_enters.stays ∙ ap (λ l. together l (with_bound ho staying)) apart.left
                ∙ bound_in_first x p.left (with_bound ho staying) ∙ ap (with_bound x) (bound_in_second ho p.left staying)
                ∙ median_swap own x t apart.order (together p.left staying)
                ∙ ap (with_bound y) (sym (bound_in_second hx p.left staying) ∙ ap (together p.left) (sym x_enters.stays)
                ∙ ap (λ m. together p.left (drop (takings p) m)) (sym met_first) ∙ sym (left_is a p));
            removed = ap (with_bound own) (removed_is a p) ∙ sym (bound_in_second own a.removed (take (takings p) (met a p)))
                ∙ ap (together a.removed) taken_both ∙ bound_in_second y a.removed (take (takings q) (met a q)) ∙ ap (with_bound y) (sym (removed_is a q));
            unmet = omega (
              arith,
              unmet_is a p,
              unmet_is a q,
              x_enters.counted,
              own_enters.counted,
              ap length met_first,
              ap length met_second,
              median_tops own x t apart.order,
              other_of own apart.no_top,
            );
            order = higher_above own (lower x t);
            some = median_some own x t apart.order apart.some own_enters.some;
            no_top = apart.no_top;
          };
          before = ap (λ m. higher own (lower x (last_of m (takings p)))) met_first ∙ ap (higher own) (taken_with x shared (takings p) shared_order);
          after = ap (λ m. higher own (lower x (at_rank m (takings q)))) met_second ∙ either_clamped own x (at_rank (with_bound own shared) (takings q)) apart.order
              ∙ ap (lower x) own_enters.same ∙ sym (either_clamped own x t apart.order);
        }

pub later_passes : (own x : Bound) (a p q : PieceParts) → IsRising a → IsRising p → IsRising q → Apart own x p q → PassesIn own x a p q
later_passes own x a p q first second third apart = elim (exchanged own x p.removed q.removed second.removed third.removed apart.no_top apart.some apart.removed) [
  | inl same ↦ later_alone own x p q apart a same.0 same.1
  | inr both ↦ later_exchanged own x p q apart a first both.others both.order both.first both.second
]

-- one row alone, and so one row among others
pub adding_alone : (entry : Entry) → Apart (At entry) (At entry) no_parts (parts (entry ∷ []) [] 0)
adding_alone entry = record { left = refl; removed = refl; unmet = refl; order = not_itself (At entry); some = refl; no_top = refl }

pub taking_alone : Apart Low Top (parts [] [] 1) no_parts
taking_alone = record { left = refl; removed = refl; unmet = refl; order = refl; some = refl; no_top = refl }

module _ (before after : List Row) (row : Row) where
  apart_among : (own x : Bound) (p q : PieceParts) → IsRising p → IsRising q → Apart own x p q
      → (y : Bound) × Apart own y (fuse (fuse (tolerant before) p) (tolerant after)) (fuse (fuse (tolerant before) q) (tolerant after))
  apart_among own x p q second third apart =
      let rise = tolerant_rise before in
      let both = later_passes own x (tolerant before) p q rise second third apart in (
        higher both.passed (last_taken (fuse (tolerant before) p) (tolerant after)),
        earlier_passes own both.passed (fuse (tolerant before) p) (fuse (tolerant before) q) both.apart (tolerant after) (tolerant_rise after),
      )

  none_among : fuse (fuse (tolerant before) no_parts) (tolerant after) ≡ tolerant (before ++ after)
  none_among = ap (λ p. fuse p (tolerant after)) (unit_after (tolerant before) (tolerant_rise before)) ∙ sym (rows_fuse before after)

  pub passes_one : kind_of row.op ≡ Pq → (x : Bound) × DiffersBy (added_by row) x (tolerant (before ++ after)) (tolerant (before ++ row ∷ after))
  passes_one kind = elim (added_by row) as (λ o. added_by row ≡ o → (x : Bound) × DiffersBy o x (tolerant (before ++ after)) (tolerant (before ++ row ∷ after))) [
    | Some entry ↦ λ adds.
        let alone : Apart (At entry) (At entry) no_parts (tolerant (row ∷ [])) = subst (Apart (At entry) (At entry) no_parts) (sym (of_adding row entry adds)) (adding_alone entry) in
        let all = apart_among (At entry) (At entry) no_parts (tolerant (row ∷ [])) nothing_rises (tolerant_rise (row ∷ [])) alone in (
          all.0,
          subst (λ p. Apart (At entry) all.0 p (tolerant (before ++ row ∷ after))) none_among
              (subst (Apart (At entry) all.0 (fuse (fuse (tolerant before) no_parts) (tolerant after))) (row_between before after row) all.1),
        )
    | None ↦ λ takes.
        let alone : Apart Low Top (tolerant (row ∷ [])) no_parts = subst (λ p. Apart Low Top p no_parts) (sym (of_taking row kind takes)) taking_alone in
        let all = apart_among Low Top (tolerant (row ∷ [])) no_parts (tolerant_rise (row ∷ [])) nothing_rises alone in (
          all.0,
          subst (Apart Low all.0 (tolerant (before ++ row ∷ after))) none_among
              (subst (λ p. Apart Low all.0 p (fuse (fuse (tolerant before) no_parts) (tolerant after))) (row_between before after row) all.1),
        )
  ] refl
