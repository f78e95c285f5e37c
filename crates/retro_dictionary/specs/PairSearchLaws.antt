-- What is found of two lists of pairs is put together from what is found of each.
use Rattle.std.proofs.Common.{◌≡◌, ℕ, ◌+◌, ◌-◌, suc, ℤ, pos, ◌+ℤ◌, Bool, true, false, ◌&&◌, ◌||◌, cond, Option, Some, None, List, [], ◌∷◌, ◌++◌, length, refl, sym, ap, ◌∙◌, arith}
use Rattle.std.specs.Prelude.{int_le, int_lt, slice_get}
use Rattle.std.specs.List.{AllByRecursion, filter, fold}
use Rattle.std.specs.Ordering.{int_eq}
use Rattle.std.specs.Int.{w128}
use Rattle.std.proofs.lemmas.Int.{ints, int_wrap_fits, SFits-int_wrap, int_wrap-add_left, int_wrap-add_right}
use Rattle.retro_base.specs.Answers.{pairs_between, sum_of_values, last_of}
use Rattle.lifetime_segments.specs.Lawful.{AreLawful, RangeLaws, SearchLaws}
use Rattle.lifetime_segments.specs.Ordered.{IsOrder, AreInOrder, insert_by, in_order}
use Rattle.lifetime_segments.specs.LifetimeLaws.{IsOrderUpTo, order_as, tied_by, tied_order}
use Rattle.lifetime_segments.specs.OrderedLaws.{in_order-ordered, not_before-chains, not_both, insert_by-either}
use Rattle.retro_dictionary.specs.declared.pairs.Found.{Found}
use Rattle.retro_dictionary.specs.declared.pairs.KeyRange.{KeyRange}
use Rattle.retro_dictionary.specs.PairSearch.{pair_before, found_of, found_in, lesser, greater, none_found, found_together, in_bits, stands_above, stands_below}

abbrev found : ℕ → ℤ → Option (ℤ × ℤ) → Option (ℤ × ℤ) → Found
found count sum least greatest = record { count = count; sum = sum; least = least; greatest = greatest }

same : (m n : ℕ) (x y : ℤ) (a b c d : Option (ℤ × ℤ)) → m ≡ n → x ≡ y → a ≡ b → c ≡ d → found m x a c ≡ found n y b d
same m n x y a b c d p q r s = cc

int_order : IsOrder int_lt
int_order = record { strict = strict; chains = chains; total = total } where
  strict : (n : ℤ) → int_lt n n ≡ false
  strict n = grind (arith, ints)

  chains : (m n o : ℤ) → int_lt m n ≡ true → int_lt n o ≡ true → int_lt m o ≡ true
  chains m n o first second = grind (arith, ints)

  total : (m n : ℤ) → int_lt m n ≡ false → int_lt n m ≡ false → m ≡ n
  total m n first second = grind (arith, ints)

-- the order of pairs is strict and total
pub pair_order : IsOrder pair_before
pair_order = record { strict = ties.strict; chains = ties.chains; total = λ p q first second. let same = ties.total p q first second in same_pair p.0 q.0 p.1 q.1 same.0 same.1 } where
  values : IsOrderUpTo (λ (p q : ℤ × ℤ). int_lt p.1 q.1) (λ p q. p.1 ≡ q.1)
  values = record { strict = λ p. int_order.strict p.1; chains = λ p q r. int_order.chains p.1 q.1 r.1; total = λ p q. int_order.total p.1 q.1 }

  tied : (m n : ℤ) (b : Bool) → (int_lt m n || (int_eq m n && b)) ≡ tied_by int_lt m n b
  tied m n true = grind (arith, ints)
  tied m n false = grind (arith, ints)

  ties : IsOrderUpTo pair_before (λ (p q : ℤ × ℤ). (p.0 ≡ q.0) × (p.1 ≡ q.1))
  ties = order_as (λ (p q : ℤ × ℤ). tied_by int_lt p.0 q.0 (int_lt p.1 q.1)) pair_before _ (λ p q. tied p.0 q.0 (int_lt p.1 q.1))
      (tied_order int_order (λ (p : ℤ × ℤ). p.0) (λ p q. int_lt p.1 q.1) (λ p q. p.1 ≡ q.1) values)

  same_pair : (a b c d : ℤ) → a ≡ b → c ≡ d → (let pair : ℤ × ℤ = (a, c) in pair) ≡ (b, d)
  same_pair a b c d first second = cc

-- the first of two in an order, where they are there
module _ {A : Type 0} {before : A → A → Bool} (order : IsOrder before) where
  abbrev pub first : Option A → Option A → Option A
  first None q = q
  first (Some p) None = Some p
  first (Some p) (Some q) = cond (before q p) (Some q) (Some p)

  first-none : (o : Option A) → first o None ≡ o
  first-none None = refl
  first-none (Some p) = refl

  first-swap : (o u : Option A) → first o u ≡ first u o
  first-swap None u = sym (first-none u)
  first-swap (Some p) None = refl
  first-swap (Some p) (Some q) = elim (before q p) as (λ a. before q p ≡ a → cond a (Some q) (Some p) ≡ cond (before p q) (Some p) (Some q)) [
    | true ↦ λ less. sym (ap (λ b. cond b (Some p) (Some q)) (not_both order q p less))
    | false ↦ λ more. elim (before p q) as (λ b. before p q ≡ b → Some p ≡ cond b (Some p) (Some q)) [
      | true ↦ λ less. refl
      | false ↦ λ neither. ap Some (order.total p q neither more)
    ] refl
  ] refl

  first-regroup : (o u v : Option A) → first (first o u) v ≡ first o (first u v)
  first-regroup None u v = refl
  first-regroup (Some p) None v = refl
  first-regroup (Some p) (Some q) None = first-none (first (Some p) (Some q))
  first-regroup (Some p) (Some q) (Some r) =
      elim (before q p) as (λ a. before q p ≡ a → first (cond a (Some q) (Some p)) (Some r) ≡ first (Some p) (cond (before r q) (Some r) (Some q))) [
        | true ↦ λ qp. elim (before r q) as (λ b. before r q ≡ b → cond b (Some r) (Some q) ≡ first (Some p) (cond b (Some r) (Some q))) [
          | true ↦ λ rq. sym (ap (λ c. cond c (Some r) (Some p)) (order.chains r q p rq qp))
          | false ↦ λ qr. sym (ap (λ c. cond c (Some q) (Some p)) qp)
        ] refl
        | false ↦ λ pq. elim (before r q) as (λ b. before r q ≡ b → cond (before r p) (Some r) (Some p) ≡ first (Some p) (cond b (Some r) (Some q))) [
          | true ↦ λ rq. refl
          | false ↦ λ qr. ap (λ c. cond c (Some r) (Some p)) (not_before-chains order p q r pq qr) ∙ sym (ap (λ c. cond c (Some q) (Some p)) pq)
        ] refl
      ] refl

turned : {A : Type 0} {before : A → A → Bool} → IsOrder before → IsOrder (λ x y. before y x)
turned order = record { strict = order.strict; chains = λ x y z p q. order.chains z y x q p; total = λ x y p q. order.total x y q p }

-- what answers as the first of two in an order does not ask for their order or grouping
module _ {A : Type 0} {before : A → A → Bool} (order : IsOrder before) (choose : Option A → Option A → Option A) (is : (o u : Option A) → choose o u ≡ first order o u) where
  swap : (o u : Option A) → choose o u ≡ choose u o
  swap o u = is o u ∙ first-swap order o u ∙ sym (is u o)

  regroup : (o u v : Option A) → choose (choose o u) v ≡ choose o (choose u v)
  regroup o u v = is (choose o u) v ∙ ap (λ w. first order w v) (is o u) ∙ first-regroup order o u v ∙ sym (is o (choose u v) ∙ ap (first order o) (is u v))

lesser-first : (o u : Option (ℤ × ℤ)) → lesser o u ≡ first pair_order o u
lesser-first None u = refl
lesser-first (Some p) None = refl
lesser-first (Some p) (Some q) = refl

-- the greater of two is the first of them in the order turned round
greater-first : (o u : Option (ℤ × ℤ)) → greater o u ≡ first (turned pair_order) o u
greater-first o u = second o u ∙ first-swap (turned pair_order) u o where
  second : (o u : Option (ℤ × ℤ)) → greater o u ≡ first (turned pair_order) u o
  second None u = sym (first-none (turned pair_order) u)
  second (Some p) None = refl
  second (Some p) (Some q) = refl

-- a sum that 128 bits hold
abbrev IsHeld : Found → Type 0
IsHeld a = in_bits a.sum ≡ a.sum

held_bits : (sum : ℤ) → in_bits (in_bits sum) ≡ in_bits sum
held_bits sum = int_wrap_fits w128 (in_bits sum) (SFits-int_wrap w128 sum)

both_bits : (m n : ℤ) → in_bits (in_bits m +ℤ in_bits n) ≡ in_bits (m +ℤ n)
both_bits m n = int_wrap-add_left w128 m (in_bits n) ∙ int_wrap-add_right w128 m n

regroup_bits : (m n o : ℤ) → in_bits (in_bits (m +ℤ n) +ℤ o) ≡ in_bits (m +ℤ in_bits (n +ℤ o))
regroup_bits m n o =
    int_wrap-add_left w128 (m +ℤ n) o ∙ ap in_bits (let moved : (m +ℤ n) +ℤ o ≡ m +ℤ (n +ℤ o) = omega (arith, ints) in moved) ∙ sym (int_wrap-add_right w128 m (n +ℤ o))

-- what is found of some pairs together
together-swap : (a b : Found) → found_together a b ≡ found_together b a
together-swap a b =
    same (a.count + b.count) (b.count + a.count) (in_bits (a.sum +ℤ b.sum)) (in_bits (b.sum +ℤ a.sum)) _ _ _ _ (omega arith)
    (ap in_bits (let turned_round : a.sum +ℤ b.sum ≡ b.sum +ℤ a.sum = omega (arith, ints) in turned_round))
    (swap pair_order lesser lesser-first a.least b.least) (swap (turned pair_order) greater greater-first a.greatest b.greatest)

together-regroup : (a b c : Found) → found_together (found_together a b) c ≡ found_together a (found_together b c)
together-regroup a b c =
    same (a.count + b.count + c.count) (a.count + (b.count + c.count)) _ _ _ _ _ _ (omega arith) (regroup_bits a.sum b.sum c.sum)
    (regroup pair_order lesser lesser-first a.least b.least c.least) (regroup (turned pair_order) greater greater-first a.greatest b.greatest c.greatest)

none-together : (a : Found) → IsHeld a → found_together none_found a ≡ a
none-together a is =
    same (0 + a.count) a.count (in_bits (in_bits (pos 0) +ℤ a.sum)) a.sum a.least a.least a.greatest a.greatest (omega arith)
    (int_wrap-add_left w128 (pos 0) a.sum ∙ ap in_bits (let none : pos 0 +ℤ a.sum ≡ a.sum = omega (arith, ints) in none) ∙ is) refl refl

together-none : (a : Found) → IsHeld a → found_together a none_found ≡ a
together-none a is = together-swap a none_found ∙ none-together a is

-- what is found of one pair, and of pairs one by one
module _ (range : KeyRange) where
  abbrev gathered : List (ℤ × ℤ) → Found
  gathered [] = none_found
  gathered (p ∷ ps) = found_together (found_in (p ∷ []) range) (gathered ps)

  gathered-held : (ps : List (ℤ × ℤ)) → IsHeld (gathered ps)
  gathered-held [] = held_bits (pos 0)
  gathered-held (p ∷ ps) = held_bits _

  gathered-append : (ps qs : List (ℤ × ℤ)) → gathered (ps ++ qs) ≡ found_together (gathered ps) (gathered qs)
  gathered-append [] qs = sym (none-together (gathered qs) (gathered-held qs))
  gathered-append (p ∷ ps) qs = ap (found_together (found_in (p ∷ []) range)) (gathered-append ps qs) ∙ sym (together-regroup (found_in (p ∷ []) range) (gathered ps) (gathered qs))

  gathered-insert_by : (p : ℤ × ℤ) (qs : List (ℤ × ℤ)) → gathered (insert_by pair_before p qs) ≡ gathered (p ∷ qs)
  gathered-insert_by p [] = refl
  gathered-insert_by p (q ∷ qs) =
      let one = found_in (p ∷ []) range in
      let other = found_in (q ∷ []) range in
      insert_by-either (λ ps. gathered ps ≡ gathered (p ∷ q ∷ qs)) pair_before p q qs
      (ap (found_together other) (gathered-insert_by p qs) ∙ sym (together-regroup other one (gathered qs)) ∙ ap (λ f. found_together f (gathered qs)) (together-swap other one) ∙ together-regroup one other (gathered qs))
      refl

  gathered-in_order : (ps : List (ℤ × ℤ)) → gathered (in_order pair_before ps) ≡ gathered ps
  gathered-in_order [] = refl
  gathered-in_order (p ∷ ps) = gathered-insert_by p (in_order pair_before ps) ∙ ap (found_together (found_in (p ∷ []) range)) (gathered-in_order ps)

  -- the first of pairs in their order
  values-from : (start : ℤ) (ps : List (ℤ × ℤ)) → fold (λ sum pair. sum +ℤ pair.1) start ps ≡ start +ℤ sum_of_values ps
  values-from start [] = omega (arith, ints)
  values-from start (p ∷ ps) = omega (arith, ints, values-from (start +ℤ p.1) ps, values-from (pos 0 +ℤ p.1) ps)

  least-cons : (p : ℤ × ℤ) (ps : List (ℤ × ℤ)) → AllByRecursion (λ later. pair_before later p ≡ false) ps → Some p ≡ lesser (Some p) (slice_get ps 0)
  least-cons p [] all = refl
  least-cons p (q ∷ ps) all = sym (ap (λ b. cond b (Some q) (Some p)) all.0)

  last-cons : (p q : ℤ × ℤ) (ps : List (ℤ × ℤ)) → last_of (p ∷ q ∷ ps) ≡ last_of (q ∷ ps)
  last-cons p q ps = ap (slice_get (p ∷ q ∷ ps)) (let less : suc (suc (length ps)) - 1 ≡ suc (suc (length ps) - 1) = omega arith in less)

  -- the last of some pairs is one of them
  record HasLast (ps : List (ℤ × ℤ)) (P : ℤ × ℤ → Type 0) : Type 0 where
    last : ℤ × ℤ
    is : last_of ps ≡ Some last
    holding : P last

  has_last : (P : ℤ × ℤ → Type 0) (p : ℤ × ℤ) (ps : List (ℤ × ℤ)) → AllByRecursion P (p ∷ ps) → HasLast (p ∷ ps) P
  has_last P p [] all = record { last = p; is = refl; holding = all.0 }
  has_last P p (q ∷ ps) all =
      let rest = has_last P q ps all.1 in
      record { last = rest.last; is = last-cons p q ps ∙ rest.is; holding = rest.holding }

  greatest-cons : (p : ℤ × ℤ) (ps : List (ℤ × ℤ)) → AllByRecursion (λ later. pair_before later p ≡ false) ps → last_of (p ∷ ps) ≡ greater (Some p) (last_of ps)
  greatest-cons p [] all = refl
  greatest-cons p (q ∷ ps) all =
      let rest = has_last (λ later. pair_before later p ≡ false) q ps all in
      last-cons p q ps ∙ rest.is ∙ sym (ap (greater (Some p)) rest.is ∙ ap (λ b. cond b (Some p) (Some rest.last)) rest.holding)

  found-cons : (p : ℤ × ℤ) (ps : List (ℤ × ℤ)) → AllByRecursion (λ later. pair_before later p ≡ false) ps → found_of (p ∷ ps) ≡ found_together (found_of (p ∷ [])) (found_of ps)
  found-cons p ps all = same (suc (length ps)) (1 + length ps) _ _ (Some p) (lesser (Some p) (slice_get ps 0)) (last_of (p ∷ ps))
      (greater (Some p) (last_of ps)) (omega arith) (ap in_bits (values-from (pos 0 +ℤ p.1) ps) ∙ sym (both_bits (pos 0 +ℤ p.1) (sum_of_values ps)))
      (least-cons p ps all) (greatest-cons p ps all)

  abbrev inside : ℤ × ℤ → Bool
  inside pair = int_le range.low pair.0 && int_le pair.0 range.high

  all_inside : (P : ℤ × ℤ → Type 0) (ps : List (ℤ × ℤ)) → AllByRecursion P ps → AllByRecursion P (filter inside ps)
  all_inside P [] all = tt
  all_inside P (p ∷ ps) all = elim (inside p) as (λ b. AllByRecursion P (cond b (p ∷ filter inside ps) (filter inside ps))) [
    | true ↦ (all.0, all_inside P ps all.1)
    | false ↦ all_inside P ps all.1
  ]

  found-gathered : (ps : List (ℤ × ℤ)) → AreInOrder pair_before ps → found_in ps range ≡ gathered ps
  found-gathered [] ordered = refl
  found-gathered (p ∷ ps) ordered = elim (inside p) as (λ b. found_of (cond b (p ∷ filter inside ps) (filter inside ps)) ≡ found_together (found_of (cond b (p ∷ []) [])) (gathered ps)) [
    | true ↦ found-cons p (filter inside ps) (all_inside (λ later. pair_before later p ≡ false) ps ordered.0) ∙ ap (found_together (found_of (p ∷ []))) (found-gathered ps ordered.1)
    | false ↦ found-gathered ps ordered.1 ∙ sym (none-together (gathered ps) (gathered-held ps))
  ]

  found-both : (ps qs : List (ℤ × ℤ)) → AreLawful pair_before ps qs → found_in (in_order pair_before (ps ++ qs)) range ≡ found_together (found_in ps range) (found_in qs range)
  found-both ps qs lawful =
      found-gathered (in_order pair_before (ps ++ qs)) (in_order-ordered pair_order (ps ++ qs)) ∙ gathered-in_order (ps ++ qs) ∙ gathered-append ps qs
      ∙ sym (ap (λ f. found_together f (found_in qs range)) (found-gathered ps lawful.first_ordered) ∙ ap (found_together (gathered ps)) (found-gathered qs lawful.second_ordered))

pub pair_laws : SearchLaws pair_before found_in none_found found_together
pair_laws = record {
  together = λ ps qs range lawful. found-both range ps qs lawful;
  commutes = λ ps qs range lawful. together-swap (found_in ps range) (found_in qs range);
  regroups = λ ps qs rs range first second few. together-regroup (found_in ps range) (found_in qs range) (found_in rs range);
  of_none = λ range. refl;
  left_unit = λ ps range lawful. none-together (found_in ps range) (held_bits (sum_of_values (pairs_between range.low range.high ps)));
  right_unit = λ ps range lawful. together-none (found_in ps range) (held_bits (sum_of_values (pairs_between range.low range.high ps)));
}

-- pairs stand by their keys first, and those outside of a range are not found
pub pair_range_laws : RangeLaws pair_before found_in stands_below stands_above
pair_range_laws = record {
  below_downward = λ range x y after low. keys_rise x y range.low after low;
  above_upward = λ range x y after high. keys_fall x y range.high after high;
  of_below = λ xs range all. ap found_of (none range (stands_below range) (λ p. out_below range.low range.high p.0) xs all);
  of_above = λ xs range all. ap found_of (none range (stands_above range) (λ p. out_above range.low range.high p.0) xs all);
} where
  not_less : (x y : ℤ × ℤ) → pair_before y x ≡ false → int_lt y.0 x.0 ≡ false
  not_less x y after = neither (int_lt y.0 x.0) (int_eq y.0 x.0 && int_lt y.1 x.1) after where
    neither : (a b : Bool) → (a || b) ≡ false → a ≡ false
    neither true b never = absurd (cc)
    neither false b _ = refl

  keys_rise : (x y : ℤ × ℤ) (low : ℤ) → pair_before y x ≡ false → int_lt y.0 low ≡ true → int_lt x.0 low ≡ true
  keys_rise x y low after below = let not = not_less x y after in grind (arith, ints)

  keys_fall : (x y : ℤ × ℤ) (high : ℤ) → pair_before y x ≡ false → int_lt high x.0 ≡ true → int_lt high y.0 ≡ true
  keys_fall x y high after above = let not = not_less x y after in grind (arith, ints)

  out_below : (low high key : ℤ) → int_lt key low ≡ true → (int_le low key && int_le key high) ≡ false
  out_below low high key below = grind (arith, ints)

  out_above : (low high key : ℤ) → int_lt high key ≡ true → (int_le low key && int_le key high) ≡ false
  out_above low high key above = grind (arith, ints)

  -- where no pair is in the range
  none : (range : KeyRange) (outside : ℤ × ℤ → Bool) → ((p : ℤ × ℤ) → outside p ≡ true → (int_le range.low p.0 && int_le p.0 range.high) ≡ false) → (ps : List (ℤ × ℤ)) → AllByRecursion (λ p. outside p ≡ true) ps
      → pairs_between range.low range.high ps ≡ []
  none range outside out [] all = refl
  none range outside out (p ∷ ps) all = ap (λ b. cond b (p ∷ pairs_between range.low range.high ps) (pairs_between range.low range.high ps)) (out p all.0) ∙ none range outside out ps all.1
