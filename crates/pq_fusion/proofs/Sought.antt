-- The search for the parts of two rising lists: each turn halves what is left of one of them.
use Rattle.std.proofs.Common.{◌≡◌, ℕ, zero, suc, ◌+◌, ◌-◌, ◌*◌, ◌^◌, ◌<◌, ◌≤◌, inl, inr, true, false, List, [], ◌∷◌, length, min, max, refl, ap, sym, ◌∙◌, arith, subst}
use Rattle.std.specs.Prelude.{Bool, Vec, nat_lt}
use Rattle.std.proofs.lemmas.Bool.Decides.{nat_tests}
use Rattle.std.proofs.lemmas.Nat.{pow-add}
use Rattle.retro_base.specs.declared.row.Entry.{Entry}
use Rattle.retro_base.specs.EntriesInOrder.{AreInOrder}
use Rattle.retro_base.specs.State.{comes_before}
use Rattle.pq_fusion.specs.declared.bound.Bound.{Bound}
use Rattle.pq_fusion.specs.declared.bound.Bound.TheVariants.{At, Top}
use Rattle.pq_fusion.specs.declared.interval.Interval.{Interval}
use Rattle.pq_fusion.specs.declared.interval.Middle.{Middle}
use Rattle.pq_fusion.specs.Bounds.{is_below, at_rank, last_of}
use Rattle.pq_fusion.specs.Chunks.{entries_of}
use Rattle.pq_fusion.specs.Intervals.{AreLent, IsHalf, IsMiddle, IsInterval, before_middle, behind_middle}
use Rattle.pq_fusion.specs.Searches.{SearchesBoth}
use Rattle.pq_fusion.proofs.Bounded.{further}
use Rattle.pq_fusion.proofs.Parted.{rank_in, rank_some}
use Rattle.pq_fusion.proofs.Begun.{chunks_few}
use Rattle.pq_fusion.proofs.Ranked.{AreSplit, at_end, never_low}

not_less : (a b : ℕ) → (a < b → ⊥) → b ≤ a
not_less a zero none = omega arith
not_less zero (suc b) none = absurd (none (omega arith))
not_less (suc a) (suc b) none = omega (arith, not_less a b (λ less. none (omega (arith, less))))

-- later entries are no less
later_no_less : (xs : List Entry) (m n : ℕ) → AreInOrder xs → m ≤ n → is_below (at_rank xs n) (at_rank xs m) ≡ false
later_no_less [] m n order less = refl
later_no_less (x ∷ xs) zero n order less = rank_in x xs n order.0
later_no_less (x ∷ xs) (suc m) zero order less = absurd (omega (arith, less))
later_no_less (x ∷ xs) (suc m) (suc n) order less = later_no_less xs m n order.1 (omega (arith, less))

-- an entry that is less than something is there
below_inside : (xs : List Entry) (n : ℕ) (b : Bound) → is_below (at_rank xs n) b ≡ true → n < length xs
below_inside [] n b before = absurd (cc)
below_inside (x ∷ xs) zero b before = omega arith
below_inside (x ∷ xs) (suc n) b before = omega (arith, below_inside xs n b before)

-- the last of the first ones is no less than an entry before it, and no greater than the entry behind them
last_no_less : (xs : List Entry) (m n : ℕ) → AreInOrder xs → m < n → is_below (last_of xs n) (at_rank xs m) ≡ false
last_no_less xs m zero order less = absurd (omega (arith, less))
last_no_less xs m (suc n) order less = later_no_less xs m n order (omega (arith, less))

above_below : (a b c : Bound) → is_below a b ≡ true → is_below c b ≡ false → is_below a c ≡ true
above_below a b c before above = elim (is_below a c) as (λ t. is_below a c ≡ t → is_below a c ≡ true) [
  | true ↦ λ yes. yes
  | false ↦ λ no. let wrong : true ≡ false = sym before ∙ further b c a above no in absurd (cc)
] refl

-- the parts that a place in one list and one in the other leave
module _ (xs ys : List Entry) (first second p q : ℕ) (x y : Entry) (first_order : AreInOrder xs) (second_order : AreInOrder ys) (parts : AreSplit xs ys first second)
    (there : at_rank xs p ≡ At x) (other : at_rank ys q ≡ At y) where
  not_both_lesser : comes_before y x ≡ true → p < first → second ≤ q → ⊥
  not_both_lesser before own least =
      let one : is_below (last_of xs first) (At x) ≡ false = ap (is_below (last_of xs first)) (sym there) ∙ last_no_less xs p first first_order own in
      let two : is_below (at_rank ys second) (At x) ≡ false = further (At x) (last_of xs first) (at_rank ys second) one parts.lesser in
      let three : is_below (At y) (at_rank ys second) ≡ false = ap (λ b. is_below b (at_rank ys second)) (sym other) ∙ later_no_less ys second q second_order least in
      let wrong : true ≡ false = sym before ∙ further (At x) (at_rank ys second) (At y) two three in absurd (cc)

  not_both_greater : comes_before y x ≡ false → first ≤ p → q < second → ⊥
  not_both_greater after least own =
      let one : is_below (At x) (at_rank xs first) ≡ false = ap (λ b. is_below b (at_rank xs first)) (sym there) ∙ later_no_less xs first p first_order least in
      let two : is_below (At y) (at_rank xs first) ≡ false = further (at_rank xs first) (At x) (At y) one after in
      let three : is_below (last_of ys second) (At y) ≡ false = ap (is_below (last_of ys second)) (sym other) ∙ last_no_less ys q second second_order own in
      let wrong : true ≡ false = sym parts.greater ∙ further (at_rank xs first) (At y) (last_of ys second) two three in absurd (cc)

-- the parts of so many entries
pub record IsSplitAt (xs ys : List Entry) (rank : ℕ) : Type 0 where
  pub first : ℕ
  pub second : ℕ
  pub sum : first + second ≡ rank
  pub parts : AreSplit xs ys first second

split_more : (xs ys : List Entry) (rank : ℕ) → AreInOrder xs → AreInOrder ys → rank < length xs + length ys → IsSplitAt xs ys rank → IsSplitAt xs ys (suc rank)
split_more xs ys rank first_order second_order more split =
    elim (is_below (at_rank ys split.second) (at_rank xs split.first)) as (λ t. is_below (at_rank ys split.second) (at_rank xs split.first) ≡ t → IsSplitAt xs ys (suc rank)) [
      | true ↦ λ before. record {
        first = split.first;
        second = suc split.second;
        sum = omega (arith, split.sum);
        parts = record {
          first = split.parts.first;
          second = below_inside ys split.second (at_rank xs split.first) before;
          lesser = further (last_of xs split.first) (at_rank ys split.second) (at_rank ys (suc split.second)) split.parts.lesser (later_no_less ys split.second (suc split.second) second_order (omega arith));
          greater = before;
        };
      }
      | false ↦ λ after. record {
        first = suc split.first;
        second = split.second;
        sum = omega (arith, split.sum);
        parts = record {
          first = some_left after;
          second = split.parts.second;
          lesser = after;
          greater = above_below (last_of ys split.second) (at_rank xs split.first) (at_rank xs (suc split.first)) split.parts.greater (later_no_less xs split.first (suc split.first) first_order (omega arith));
        };
      }
    ] refl
  where
    less_than_top : (zs : List Entry) (n : ℕ) → is_below (at_rank zs n) Top ≡ false → length zs ≤ n
    less_than_top [] n top = omega arith
    less_than_top (z ∷ zs) zero top = absurd (cc)
    less_than_top (z ∷ zs) (suc n) top = omega (arith, less_than_top zs n top)

    some_left : is_below (at_rank ys split.second) (at_rank xs split.first) ≡ false → split.first < length xs
    some_left after = not_less (length xs) (suc split.first) (λ over. absurd (omega (
      arith,
      more,
      split.sum,
      over,
      less_than_top ys split.second (ap (is_below (at_rank ys split.second)) (sym (at_end xs split.first (omega (arith, over)))) ∙ after),
    )))

pub split_exists : (xs ys : List Entry) (rank : ℕ) → AreInOrder xs → AreInOrder ys → rank ≤ length xs + length ys → IsSplitAt xs ys rank
split_exists xs ys zero first_order second_order within = record {
  first = 0;
  second = 0;
  sum = refl;
  parts = record { first = omega arith; second = omega arith; lesser = never_low (at_rank ys 0); greater = rank_some xs 0 };
}
split_exists xs ys (suc rank) first_order second_order within =
    split_more xs ys rank first_order second_order (omega (arith, within)) (split_exists xs ys rank first_order second_order (omega (arith, within)))

-- the parts lie between these
pub record IsSoughtSplit (xs ys : List Entry) (rank low high other_low other_high : ℕ) : Type 0 where
  pub split : IsSplitAt xs ys rank
  pub from : low ≤ split.first
  pub to : split.first ≤ high
  pub other_from : other_low ≤ split.second
  pub other_to : split.second ≤ other_high

pub sought_starts : (xs ys : List Entry) (rank : ℕ) → AreInOrder xs → AreInOrder ys → rank ≤ length xs + length ys
    → IsSoughtSplit xs ys rank (rank - length ys) (min rank (length xs)) (rank - length xs) (min rank (length ys))
sought_starts xs ys rank first_order second_order within =
    let split = split_exists xs ys rank first_order second_order within in record {
      split = split;
      from = omega (arith, split.sum, split.parts.second);
      to = omega (arith, split.sum, split.parts.first);
      other_from = omega (arith, split.sum, split.parts.first);
      other_to = omega (arith, split.sum, split.parts.second);
    }

module _ (xs ys : List Entry) (rank low high other_low other_high p q : ℕ) (x y : Entry) (first_order : AreInOrder xs) (second_order : AreInOrder ys)
    (there : at_rank xs p ≡ At x) (other : at_rank ys q ≡ At y) (sought : IsSoughtSplit xs ys rank low high other_low other_high) where
  lesser : comes_before y x ≡ true → p < sought.split.first → sought.split.second ≤ q → ⊥
  lesser = not_both_lesser xs ys sought.split.first sought.split.second p q x y first_order second_order sought.split.parts there other

  greater : comes_before y x ≡ false → sought.split.first ≤ p → q < sought.split.second → ⊥
  greater = not_both_greater xs ys sought.split.first sought.split.second p q x y first_order second_order sought.split.parts there other

  pub before_first : comes_before y x ≡ true → rank ≤ p + q → IsSoughtSplit xs ys rank low (min high p) other_low other_high
  before_first before far = record {
    split = sought.split;
    from = sought.from;
    to = omega (arith, sought.to, not_less p sought.split.first (λ less. lesser before less (omega (arith, sought.split.sum, far, less))));
    other_from = sought.other_from;
    other_to = sought.other_to;
  }

  pub behind_second : comes_before y x ≡ true → p + q < rank → IsSoughtSplit xs ys rank low high (max other_low (q + 1)) other_high
  behind_second before near = record {
    split = sought.split;
    from = sought.from;
    to = sought.to;
    other_from = omega (arith, sought.other_from, not_less sought.split.second (q + 1) (λ less. lesser before (omega (arith, sought.split.sum, near, less)) (omega (arith, less))));
    other_to = sought.other_to;
  }

  pub before_second : comes_before y x ≡ false → rank ≤ p + q → IsSoughtSplit xs ys rank low high other_low (min other_high q)
  before_second after far = record {
    split = sought.split;
    from = sought.from;
    to = sought.to;
    other_from = sought.other_from;
    other_to = omega (arith, sought.other_to, not_less q sought.split.second (λ less. greater after (omega (arith, sought.split.sum, far, less)) less));
  }

  pub behind_first : comes_before y x ≡ false → p + q < rank → IsSoughtSplit xs ys rank (max low (p + 1)) high other_low other_high
  behind_first after near = record {
    split = sought.split;
    from = omega (arith, sought.from, not_less sought.split.first (p + 1) (λ less. greater after (omega (arith, less)) (omega (arith, sought.split.sum, near, less))));
    to = sought.to;
    other_from = sought.other_from;
    other_to = sought.other_to;
  }

-- one place is left in one of the lists
pub sought_first : (xs ys : List Entry) (rank low high other_low other_high : ℕ) → IsSoughtSplit xs ys rank low high other_low other_high → high ≤ low
    → (low ≤ rank) × AreSplit xs ys low (rank - low)
sought_first xs ys rank low high other_low other_high sought over =
    let one : sought.split.first ≡ low = omega (arith, sought.from, sought.to, over) in
    let two : sought.split.second ≡ rank - low = omega (arith, sought.split.sum, one) in
    (omega (arith, sought.split.sum, one), subst (λ n. AreSplit xs ys low n) two (subst (λ n. AreSplit xs ys n sought.split.second) one sought.split.parts))

pub sought_second : (xs ys : List Entry) (rank low high other_low other_high : ℕ) → IsSoughtSplit xs ys rank low high other_low other_high → other_high ≤ other_low
    → (other_low ≤ rank) × AreSplit xs ys (rank - other_low) (rank - (rank - other_low))
sought_second xs ys rank low high other_low other_high sought over =
    let two : sought.split.second ≡ other_low = omega (arith, sought.other_from, sought.other_to, over) in
    let one : sought.split.first ≡ rank - other_low = omega (arith, sought.split.sum, two) in
    let back : sought.split.second ≡ rank - (rank - other_low) = omega (arith, sought.split.sum, two) in
    (omega (arith, sought.split.sum, two), subst (λ n. AreSplit xs ys (rank - other_low) n) back (subst (λ n. AreSplit xs ys n sought.split.second) one sought.split.parts))

pub is_closed : (interval : Interval) (answer : Bool) → answer ≡ nat_lt interval.low interval.high → answer ≡ false → interval.high ≤ interval.low
is_closed interval answer is over = let none : nat_lt interval.low interval.high ≡ false = sym is ∙ over in grind (arith, nat_tests)

-- turns that an interval may still take: among its chunks, and then among its places
pub record IsLeftOf (interval : Interval) (turns : ℕ) : Type 0 where
  pub among : ℕ
  pub within : ℕ
  pub few_chunks : interval.last - interval.first ≤ 2 ^ among
  pub few_places : interval.high - interval.low < 2 ^ within
  pub sum : among + within ≡ turns

pub record IsLeftAfter (part : Interval) (turns : ℕ) : Type 0 where
  pub next : ℕ
  pub fewer : suc next ≡ turns
  pub left : IsLeftOf part next

half_interval : (interval part : Interval) (turns : ℕ) → IsHalf interval part → IsLeftOf interval turns → IsLeftAfter part turns
half_interval interval part turns half left = by left.among left.within left.few_chunks left.few_places left.sum half
  where
    by : (among within : ℕ) → interval.last - interval.first ≤ 2 ^ among → interval.high - interval.low < 2 ^ within → among + within ≡ turns → IsHalf interval part → IsLeftAfter part turns
    by zero within few_chunks few_places sum (inl chunks) = absurd (omega (arith, few_chunks, chunks.0))
    by (suc among) within few_chunks few_places sum (inl chunks) = record {
      next = among + within;
      fewer = omega (arith, sum);
      left = record {
        among = among;
        within = within;
        few_chunks = omega (arith, few_chunks, chunks.1, pow-add 2 among 1);
        few_places = omega (arith, few_places, chunks.2);
        sum = refl;
      };
    }
    by among zero few_chunks few_places sum (inr places) = absurd (omega (arith, few_places, places.0))
    by among (suc within) few_chunks few_places sum (inr places) = record {
      next = among + within;
      fewer = omega (arith, sum);
      left = record {
        among = among;
        within = within;
        few_chunks = omega (arith, few_chunks, places.2);
        few_places = omega (arith, few_places, places.1, pow-add 2 within 1);
        sum = refl;
      };
    }

pub record AreLeft (own other : Interval) (start steps k : ℕ) : Type 0 where
  pub turns : ℕ
  pub other_turns : ℕ
  pub left : IsLeftOf own turns
  pub other_left : IsLeftOf other other_turns
  pub few : steps + (turns + other_turns) ≤ start + 4 * k

left_few : (own other : Interval) (start steps k : ℕ) → AreLeft own other start steps k → steps ≤ start + 4 * k
left_few own other start steps k left = omega (arith, left.few)

-- with each turn fewer chunks and places are left
abbrev pub left_in : Interval → ℕ
left_in interval = (interval.last - interval.first) + (interval.high - interval.low)

half_falls : (interval part : Interval) → IsHalf interval part → left_in part < left_in interval
half_falls interval part (inl chunks) = omega (arith, chunks.0, chunks.1)
half_falls interval part (inr places) = omega (arith, places.0, places.1)

pub own_falls : (own part other made : Interval) → made ≡ part → IsHalf own part → left_in made + left_in other < left_in own + left_in other
own_falls own part other made same half = subst (λ (p : Interval). left_in p + left_in other < left_in own + left_in other) (sym same) (omega (arith, half_falls own part half))

pub other_falls : (own other part made : Interval) → made ≡ part → IsHalf other part → left_in own + left_in made < left_in own + left_in other
other_falls own other part made same half = subst (λ (p : Interval). left_in own + left_in p < left_in own + left_in other) (sym same) (omega (arith, half_falls other part half))

own_turn : (own part other : Interval) (start steps next k : ℕ) → IsHalf own part → next ≡ steps + 1 → AreLeft own other start steps k → AreLeft part other start next k
own_turn own part other start steps next k half one left =
    let after = half_interval own part left.turns half left.left in record {
      turns = after.next;
      other_turns = left.other_turns;
      left = after.left;
      other_left = left.other_left;
      few = omega (arith, left.few, after.fewer, one);
    }

other_turn : (own other part : Interval) (start steps next k : ℕ) → IsHalf other part → next ≡ steps + 1 → AreLeft own other start steps k → AreLeft own part start next k
other_turn own other part start steps next k half one left =
    let after = half_interval other part left.other_turns half left.other_left in record {
      turns = left.turns;
      other_turns = after.next;
      left = left.left;
      other_left = after.left;
      few = omega (arith, left.few, after.fewer, one);
    }

module _ {A : Type 0} where
  -- the search in both lists, with its turns counted
  pub record IsSplitting (xs ys : List (Vec Entry A)) (rank : ℕ) (own other : Interval) (start steps : ℕ) : Type 0 where
    pub interval : IsInterval xs own
    pub other_interval : IsInterval ys other
    pub sought : IsSoughtSplit (entries_of xs) (entries_of ys) rank own.low own.high other.low other.high
    pub none_lost : start ≤ steps
    pub visits : (k : ℕ) → length (entries_of xs) < 2 ^ k → length (entries_of ys) < 2 ^ k → AreLeft own other start steps k

  lent_few : (chunks : List (Vec Entry A)) (starts : List ℕ) → AreLent chunks starts → (k : ℕ) → length (entries_of chunks) < 2 ^ k → length chunks ≤ 2 ^ k
  lent_few [] starts lent k small = omega arith
  lent_few (one ∷ []) starts lent k small = omega (arith, small)
  lent_few (one ∷ two ∷ others) starts lent k small = omega (arith, small, chunks_few (one ∷ two ∷ others) (lent.filled (omega arith)))

  whole_left : (chunks : List (Vec Entry A)) (starts : List ℕ) → AreLent chunks starts → (interval : Interval) → interval.last ≤ length chunks → interval.high ≤ length (entries_of chunks)
      → (k : ℕ) → length (entries_of chunks) < 2 ^ k → IsLeftOf interval (k + k)
  whole_left chunks starts lent interval within inside k small = record {
    among = k;
    within = k;
    few_chunks = omega (arith, within, lent_few chunks starts lent k small);
    few_places = omega (arith, inside, small);
    sum = refl;
  }

  pub splitting_starts : (xs ys : List (Vec Entry A)) (first_starts second_starts : List ℕ) (rank : ℕ) (own other : Interval) (steps : ℕ) → AreInOrder (entries_of xs) → AreInOrder (entries_of ys)
      → rank ≤ length (entries_of xs) + length (entries_of ys) → AreLent xs first_starts → AreLent ys second_starts → IsInterval xs own → IsInterval ys other
      → own.low ≡ rank - length (entries_of ys) → own.high ≡ min rank (length (entries_of xs)) → other.low ≡ rank - length (entries_of xs) → other.high ≡ min rank (length (entries_of ys))
      → IsSplitting xs ys rank own other steps steps
  splitting_starts xs ys first_starts second_starts rank own other steps first_order second_order within first_lent second_lent interval other_interval low high other_low other_high = record {
    interval = interval;
    other_interval = other_interval;
    sought = let sought = sought_starts (entries_of xs) (entries_of ys) rank first_order second_order within in record {
      split = sought.split;
      from = omega (arith, low, sought.from);
      to = omega (arith, high, sought.to);
      other_from = omega (arith, other_low, sought.other_from);
      other_to = omega (arith, other_high, sought.other_to);
    };
    none_lost = omega arith;
    visits = λ k small other_small. record {
      turns = k + k;
      other_turns = k + k;
      left = whole_left xs first_starts first_lent own interval.within (omega (arith, high)) k small;
      other_left = whole_left ys second_starts second_lent other other_interval.within (omega (arith, other_high)) k other_small;
      few = omega arith;
    };
  }

  module _ (xs ys : List (Vec Entry A)) (rank : ℕ) (own other : Interval) (start steps next : ℕ) (middle other_middle : Middle) (first_order : AreInOrder (entries_of xs)) (second_order : AreInOrder (entries_of ys))
      (splitting : IsSplitting xs ys rank own other start steps) (found : IsMiddle xs own middle) (other_found : IsMiddle ys other other_middle) (one : next ≡ steps + 1) where
    pub splitting_before : comes_before other_middle.entry middle.entry ≡ true → rank ≤ middle.place + other_middle.place → IsSplitting xs ys rank (before_middle own middle) other start next
    splitting_before before far = record {
      interval = found.before;
      other_interval = splitting.other_interval;
      sought = before_first (entries_of xs) (entries_of ys) rank own.low own.high other.low other.high middle.place other_middle.place middle.entry other_middle.entry first_order second_order
          found.there other_found.there splitting.sought before far;
      none_lost = omega (arith, splitting.none_lost, one);
      visits = λ k small other_small. own_turn own (before_middle own middle) other start steps next k found.before_half one (splitting.visits k small other_small);
    }

    pub splitting_other_behind : comes_before other_middle.entry middle.entry ≡ true → middle.place + other_middle.place < rank → IsSplitting xs ys rank own (behind_middle other other_middle) start next
    splitting_other_behind before near = record {
      interval = splitting.interval;
      other_interval = other_found.behind;
      sought = behind_second (entries_of xs) (entries_of ys) rank own.low own.high other.low other.high middle.place other_middle.place middle.entry other_middle.entry first_order second_order
          found.there other_found.there splitting.sought before near;
      none_lost = omega (arith, splitting.none_lost, one);
      visits = λ k small other_small. other_turn own other (behind_middle other other_middle) start steps next k other_found.behind_half one (splitting.visits k small other_small);
    }

    pub splitting_other_before : comes_before other_middle.entry middle.entry ≡ false → rank ≤ middle.place + other_middle.place → IsSplitting xs ys rank own (before_middle other other_middle) start next
    splitting_other_before after far = record {
      interval = splitting.interval;
      other_interval = other_found.before;
      sought = before_second (entries_of xs) (entries_of ys) rank own.low own.high other.low other.high middle.place other_middle.place middle.entry other_middle.entry first_order second_order
          found.there other_found.there splitting.sought after far;
      none_lost = omega (arith, splitting.none_lost, one);
      visits = λ k small other_small. other_turn own other (before_middle other other_middle) start steps next k other_found.before_half one (splitting.visits k small other_small);
    }

    pub splitting_behind : comes_before other_middle.entry middle.entry ≡ false → middle.place + other_middle.place < rank → IsSplitting xs ys rank (behind_middle own middle) other start next
    splitting_behind after near = record {
      interval = found.behind;
      other_interval = splitting.other_interval;
      sought = behind_first (entries_of xs) (entries_of ys) rank own.low own.high other.low other.high middle.place other_middle.place middle.entry other_middle.entry first_order second_order
          found.there other_found.there splitting.sought after near;
      none_lost = omega (arith, splitting.none_lost, one);
      visits = λ k small other_small. own_turn own (behind_middle own middle) other start steps next k found.behind_half one (splitting.visits k small other_small);
    }

  -- one place is left in one of the lists
  pub split_by_first : (xs ys : List (Vec Entry A)) (first second : List Entry) (rank : ℕ) (own other : Interval) (start steps : ℕ) → entries_of xs ≡ first → entries_of ys ≡ second
      → IsSplitting xs ys rank own other start steps → own.high ≤ own.low → AreSplit first second own.low (rank - own.low)
  split_by_first xs ys first second rank own other start steps first_is second_is splitting over =
      let split = sought_first (entries_of xs) (entries_of ys) rank own.low own.high other.low other.high splitting.sought over in
      subst (λ l. AreSplit first l own.low (rank - own.low)) second_is (subst (λ l. AreSplit l (entries_of ys) own.low (rank - own.low)) first_is split.1)

  pub split_by_second : (xs ys : List (Vec Entry A)) (first second : List Entry) (rank : ℕ) (own other : Interval) (start steps : ℕ) → entries_of xs ≡ first → entries_of ys ≡ second
      → IsSplitting xs ys rank own other start steps → other.high ≤ other.low → AreSplit first second (rank - other.low) (rank - (rank - other.low))
  split_by_second xs ys first second rank own other start steps first_is second_is splitting over =
      let split = sought_second (entries_of xs) (entries_of ys) rank own.low own.high other.low other.high splitting.sought over in
      subst (λ l. AreSplit first l (rank - other.low) (rank - (rank - other.low))) second_is
      (subst (λ l. AreSplit l (entries_of ys) (rank - other.low) (rank - (rank - other.low))) first_is split.1)

  -- the turns, in both lists
  pub split_visits : (xs ys : List (Vec Entry A)) (first second : List Entry) (rank : ℕ) (own other : Interval) (start steps : ℕ) → entries_of xs ≡ first → entries_of ys ≡ second
      → IsSplitting xs ys rank own other start steps → SearchesBoth 4 first second start steps
  split_visits xs ys first second rank own other start steps first_is second_is splitting k small other_small =
      let left = splitting.visits k (omega (arith, small, ap length first_is)) (omega (arith, other_small, ap length second_is)) in
      record { none_lost = splitting.none_lost; few = left_few own other start steps k left }
