-- Entries in their order, as they are measured: where one of them has its place, and which is the k-th of the present.
use Rattle.std.proofs.Common.{◌≡◌, ℕ, zero, suc, ◌+◌, ◌-◌, ◌<◌, ◌≤◌, ℤ, pos, ◌+ℤ◌, Bool, true, false, List, [], ◌∷◌, take, length, refl, sym, ap, ◌∙◌, arith, subst, Option, Some, None}
use Rattle.std.specs.Prelude.{slice_index_or, MatchOption, if◌then◌else◌}
use Rattle.std.specs.Fn.{Shared}
use Rattle.std.specs.Borrow.{Bor}
use Rattle.std.specs.List.{AllWithin, slice_get, slice_range}
use Rattle.std.specs.List.Sorted.{IsPartitionedBy}
use Rattle.std.specs.Int.Signed.{lt_z}
use Rattle.std.proofs.lemmas.Int.{ints}
use Rattle.std.proofs.lemmas.List.{take_all, length-map, get_or-map}
use Rattle.monoid_laws.specs.Measure.{measure_of}
use Rattle.monoid_laws.specs.Summed.{Summed, no_sum, joined_sum}
use Rattle.retro_base.specs.declared.row.Entry.{Entry}
use Rattle.retro_base.specs.EntriesInOrder.{AreInOrder}
use Rattle.retro_base.specs.OrderLaws.{all_weaker}
use Rattle.retro_base.specs.State.{comes_before}
use Rattle.retro_base.specs.lemmas.EntrySteps.{partitioned}
use Rattle.retro_base.specs.lemmas.bridges.EntryOrder.{before_one_way}
use Rattle.weighted_tree.specs.Search.{HoldsNowhere, IsFirstOrNone, IsFirstPlace, IsRising, TellsItems, FindsPartition}
use Rattle.bridge_pq.specs.declared.marked_entry.MarkedEntry.{MarkedEntry}
use Rattle.bridge_pq.specs.Gathered.{count_to, EndsAt}
use Rattle.bridge_pq.specs.MarkedEntries.{entries_in, present_in, Rise, entry_measure}

-- what a range measures
abbrev pub measures_in : List MarkedEntry → Summed
measures_in items = measure_of no_sum joined_sum entry_measure items

one_more : (b : Bool) (item : MarkedEntry) (rest : List Entry) (z : ℤ) → z ≡ pos (length rest) → pos (if b then 1 else 0) +ℤ z ≡ pos (length (if b then item.entry ∷ rest else rest))
one_more true item rest z is = omega (arith, ints)
one_more false item rest z is = omega (arith, ints)

pub sum-part : (items : List MarkedEntry) → (measures_in items).sum ≡ pos (length (present_in items))
sum-part [] = refl
sum-part (item ∷ items) = one_more item.present item (present_in items) (measures_in items).sum (sum-part items)

range-is : (items : List MarkedEntry) (place : ℕ) → slice_range items 0 place ≡ take place items
range-is items place = ap (λ n. take n items) (let same : place - 0 ≡ place = omega arith in same)

pub rise_in_order : (xs : List Entry) → Rise xs → AreInOrder xs
rise_in_order [] rise = tt
rise_in_order (x ∷ xs) rise = (all_weaker (λ y. comes_before x y ≡ true) (λ y. comes_before y x ≡ false) xs (λ y before. before_one_way x y before) rise.0, rise_in_order xs rise.1)

pub record IsPlace (e : Entry) (items : List MarkedEntry) (place : ℕ) : Type 0 where
  pub before : AllWithin (λ other. comes_before other e ≡ true) (entries_in items) 0 place
  pub after : AllWithin (λ other. comes_before other e ≡ false) (entries_in items) place (length items)

module _ (e : Entry) (items : List MarkedEntry) where
  abbrev comes : MarkedEntry → Bool
  comes item = comes_before item.entry e

  entry_at : (k : ℕ) (d : MarkedEntry) → k < length items → comes_before (slice_index_or (entries_in items) k d.entry) e ≡ comes (slice_index_or items k d)
  entry_at k d within = ap (λ x. comes_before x e) (get_or-map (λ (item : MarkedEntry). item.entry) items k d d.entry within)

  -- no entry that comes before it stands after one that does not
  comes-parted : Rise (entries_in items) → IsPartitionedBy comes items
  comes-parted rise i j d order within holding =
      sym (entry_at i d (omega arith))
      ∙ partitioned e (entries_in items) (rise_in_order (entries_in items) rise) i j d.entry order (omega (arith, length-map items (λ (item : MarkedEntry). item.entry))) (entry_at j d within ∙ holding)

  -- what a search finds that asks each entry whether it comes before this one
  pub place_found : {F : Type 0} (calls : Shared F (Bor MarkedEntry × Unit {0}) Bool) (closure : F) (place : ℕ) → FindsPartition calls closure items place
      → TellsItems calls closure comes → Rise (entries_in items) → place ≤ length items → IsPlace e items place
  place_found calls closure place found tells rise within =
      let point = found comes tells (comes-parted rise) in
      let seen : Entry → MarkedEntry = λ d. record { entry = d; present = false } in
      record {
        before = λ k d from to. entry_at k (seen d) (omega arith) ∙ point.0 k (seen d) from to;
        after = λ k d from to. entry_at k (seen d) to ∙ point.1 k (seen d) from to;
      }

-- the k-th of the present
more_is : (k m : ℕ) → lt_z (pos k) (pos m) ≡ true → k < m
more_is k m more = grind (arith, ints)

no_more : (k m : ℕ) → lt_z (pos k) (pos m) ≡ false → m ≤ k
no_more k m few = grind (arith, ints)

is_more : (k m : ℕ) → k < m → lt_z (pos k) (pos m) ≡ true
is_more k m more = grind (arith, ints)

count_more : (b : Bool) (x : Entry) (xs ys : List Entry) → length xs ≤ length ys → length (if b then x ∷ xs else xs) ≤ length (if b then x ∷ ys else ys)
count_more true x xs ys few = omega arith
count_more false x xs ys few = few

count_rises : (items : List MarkedEntry) (place later : ℕ) → place ≤ later → count_to items place ≤ count_to items later
count_rises items zero later up = omega arith
count_rises [] (suc place) later up = omega arith
count_rises (item ∷ items) (suc place) zero up = absurd (omega arith)
count_rises (item ∷ items) (suc place) (suc later) up = count_more item.present item.entry (present_in (take place items)) (present_in (take later items)) (count_rises items place later (omega arith))

first_present : (b : Bool) (x : Entry) (rest : List Entry) (k : ℕ) → k < length (if b then x ∷ [] else []) → slice_get (if b then x ∷ rest else rest) k ≡ Some x
first_present true x rest zero below = refl
first_present true x rest (suc k) below = absurd (omega arith)
first_present false x rest k below = absurd (omega arith)

later_present : (b : Bool) (x e : Entry) (xs ys rest : List Entry) (k : ℕ) → length (if b then x ∷ xs else xs) ≤ k → k < length (if b then x ∷ ys else ys)
    → ((j : ℕ) → length xs ≤ j → j < length ys → slice_get rest j ≡ Some e) → slice_get (if b then x ∷ rest else rest) k ≡ Some e
later_present true x e xs ys rest zero low high there = absurd (omega arith)
later_present true x e xs ys rest (suc k) low high there = there k (omega arith) (omega arith)
later_present false x e xs ys rest k low high there = there k low high

item_same : (x y : MarkedEntry) → Some x ≡ Some y → x ≡ y
item_same x y same = cc

pub kth_is : (items : List MarkedEntry) (n k : ℕ) (item : MarkedEntry) → slice_get items n ≡ Some item → count_to items n ≤ k → k < count_to items (suc n) → slice_get (present_in items) k ≡ Some item.entry
kth_is [] n k item at low high = absurd (cc)
kth_is (x ∷ items) zero k item at low high =
    first_present x.present x.entry (present_in items) k high ∙ ap (λ (y : MarkedEntry). Some y.entry) (item_same x item at)
kth_is (x ∷ items) (suc n) k item at low high =
    later_present x.present x.entry item.entry (present_in (take n items)) (present_in (take (suc n) items)) (present_in items) k low high
    (λ j below above. kth_is items n j item at below above)

pub get_beyond : (xs : List Entry) (k : ℕ) → length xs ≤ k → slice_get xs k ≡ None
get_beyond [] k beyond = refl
get_beyond (x ∷ xs) zero beyond = absurd (omega arith)
get_beyond (x ∷ xs) (suc k) beyond = get_beyond xs k (omega arith)

module _ (items : List MarkedEntry) (k : ℕ) where
  abbrev pub has_more : ℕ → Bool
  has_more place = lt_z (pos k) (pos (count_to items place))

  pub more-reported : (place : ℕ) → lt_z (pos k) (measures_in (slice_range items 0 place)).sum ≡ has_more place
  more-reported place = ap (lt_z (pos k)) (sum-part (slice_range items 0 place) ∙ ap (λ l. pos (length (present_in l))) (range-is items place))

  pub more-rises : IsRising has_more 0 (length items)
  more-rises place later above up within holds = is_more k (count_to items later) (omega (arith, more_is k (count_to items place) holds, count_rises items place later up))

  pub none-more : HoldsNowhere has_more 0 (length items) → slice_get (present_in items) k ≡ None
  none-more nowhere =
      let few = no_more k (count_to items (length items)) (nowhere (length items) (omega arith) (omega arith)) in
      get_beyond (present_in items) k (subst (λ l. length (present_in l) ≤ k) (take_all (length items) items (omega arith)) few)

  pub some-more : (end : ℕ) → IsFirstPlace has_more 0 (length items) end → 1 ≤ end
  some-more zero first = absurd (omega (arith, more_is k 0 first.holds_there))
  some-more (suc n) first = omega arith

  pub kth-before : (end : ℕ) (item : MarkedEntry) → IsFirstPlace has_more 0 (length items) end → slice_get items (end - 1) ≡ Some item → slice_get (present_in items) k ≡ Some item.entry
  kth-before zero item first at = absurd (omega (arith, more_is k 0 first.holds_there))
  kth-before (suc n) item first at =
      let same : suc n - 1 ≡ n = omega arith in
      kth_is items n k item (sym (ap (slice_get items) same) ∙ at) (no_more k (count_to items n) (first.not_before n (omega arith) (omega arith))) (more_is k (count_to items (suc n)) first.holds_there)

count_at_most : (b : Bool) (x : Entry) (xs ys : List Entry) → length ys ≤ length xs + 1 → length (if b then x ∷ ys else ys) ≤ length (if b then x ∷ xs else xs) + 1
count_at_most true x xs ys few = omega arith
count_at_most false x xs ys few = few

first_at_most : (b : Bool) (x : Entry) → length (if b then x ∷ [] else []) ≤ 1
first_at_most true x = omega arith
first_at_most false x = omega arith

-- one more entry is one more of the present at the most
count_one_more : (items : List MarkedEntry) (n : ℕ) → count_to items (suc n) ≤ count_to items n + 1
count_one_more [] zero = omega arith
count_one_more [] (suc n) = omega arith
count_one_more (item ∷ items) zero = first_at_most item.present item.entry
count_one_more (item ∷ items) (suc n) = count_at_most item.present item.entry (present_in (take n items)) (present_in (take (suc n) items)) (count_one_more items n)

-- what the search for an index finds
module _ (items : List MarkedEntry) (k : ℕ) where
  ends_there : (end : ℕ) → IsFirstPlace (has_more items k) 0 (length items) end → count_to items end ≡ k + 1
  ends_there zero first = absurd (omega (arith, some-more items k zero first))
  ends_there (suc n) first =
      omega (arith, no_more k (count_to items n) (first.not_before n (omega arith) (omega arith)), more_is k (count_to items (suc n)) first.holds_there, count_one_more items n)

  pub found_end : (answer : Option ℕ) → IsFirstOrNone (has_more items k) 0 (length items) answer → MatchOption answer (slice_get (present_in items) k ≡ None) (EndsAt items k)
  found_end None nowhere = none-more items k nowhere
  found_end (Some end) first = record {
    some = some-more items k end first;
    within = first.within;
    passed = ends_there end first;
    there = λ item at. kth-before items k end item first at;
  }

pub size-reported : (items : List MarkedEntry) → (measures_in (slice_range items 0 (length items))).sum ≡ pos (length (present_in items))
size-reported items = sum-part (slice_range items 0 (length items)) ∙ ap (λ l. pos (length (present_in l))) (range-is items (length items) ∙ take_all (length items) items (omega arith))
