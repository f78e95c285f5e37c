-- Entries put into others: their order, their number, and what of them comes first.
use Rattle.std.proofs.Common.{◌≡◌, ℕ, zero, suc, ◌+◌, ◌-◌, ◌<◌, ◌≤◌, true, false, cond, List, [], ◌∷◌, length, drop, inl, inr, refl, sym, ap, subst, ◌∙◌, arith, Option, Some, None}
use Rattle.std.specs.Prelude.{min, if◌then◌else◌}
use Rattle.std.specs.List.{AllByRecursion, slice_get}
use Rattle.std.proofs.lemmas.Bool.{cases_lt}
use Rattle.std.proofs.lemmas.List.{length-drop}
use Rattle.retro_base.specs.declared.row.Entry.{Entry}
use Rattle.retro_base.specs.EntriesInOrder.{AreInOrder}
use Rattle.retro_base.specs.OrderLaws.{all_weaker}
use Rattle.retro_base.specs.State.{comes_before, with_entry}
use Rattle.retro_base.specs.lemmas.EntrySteps.{in_order_with, after_lesser}
use Rattle.retro_base.specs.lemmas.bridges.EntryOrder.{before_irreflexive, before_or_after, same_or_other, before_later, not_before_later}
use Rattle.retro_base.specs.lemmas.bridges.Entries.{with_first, with_later, with_swapped}
use Rattle.retro_base.specs.lemmas.CountedEntries.{with_length}
use Rattle.bridge_pq.specs.declared.marked_entry.MarkedEntry.{MarkedEntry}
use Rattle.bridge_pq.specs.MarkedEntries.{entries_in, present_in}
use Rattle.bridge_pq.specs.Gathered.{with_all, in_front, fresh_first, HeldLater, IsHeld, IsTaken}
use Rattle.bridge_pq.proofs.EntryPlaces.{get_beyond}

-- none of these comes before the entry
abbrev pub NoneBefore : Entry → List Entry → Type 0
NoneBefore e xs = AllByRecursion (λ y. comes_before y e ≡ false) xs

-- so it is the first
pub put_first : (e : Entry) (xs : List Entry) → NoneBefore e xs → with_entry e xs ≡ e ∷ xs
put_first e [] none = refl
put_first e (x ∷ xs) none = elim (same_or_other x e) [
  | inl same ↦
      with_later e x xs (rw same (before_irreflexive e)) ∙ ap (λ l. x ∷ l) (put_first e xs none.1) ∙ rw same refl
  | inr other ↦ with_first e x xs (before_or_after x e other none.0)
]

pub swapped : (a b : Entry) (xs : List Entry) → with_entry a (with_entry b xs) ≡ with_entry b (with_entry a xs)
swapped a b xs = elim (same_or_other a b) [
  | inl same ↦ rw same refl
  | inr other ↦ with_swapped a b xs other
]

module _ (P : Entry → Type 0) where
  pub all_put : (e : Entry) (xs : List Entry) → P e → AllByRecursion P xs → AllByRecursion P (with_entry e xs)
  all_put e [] here all = (here, tt)
  all_put e (x ∷ xs) here all = elim (comes_before e x) as (λ b. AllByRecursion P (cond b (e ∷ x ∷ xs) (x ∷ with_entry e xs))) [
    | true ↦ (here, all)
    | false ↦ (all.0, all_put e xs here all.1)
  ]

  pub all_gathered : (entries others : List Entry) → AllByRecursion P entries → AllByRecursion P others → AllByRecursion P (with_all entries others)
  unfolding with_all
  all_gathered [] others all all_others = all_others
  all_gathered (e ∷ entries) others all all_others = all_put e (with_all entries others) all.0 (all_gathered entries others all.1 all_others)

pub gathered_in_order : (entries others : List Entry) → AreInOrder others → AreInOrder (with_all entries others)
unfolding with_all
gathered_in_order [] others order = order
gathered_in_order (e ∷ entries) others order = in_order_with e (with_all entries others) (gathered_in_order entries others order)

pub length_gathered : (entries others : List Entry) → length (with_all entries others) ≡ length entries + length others
unfolding with_all
length_gathered [] others = omega arith
length_gathered (e ∷ entries) others = omega (arith, with_length e (with_all entries others), length_gathered entries others)

-- one more among the first ones is one more of all
pub gathered_with : (e : Entry) (entries others : List Entry) → with_all (with_entry e entries) others ≡ with_entry e (with_all entries others)
unfolding with_all
gathered_with e [] others = refl
gathered_with e (x ∷ entries) others = elim (comes_before e x) as (λ b. with_all (cond b (e ∷ x ∷ entries) (x ∷ with_entry e entries)) others ≡ with_entry e (with_entry x (with_all entries others))) [
  | true ↦ refl
  | false ↦ ap (with_entry x) (gathered_with e entries others) ∙ swapped x e (with_all entries others)
]

none_of_later : (f x : Entry) (xs : List Entry) → comes_before f x ≡ true → NoneBefore x xs → NoneBefore f xs
none_of_later f x xs lesser none = all_weaker (λ y. comes_before y x ≡ false) (λ y. comes_before y f ≡ false) xs (λ y after. after_lesser y x f after lesser) none

none_of_earlier : (f x : Entry) (xs : List Entry) → comes_before f x ≡ false → NoneBefore f xs → NoneBefore x xs
none_of_earlier f x xs after none = all_weaker (λ y. comes_before y f ≡ false) (λ y. comes_before y x ≡ false) xs (λ y later. not_before_later y f x later after) none

-- the first of those that were there comes first of all where none of the others comes before it
pub old_first : (entries : List Entry) (x : Entry) (others : List Entry) → NoneBefore x entries → with_all entries (x ∷ others) ≡ x ∷ with_all entries others
unfolding with_all
old_first [] x others none = refl
old_first (e ∷ entries) x others none =
    ap (with_entry e) (old_first entries x others none.1) ∙ with_later e x (with_all entries others) none.0

-- the first of the others comes first of all where it comes before the first of those that were there
pub new_first : (f : Entry) (entries others : List Entry) → NoneBefore f entries → NoneBefore f others → with_all (f ∷ entries) others ≡ f ∷ with_all entries others
unfolding with_all
new_first f entries others none none_others =
    put_first f (with_all entries others) (all_gathered (λ y. comes_before y f ≡ false) entries others none none_others)

pub taken_fresh : (fresh after : List Entry) (first entry : Option Entry) (left : List Entry) → AreInOrder fresh → AreInOrder (in_front first left) → (first ≡ None → left ≡ [])
    → fresh_first (slice_get fresh 0) first ≡ true → IsTaken fresh entry after → IsTaken (with_all fresh (in_front first left)) entry (with_all after (in_front first left))
unfolding with_all
taken_fresh [] after None entry left order order_left none test taken =
    rw (none refl) (record { first = taken.first; others = rw taken.others refl })
taken_fresh [] after (Some x) entry left order order_left none test taken = absurd (cc)
taken_fresh (f ∷ fresh) after None entry left order order_left none test taken =
    let is : with_all (f ∷ fresh) left ≡ f ∷ with_all fresh left = new_first f fresh left order.0 (rw (none refl) tt) in
    record { first = taken.first ∙ rw is refl; others = ap (λ l. with_all l left) taken.others ∙ rw is refl }
taken_fresh (f ∷ fresh) after (Some x) entry left order order_left none test taken =
    let is : with_all (f ∷ fresh) (x ∷ left) ≡ f ∷ with_all fresh (x ∷ left) =
    new_first f fresh (x ∷ left) order.0 (after_lesser x x f (before_irreflexive x) test, none_of_later f x left test order_left.0) in
    record { first = taken.first ∙ rw is refl; others = ap (λ l. with_all l (x ∷ left)) taken.others ∙ rw is refl }

-- what the fresh entries leave in front of the others
none_fresh : (fresh : List Entry) (x : Entry) → AreInOrder fresh → fresh_first (slice_get fresh 0) (Some x) ≡ false → NoneBefore x fresh
none_fresh [] x order test = tt
none_fresh (f ∷ fresh) x order test = (test, none_of_earlier f x fresh test order.0)

not_none : (fresh : List Entry) → fresh_first (slice_get fresh 0) None ≡ false → ⊥
not_none [] test = absurd (cc)
not_none (f ∷ fresh) test = absurd (cc)

pub taken_front : (left rest : List Entry) (next : Option Entry) → IsTaken left next rest → in_front next rest ≡ left
taken_front [] rest next taken = rw (taken.first, taken.others) refl
taken_front (x ∷ left) rest next taken = rw (taken.first, taken.others) refl

pub taken_old : (fresh : List Entry) (first next : Option Entry) (left rest : List Entry) → AreInOrder fresh → fresh_first (slice_get fresh 0) first ≡ false
    → IsTaken left next rest → IsTaken (with_all fresh (in_front first left)) first (with_all fresh (in_front next rest))
taken_old fresh None next left rest order test taken = absurd (not_none fresh test)
taken_old fresh (Some x) next left rest order test taken =
    let is = old_first fresh x left (none_fresh fresh x order test) in
    record { first = rw is refl; others = ap (with_all fresh) (taken_front left rest next taken) ∙ rw is refl }

left_in_order : (first : Option Entry) (left : List Entry) → IsHeld first left → AreInOrder left
left_in_order None left held = held.order
left_in_order (Some x) left held = held.order.1

pub after_none : (left rest : List Entry) (next : Option Entry) → IsTaken left next rest → next ≡ None → rest ≡ []
after_none [] rest next taken nothing = taken.others
after_none (x ∷ left) rest next taken nothing = absurd (let wrong : Some x ≡ None = sym taken.first ∙ nothing in cc)

drop_none : (m n : ℕ) → ◌≡◌ {A = List Entry} (drop m []) (drop n [])
drop_none zero zero = refl
drop_none zero (suc n) = refl
drop_none (suc m) zero = refl
drop_none (suc m) (suc n) = refl

-- what is left is as it was
pub held_next : (first next : Option Entry) (left rest : List Entry) → IsHeld first left → IsTaken left next rest → IsHeld next rest
held_next first next left rest held taken = record {
  order = rw (taken_front left rest next taken) (left_in_order first left held);
  none = λ nothing. after_none left rest next taken nothing;
}

-- an entry of those before or after the place where one more was put in
abbrev picked_last : Entry → Option Entry → Option Entry
picked_last f None = Some f
picked_last f (Some z) = if comes_before f z then Some f else Some z

abbrev picked : Entry → Option Entry → Option Entry → Option Entry
picked f None next = None
picked f (Some y) next = if comes_before f y then Some y else picked_last f next

first_put : (f : Entry) (xs : List Entry) → slice_get (with_entry f xs) 0 ≡ picked_last f (slice_get xs 0)
first_put f [] = refl
first_put f (x ∷ xs) = elim (comes_before f x) as (λ b. slice_get (cond b (f ∷ x ∷ xs) (x ∷ with_entry f xs)) 0 ≡ (if b then Some f else Some x)) [
  | true ↦ refl
  | false ↦ refl
]

-- all later ones come after it
picked_later : (f y : Entry) (ys : List Entry) (k : ℕ) (next : Option Entry) → comes_before f y ≡ true → NoneBefore y ys → slice_get ys k ≡ picked f (slice_get ys k) next
picked_later f y [] k next first none = refl
picked_later f y (w ∷ ys) zero next first none =
    let before : comes_before f w ≡ true = before_later f y w first none.0 in
    rw before refl
picked_later f y (w ∷ ys) (suc k) next first none = picked_later f y ys k next first none.1

put_later : (f : Entry) (xs : List Entry) (m : ℕ) → AreInOrder xs → slice_get (with_entry f xs) (suc m) ≡ picked f (slice_get xs m) (slice_get xs (suc m))
put_later f [] m order = refl
put_later f (y ∷ ys) zero order = elim (comes_before f y) as (λ b. slice_get (cond b (f ∷ y ∷ ys) (y ∷ with_entry f ys)) 1 ≡ (if b then Some y else picked_last f (slice_get ys 0))) [
  | true ↦ refl
  | false ↦ first_put f ys
]
put_later f (y ∷ ys) (suc k) order = elim (comes_before f y) as (λ b. comes_before f y ≡ b → slice_get (cond b (f ∷ y ∷ ys) (y ∷ with_entry f ys)) (suc (suc k)) ≡ picked f (slice_get ys k) (slice_get ys (suc k))) [
  | true ↦ λ first. picked_later f y ys k (slice_get ys (suc k)) first order.0
  | false ↦ λ after. put_later f ys k order.1
] refl

-- an index beyond the entries that came in is one less where the first of those that were there is gone over
skip_one : (entries : List Entry) (x : Entry) (others : List Entry) (i : ℕ) → AreInOrder (x ∷ others) → length entries ≤ i
    → slice_get (with_all entries (x ∷ others)) (suc i) ≡ slice_get (with_all entries others) i
unfolding with_all
skip_one [] x others i order few = refl
skip_one (f ∷ entries) x others zero order few = absurd (omega arith)
skip_one (f ∷ entries) x others (suc j) order few =
    put_later f (with_all entries (x ∷ others)) (suc j) (gathered_in_order entries (x ∷ others) order)
    ∙ ap (λ y. picked f y (slice_get (with_all entries (x ∷ others)) (suc (suc j)))) (skip_one entries x others j order (omega arith))
    ∙ ap (picked f (slice_get (with_all entries others) j)) (skip_one entries x others (suc j) order (omega arith))
    ∙ sym (put_later f (with_all entries others) j (gathered_in_order entries others order.1))

pub skipped : (count : ℕ) (entries others : List Entry) (i : ℕ) → AreInOrder others → length entries ≤ i
    → slice_get (with_all entries others) (count + i) ≡ slice_get (with_all entries (drop count others)) i
skipped zero entries others i order few = ap (slice_get (with_all entries others)) (let same : 0 + i ≡ i = omega arith in same)
skipped (suc count) entries [] i order few =
    get_beyond (with_all entries []) (suc count + i) (omega (arith, length_gathered entries [], few)) ∙ sym (get_beyond (with_all entries []) i (omega (arith, length_gathered entries [], few)))
skipped (suc count) entries (x ∷ others) i order few =
    ap (slice_get (with_all entries (x ∷ others))) (let same : suc count + i ≡ suc (count + i) = omega arith in same)
    ∙ skip_one entries x others (count + i) order (omega arith) ∙ skipped count entries others i order.1 few

-- so many of those that were there are gone over at once: the first of them, and others
pub gone_at_once : (count : ℕ) (first next : Option Entry) (left rest : List Entry) → IsHeld first left → 0 < count → IsTaken (drop (count - 1) left) next rest
    → in_front next rest ≡ drop count (in_front first left)
gone_at_once zero first next left rest held some taken = absurd (omega arith)
gone_at_once (suc count) None next left rest held some taken =
    taken_front (drop (suc count - 1) left) rest next taken ∙ rw (held.none refl) (drop_none (suc count - 1) (suc count))
gone_at_once (suc count) (Some x) next left rest held some taken =
    taken_front (drop (suc count - 1) left) rest next taken ∙ ap (λ n. drop n left) (let same : suc count - 1 ≡ count = omega arith in same)

-- the place of an index, where no more than so many entries are there
pub at_most_index : (xs : List Entry) (index limit : ℕ) → length xs ≤ limit → slice_get xs (min index limit) ≡ slice_get xs index
at_most_index xs index limit few = elim (cases_lt index limit) [
  | inl below ↦ ap (slice_get xs) (omega arith)
  | inr above ↦ get_beyond xs (min index limit) (omega arith) ∙ sym (get_beyond xs index (omega arith))
]

pub get_dropped : (xs : List Entry) (n : ℕ) → slice_get (drop n xs) 0 ≡ slice_get xs n
get_dropped xs zero = refl
get_dropped [] (suc n) = refl
get_dropped (x ∷ xs) (suc n) = get_dropped xs n

-- the present is in order as all entries are
all_present : (P : Entry → Type 0) (items : List MarkedEntry) → AllByRecursion P (entries_in items) → AllByRecursion P (present_in items)
all_present P [] all = tt
all_present P (item ∷ items) all = elim item.present as (λ b. AllByRecursion P (if b then item.entry ∷ present_in items else present_in items)) [
  | true ↦ (all.0, all_present P items all.1)
  | false ↦ all_present P items all.1
]

pub present_in_order : (items : List MarkedEntry) → AreInOrder (entries_in items) → AreInOrder (present_in items)
present_in_order [] order = tt
present_in_order (item ∷ items) order = elim item.present as (λ b. AreInOrder (if b then item.entry ∷ present_in items else present_in items)) [
  | true ↦ (all_present (λ y. comes_before y item.entry ≡ false) items order.0, present_in_order items order.1)
  | false ↦ present_in_order items order.1
]

-- what a walk from the first entry on begins with
pub held_from : (all left rest : List Entry) (next : Option Entry) → AreInOrder all → left ≡ all → IsTaken left next rest → IsHeld next rest
held_from all left rest next order is taken = record {
  order = rw (taken_front left rest next taken, is) order;
  none = λ nothing. after_none left rest next taken nothing;
}

in_order_dropped : (xs : List Entry) (n : ℕ) → AreInOrder xs → AreInOrder (drop n xs)
in_order_dropped xs zero order = order
in_order_dropped [] (suc n) order = tt
in_order_dropped (x ∷ xs) (suc n) order = in_order_dropped xs n order.1

pub held_further : (count : ℕ) (first next : Option Entry) (left passed rest : List Entry) → IsHeld first left → 0 < count → passed ≡ drop (count - 1) left → IsTaken passed next rest → IsHeld next rest
held_further count first next left passed rest held some is taken =
    let front : in_front next rest ≡ drop count (in_front first left) = gone_at_once count first next left rest held some (subst (λ l. IsTaken l next rest) is taken) in
    record {
      order = rw front (in_order_dropped (in_front first left) count held.order);
      none = λ nothing. after_none passed rest next taken nothing;
    }

pub beyond_passed : (count : ℕ) (first next : Option Entry) (fresh left passed rest : List Entry) (index : ℕ) → IsHeld first left → 0 < count → passed ≡ drop (count - 1) left → IsTaken passed next rest
    → length fresh ≤ index → slice_get (with_all fresh (in_front next rest)) index ≡ slice_get (with_all fresh (in_front first left)) (count + index)
beyond_passed count first next fresh left passed rest index held some is taken few =
    let front : in_front next rest ≡ drop count (in_front first left) = gone_at_once count first next left rest held some (subst (λ l. IsTaken l next rest) is taken) in
    ap (λ l. slice_get (with_all fresh l) index) front ∙ sym (skipped count fresh (in_front first left) index held.order few)

pub no_more_fresh : (before after : List Entry) (entry : Option Entry) → IsTaken before entry after → length after ≤ length before
no_more_fresh before after entry taken = omega (arith, ap (λ (l : List Entry). length l) taken.others, length-drop 1 before)

pub held_view : {v w : HeldLater} → v ≡ w → v.entries ≡ w.entries
held_view same = ap (λ (v : HeldLater). v.entries) same

-- where some of those that were there are gone over, and the entries that came in are beyond them
pub nth_beyond : (before after : List Entry) (fresh near count index : ℕ) → near ≡ min fresh index → count ≡ index - near → (count ≡ 0 → after ≡ before)
    → ((i : ℕ) → fresh ≤ i → slice_get after i ≡ slice_get before (count + i)) → slice_get after near ≡ slice_get before index
nth_beyond before after fresh near count index least rest none beyond = elim (cases_lt fresh index) [
  | inl less ↦ beyond near (omega arith) ∙ ap (slice_get before) (let same : count + near ≡ index = omega arith in same)
  | inr few ↦ ap (λ xs. slice_get xs near) (none (omega arith)) ∙ ap (slice_get before) (let same : near ≡ index = omega arith in same)
]
