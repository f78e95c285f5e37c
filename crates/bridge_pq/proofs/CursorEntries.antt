-- A walk through the present by a window of entries.
use Rattle.std.proofs.Common.{◌≡◌, ℕ, zero, suc, ◌+◌, ◌-◌, ◌<◌, ◌≤◌, Bool, true, false, List, [], ◌∷◌, ◌++◌, length, map, take, drop, refl, sym, ap, ◌∙◌, arith, inl, inr, Option, Some, None, pos}
use Rattle.std.specs.Prelude.{slice_index_or, if◌then◌else◌}
use Rattle.std.specs.List.{slice_get}
use Rattle.std.proofs.lemmas.List.{map-id, length-take, length-take-le, length-drop}
use Rattle.std.proofs.lemmas.Bool.{cases_lt}
use Rattle.weighted_tree.specs.Reads.{overwritten}
use Rattle.retro_base.specs.declared.row.Entry.{Entry}
use Rattle.bridge_pq.specs.declared.marked_entry.MarkedEntry.{MarkedEntry}
use Rattle.bridge_pq.specs.Gathered.{count_to, EndsAt, IsTaken, IsWindow}
use Rattle.bridge_pq.specs.MarkedEntries.{present_in}
use Rattle.bridge_pq.proofs.EntryPlaces.{kth_is}
use Rattle.retro_base.specs.Facts.{drop_at, get_take, get_drop}

-- what a mark counts
abbrev marked : Bool → ℕ
marked b = if b then 1 else 0

count_first : (b : Bool) (x : Entry) → length (if b then x ∷ [] else []) ≡ marked b
count_first true x = refl
count_first false x = refl

count_later : (b c : Bool) (x : Entry) (xs ys : List Entry) → length ys ≡ length xs + marked c → length (if b then x ∷ ys else ys) ≡ length (if b then x ∷ xs else xs) + marked c
count_later true c x xs ys more = omega (arith, more)
count_later false c x xs ys more = more

-- one more entry is one more of the present where its mark is set
pub count_step : (items : List MarkedEntry) (n : ℕ) (item : MarkedEntry) → slice_get items n ≡ Some item → count_to items (suc n) ≡ count_to items n + marked item.present
count_step [] n item at = absurd (cc)
count_step (x ∷ items) zero item at =
    let same : x ≡ item = cc in
    let one : length (if x.present then x.entry ∷ [] else []) ≡ marked item.present = count_first x.present x.entry ∙ ap (λ (y : MarkedEntry). marked y.present) same in
    omega (arith, one)
count_step (x ∷ items) (suc n) item at = count_later x.present item.present x.entry (present_in (take n items)) (present_in (take (suc n) items)) (count_step items n item at)

pub none_left : {X : Type 0} (xs : List X) (k : ℕ) → slice_get xs k ≡ None → drop k xs ≡ []
none_left [] zero at = refl
none_left [] (suc k) at = refl
none_left (y ∷ ys) zero at = absurd (cc)
none_left (y ∷ ys) (suc k) at = none_left ys k at

pub get_index : {X : Type 0} (xs : List X) (i : ℕ) (d : X) → i < length xs → slice_get xs i ≡ Some (slice_index_or xs i d)
get_index [] i d within = absurd (omega arith)
get_index (x ∷ xs) zero d within = refl
get_index (x ∷ xs) (suc i) d within = get_index xs i d (omega arith)

-- what the window has at a place
pub read_at : (items window : List MarkedEntry) (passed former start end place : ℕ) (d : MarkedEntry) → IsWindow items window passed former start end → length window ≡ 32
    → start ≤ place → place < end → slice_get items place ≡ Some (slice_index_or window (place - start) d)
read_at items window passed former start end place d is long from below =
    let there : start + (place - start) ≡ place = omega arith in
    sym (ap (slice_get items) there) ∙ sym (is.same (place - start) (omega arith)) ∙ get_index window (place - start) d (omega (arith, is.room))

-- a dead entry is gone over
pub passed_dead : (items : List MarkedEntry) (place passed : ℕ) (item : MarkedEntry) → slice_get items place ≡ Some item → item.present ≡ false → count_to items place ≡ passed
    → count_to items (place + 1) ≡ passed
passed_dead items place passed item at dead is =
    let next : count_to items (suc place) ≡ count_to items place + marked item.present = count_step items place item at in
    let same : count_to items (suc place) ≡ count_to items place + 0 = next ∙ ap (λ (b : Bool). count_to items place + marked b) dead in
    ap (count_to items) (let one : place + 1 ≡ suc place = omega arith in one) ∙ omega (arith, same, is)

pub passed_present : (items : List MarkedEntry) (place passed : ℕ) (item : MarkedEntry) → slice_get items place ≡ Some item → item.present ≡ true → count_to items place ≡ passed
    → count_to items (place + 1) ≡ passed + 1
passed_present items place passed item at alive is =
    let next : count_to items (suc place) ≡ count_to items place + marked item.present = count_step items place item at in
    let more : count_to items (suc place) ≡ count_to items place + 1 = next ∙ ap (λ (b : Bool). count_to items place + marked b) alive in
    ap (count_to items) (let one : place + 1 ≡ suc place = omega arith in one) ∙ omega (arith, more, is)

-- the next one is the first that is left
pub present_is_next : (items : List MarkedEntry) (place passed : ℕ) (item : MarkedEntry) → slice_get items place ≡ Some item → item.present ≡ true → count_to items place ≡ passed
    → drop passed (present_in items) ≡ item.entry ∷ drop (passed + 1) (present_in items)
present_is_next items place passed item at alive is =
    let more : count_to items (suc place) ≡ passed + 1 = ap (count_to items) (let one : suc place ≡ place + 1 = omega arith in one) ∙ passed_present items place passed item at alive is in
    drop_at (present_in items) passed item.entry (kth_is items place passed item at (omega (arith, is)) (omega (arith, more)))

count_least : (b : Bool) (x : Entry) (xs : List Entry) (n : ℕ) → length xs ≤ n → length (if b then x ∷ xs else xs) ≤ suc n
count_least true x xs n few = omega arith
count_least false x xs n few = omega arith

pub count_within : (items : List MarkedEntry) → length (present_in items) ≤ length items
count_within [] = omega arith
count_within (item ∷ items) = count_least item.present item.entry (present_in items) (length items) (count_within items)

pub count_up_to : (items : List MarkedEntry) (n : ℕ) → count_to items n ≤ length items
count_up_to items n = omega (arith, count_within (take n items), length-take n items)

get_append : {X : Type 0} (xs ys : List X) (i : ℕ) → i < length xs → slice_get (xs ++ ys) i ≡ slice_get xs i
get_append [] ys i within = absurd (omega arith)
get_append (x ∷ xs) ys zero within = refl
get_append (x ∷ xs) ys (suc i) within = get_append xs ys i (omega arith)

-- the window after a search: it has the entries from the found one on
module _ (items former new : List MarkedEntry) (passed end count : ℕ) (ends : EndsAt items passed end) (few : count ≤ length items - (end - 1)) (room : count ≤ 32)
    (written : new ≡ overwritten former 0 (map (λ (item : MarkedEntry). item) (take count (drop (end - 1) items)))) where
  long : length (take count (drop (end - 1) items)) ≡ count
  long = length-take-le count (drop (end - 1) items) (omega (arith, length-drop (end - 1) items, few))

  new_is : new ≡ take count (drop (end - 1) items) ++ drop (0 + length (map (λ (item : MarkedEntry). item) (take count (drop (end - 1) items)))) former
  new_is = written ∙ ap (λ read. read ++ drop (0 + length (map (λ (item : MarkedEntry). item) (take count (drop (end - 1) items)))) former) (map-id (take count (drop (end - 1) items)))

  pub read_there : (i : ℕ) → i < count → slice_get new i ≡ slice_get items ((end - 1) + i)
  read_there i within =
      ap (λ (l : List MarkedEntry). slice_get l i) new_is
      ∙ get_append (take count (drop (end - 1) items)) _ i (omega (arith, long, within))
      ∙ get_take (drop (end - 1) items) count i within ∙ get_drop items (end - 1) i

  pub window_read : IsWindow items new (passed + 1) end (end - 1) ((end - 1) + count)
  window_read = record {
    few = omega (arith, ends.passed, ends.within, count_up_to items end);
    live = λ more. (omega (arith, ends.some), ends.passed);
    within = omega (arith, few, ends.some, ends.within);
    room = omega (arith, room);
    same = λ index within. read_there index (omega (arith, within));
  }

  -- the first of them is the one that was sought
  pub found_first : (d : MarkedEntry) (now : List Entry) → now ≡ drop passed (present_in items) → 0 < count → 0 < length new
      → IsTaken now (Some (slice_index_or new 0 d).entry) (drop (passed + 1) (present_in items))
  found_first d now is some inside =
      let there : slice_get items (end - 1) ≡ Some (slice_index_or new 0 d) =
      ap (slice_get items) (let same : end - 1 ≡ (end - 1) + 0 = omega arith in same) ∙ sym (read_there 0 some) ∙ get_index new 0 d inside in
      let next = is ∙ drop_at (present_in items) passed (slice_index_or new 0 d).entry (ends.there (slice_index_or new 0 d) there) in
      record { first = rw next refl; others = rw next refl }

pub none_found : (items : List MarkedEntry) (passed : ℕ) (now : List Entry) (answer : Option Entry) → now ≡ drop passed (present_in items) → slice_get (present_in items) passed ≡ None
    → answer ≡ None → IsTaken now answer now
none_found items passed now answer is none nothing =
    let empty : now ≡ [] = is ∙ none_left (present_in items) passed none in
    rw (nothing, empty) (record { first = refl; others = refl })

drop_nil : {X : Type 0} (n : ℕ) → ◌≡◌ {A = List X} (drop n []) []
drop_nil zero = refl
drop_nil (suc n) = refl

drop_drop : {X : Type 0} (xs : List X) (m n : ℕ) → drop n (drop m xs) ≡ drop (m + n) xs
drop_drop xs zero n = ap (λ k. drop k xs) (let same : n ≡ 0 + n = omega arith in same)
drop_drop [] (suc m) n = drop_nil n ∙ sym (drop_nil (suc m + n))
drop_drop (x ∷ xs) (suc m) n = drop_drop xs m n ∙ ap (λ k. drop k (x ∷ xs)) (let same : suc (m + n) ≡ suc m + n = omega arith in same)

drop_all : {X : Type 0} (xs : List X) (n : ℕ) → length xs ≤ n → drop n xs ≡ []
drop_all [] zero all = refl
drop_all [] (suc n) all = refl
drop_all (x ∷ xs) zero all = absurd (omega arith)
drop_all (x ∷ xs) (suc n) all = drop_all xs n (omega arith)

-- entries that are gone over
pub gone_over : (items : List MarkedEntry) (passed count next : ℕ) (now : List Entry) → now ≡ drop passed (present_in items) → ((passed + count ≤ length items) → next ≡ passed + count)
    → (length items ≤ passed + count → next ≡ length items) → drop next (present_in items) ≡ drop count now
gone_over items passed count next now is few all = rw is (elim (cases_lt (length items) (passed + count)) [
  | inl beyond ↦
      let end : next ≡ length items = all (omega arith) in
      rw end (drop_all (present_in items) (length items) (count_within items)) ∙ sym (drop_drop (present_in items) passed count ∙ drop_all (present_in items) (passed + count) (omega (arith, count_within items)))
  | inr within ↦ ap (λ k. drop k (present_in items)) (few (omega arith)) ∙ sym (drop_drop (present_in items) passed count)
])

-- no entry that was read
abbrev pub nothing : MarkedEntry
nothing = record { entry = record { key = pos 0; number = 0 }; present = false }

-- the next entry that the window has
module _ (items window : List MarkedEntry) (passed former start end place : ℕ) (is : IsWindow items window passed former start end) (long : length window ≡ 32)
    (live : (start ≤ place) × (count_to items place ≡ passed)) (below : place < end) where
  pub more_passed : (slice_index_or window (place - start) nothing).present ≡ true → count_to items (place + 1) ≡ passed + 1
  more_passed alive = passed_present items place passed (slice_index_or window (place - start) nothing) (read_at items window passed former start end place nothing is long live.0 below) alive live.1

  pub passed_fits : (slice_index_or window (place - start) nothing).present ≡ true → passed + 1 ≤ length items
  passed_fits alive = omega (arith, more_passed alive, count_up_to items (place + 1))

  pub window_further : (slice_index_or window (place - start) nothing).present ≡ true → IsWindow items window (passed + 1) (place + 1) start end
  window_further alive = record {
    few = passed_fits alive;
    live = λ more. (omega (arith, live.0), more_passed alive);
    within = is.within;
    room = is.room;
    same = is.same;
  }

  pub next_read : (slice_index_or window (place - start) nothing).present ≡ true
      → drop passed (present_in items) ≡ (slice_index_or window (place - start) nothing).entry ∷ drop (passed + 1) (present_in items)
  next_read alive =
      present_is_next items place passed (slice_index_or window (place - start) nothing) (read_at items window passed former start end place nothing is long live.0 below) alive live.1

  pub dead_passed : (slice_index_or window (place - start) nothing).present ≡ false → count_to items (place + 1) ≡ passed
  dead_passed dead = passed_dead items place passed (slice_index_or window (place - start) nothing) (read_at items window passed former start end place nothing is long live.0 below) dead live.1
