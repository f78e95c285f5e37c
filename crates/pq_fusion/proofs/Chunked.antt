-- An entry comes into one chunk of a rising list or goes from it, and the chunks around stay.
use Rattle.std.proofs.Common.{◌≡◌, ℕ, zero, suc, ◌+◌, ◌-◌, ◌<◌, ◌≤◌, ◌⊎◌, inl, inr, true, false, cond, List, [], ◌∷◌, ◌++◌, length, take, drop, set, get_or, refl, ap, sym, ◌∙◌, arith, subst, append_assoc, length-append, add-one, Option, Some, None}
use Rattle.std.specs.Prelude.{Vec, slice_get, insert, remove}
use Rattle.std.specs.List.{AllByRecursion}
use Rattle.std.proofs.lemmas.Option.{slice_get_read}
use Rattle.retro_base.specs.declared.row.Entry.{Entry}
use Rattle.retro_base.specs.EntriesInOrder.{AreInOrder}
use Rattle.retro_base.specs.State.{comes_before, with_entry}
use Rattle.retro_base.specs.lemmas.bridges.EntryOrder.{neither_before}
use Rattle.retro_base.specs.lemmas.bridges.Entries.{with_first, with_later}
use Rattle.retro_base.specs.lemmas.CountedEntries.{with_length}
use Rattle.pq_fusion.specs.Chunks.{AtHead, AreChunks, IsChunk, IsHome, IsOneMoreAtMost, HoldsRank, entries_of, starts_of}
use Rattle.pq_fusion.specs.declared.bound.Bound.{Bound}
use Rattle.pq_fusion.specs.declared.bound.Bound.TheVariants.{Low, At, Top}
use Rattle.pq_fusion.specs.Bounds.{with_bound}
use Rattle.pq_fusion.specs.Exchanges.{Has, IsExchange}
use Rattle.pq_fusion.proofs.Bounded.{order_bound}
use Rattle.pq_fusion.proofs.Order.{IsLeast, not_earlier}
use Rattle.pq_fusion.proofs.Split.{order_front, order_back}
use Rattle.pq_fusion.proofs.Swapped.{has_least}

pub least_at : (y x : Entry) (xs zs : List Entry) → IsLeast y (xs ++ x ∷ zs) → comes_before x y ≡ false
least_at y x [] zs least = least.0
least_at y x (z ∷ xs) zs least = least_at y x xs zs least.1

-- without an entry it rises still
least_without : (x e : Entry) (ys : List Entry) → IsLeast x (with_entry e ys) → IsLeast x ys
least_without x e [] = λ least. tt
least_without x e (y ∷ ys) = elim (comes_before e y) as (λ b. IsLeast x (cond b (e ∷ y ∷ ys) (y ∷ with_entry e ys)) → IsLeast x (y ∷ ys)) [
  | true ↦ λ least. least.1
  | false ↦ λ least. (least.0, least_without x e ys least.1)
]

pub order_without : (e : Entry) (ys : List Entry) → AreInOrder (with_entry e ys) → AreInOrder ys
order_without e [] = λ order. tt
order_without e (y ∷ ys) = elim (comes_before e y) as (λ b. AreInOrder (cond b (e ∷ y ∷ ys) (y ∷ with_entry e ys)) → AreInOrder (y ∷ ys)) [
  | true ↦ λ order. order.1
  | false ↦ λ order. (least_without y e ys order.0, order_without e ys order.1)
]

-- behind what it does not come before, and before what it comes before
pub with_past : (e : Entry) (xs ys : List Entry) → AllByRecursion (λ y. comes_before e y ≡ false) xs → with_entry e (xs ++ ys) ≡ xs ++ with_entry e ys
with_past e [] ys all = refl
with_past e (x ∷ xs) ys all = with_later e x (xs ++ ys) all.0 ∙ ap (λ l. x ∷ l) (with_past e xs ys all.1)

pub with_before : (e : Entry) (xs ys : List Entry) → AtHead (λ y. comes_before e y ≡ true) ys → with_entry e (xs ++ ys) ≡ with_entry e xs ++ ys
with_before e [] [] head = refl
with_before e [] (y ∷ ys) head = with_first e y ys head
with_before e (x ∷ xs) ys head = elim (comes_before e x) as (λ b. cond b (e ∷ x ∷ (xs ++ ys)) (x ∷ with_entry e (xs ++ ys)) ≡ cond b (e ∷ x ∷ xs) (x ∷ with_entry e xs) ++ ys) [
  | true ↦ refl
  | false ↦ ap (λ l. x ∷ l) (with_before e xs ys head)
]

past_of : (e x : Entry) (xs zs : List Entry) → AreInOrder (xs ++ x ∷ zs) → comes_before e x ≡ false → AllByRecursion (λ y. comes_before e y ≡ false) xs
past_of e x [] zs order after = tt
past_of e x (y ∷ xs) zs order after = (not_earlier y x e (least_at y x xs zs order.0) after, past_of e x xs zs order.1 after)

pub with_behind : (e : Entry) (xs ys : List Entry) → AreInOrder (xs ++ ys) → 0 < length ys → AtHead (λ y. comes_before e y ≡ false) ys → with_entry e (xs ++ ys) ≡ xs ++ with_entry e ys
with_behind e xs [] order some head = absurd (omega arith)
with_behind e xs (y ∷ ys) order some head = with_past e xs (y ∷ ys) (past_of e y xs ys order head)

head_get : (P : Entry → Type 0) (ys : List Entry) (d : Entry) → P (get_or ys 0 d) → AtHead P ys
head_get P [] d first = tt
head_get P (y ∷ ys) d first = first

-- it goes into one of two lists
pub put_earlier : (e : Entry) (xs ys new : List Entry) (d : Entry) → comes_before e (get_or ys 0 d) ≡ true → new ≡ with_entry e xs → new ++ ys ≡ with_entry e (xs ++ ys)
put_earlier e xs ys new d first is = ap (λ l. l ++ ys) is ∙ sym (with_before e xs ys (head_get (λ y. comes_before e y ≡ true) ys d first))

pub put_later : (e : Entry) (xs ys new : List Entry) (d : Entry) → AreInOrder (xs ++ ys) → 0 < length ys → comes_before e (get_or ys 0 d) ≡ false → new ≡ with_entry e ys
    → xs ++ new ≡ with_entry e (xs ++ ys)
put_later e xs ys new d order some first is =
    ap (λ l. xs ++ l) is ∙ sym (with_behind e xs ys order some (head_get (λ y. comes_before e y ≡ false) ys d first))

-- one comes in and another goes
pub exchanged_in : (put take : Bound) (old between new : List Entry) → AreInOrder old → between ≡ with_bound put old → with_bound take new ≡ between → IsExchange put take old new
exchanged_in put take old between new order puts takes = record {
  order = without take (subst AreInOrder (sym (takes ∙ puts)) (order_bound put old order));
  same = sym puts ∙ sym takes;
}
  where
    without : (b : Bound) → AreInOrder (with_bound b new) → AreInOrder new
    without Low rises = rises
    without (At e) rises = order_without e new rises
    without Top rises = rises

pub no_items : (xs : List Entry) → length xs ≡ 0 → xs ≡ []
no_items [] none = refl
no_items (x ∷ xs) none = absurd (omega (arith, none))

pub one_more : (e : Entry) (xs new : List Entry) → new ≡ with_entry e xs → IsOneMoreAtMost xs new
one_more e xs new is = (omega (arith, ap length is, with_length e xs), omega (arith, ap length is, with_length e xs))

-- an entry of two lists that stand one behind the other
has_behind : (e : Entry) (xs ys : List Entry) → Has e ys → Has e (xs ++ ys)
has_behind e [] ys there = there
has_behind e (x ∷ xs) ys there = inr (has_behind e xs ys there)

has_front : (e : Entry) (xs ys : List Entry) → Has e xs → Has e (xs ++ ys)
has_front e [] ys there = absurd there
has_front e (x ∷ xs) ys there = elim there [
  | inl same ↦ inl same
  | inr further ↦ inr (has_front e xs ys further)
]

has_either : (e : Entry) (xs ys : List Entry) → Has e (xs ++ ys) → Has e xs ⊎ Has e ys
has_either e [] ys there = inr there
has_either e (x ∷ xs) ys there = elim there [
  | inl same ↦ inl (inl same)
  | inr further ↦ elim (has_either e xs ys further) [ inl front ↦ inl (inr front) | inr behind ↦ inr behind ]
]

past_has : (e : Entry) (xs ys : List Entry) → AreInOrder (xs ++ ys) → Has e ys → AllByRecursion (λ y. comes_before e y ≡ false) xs
past_has e [] ys order there = tt
past_has e (x ∷ xs) ys order there = (has_least x e (xs ++ ys) order.0 (inr (has_behind e xs ys there)), past_has e xs ys order.1 there)

none_in : (e : Entry) (ys : List Entry) → AreInOrder ys → AtHead (λ y. comes_before e y ≡ true) ys → Has e ys → ⊥
none_in e [] order head there = there
none_in e (y ∷ ys) order head there = let wrong : true ≡ false = sym head ∙ has_least y e ys order.0 there in absurd (cc)

no_earlier : (e x : Entry) (xs zs : List Entry) → AreInOrder (xs ++ x ∷ zs) → Has e xs → comes_before x e ≡ false
no_earlier e x [] zs order there = absurd there
no_earlier e x (y ∷ xs) zs order there = elim there [
  | inl same ↦ ap (comes_before x) same ∙ least_at y x xs zs order.0
  | inr further ↦ no_earlier e x xs zs order.1 further
]

-- the chunk that an entry belongs to, with the entries before and behind it
module _ (e : Entry) (front own behind : List Entry) (order : AreInOrder (front ++ (own ++ behind))) (some : 0 < length own) (to : AtHead (λ y. comes_before e y ≡ true) behind) where
  pub own_order : AreInOrder own
  own_order = order_front own behind (order_back front (own ++ behind) order)

  from_own : (0 < length front → AtHead (λ y. comes_before e y ≡ false) (own ++ behind)) → with_entry e (front ++ (own ++ behind)) ≡ front ++ with_entry e (own ++ behind)
  from_own = by front order
    where
      by : (xs : List Entry) → AreInOrder (xs ++ (own ++ behind)) → (0 < length xs → AtHead (λ y. comes_before e y ≡ false) (own ++ behind))
          → with_entry e (xs ++ (own ++ behind)) ≡ xs ++ with_entry e (own ++ behind)
      by [] rises from = refl
      by (x ∷ xs) rises from = with_behind e (x ∷ xs) (own ++ behind) rises (omega (arith, some, length-append own behind)) (from (omega arith))

  pub put_between : (0 < length front → AtHead (λ y. comes_before e y ≡ false) (own ++ behind)) → with_entry e (front ++ (own ++ behind)) ≡ front ++ (with_entry e own ++ behind)
  put_between from = from_own from ∙ ap (λ l. front ++ l) (with_before e own behind to)

  pub taken_between : (new : List Entry) → Has e own → with_entry e new ≡ own → with_entry e (front ++ (new ++ behind)) ≡ front ++ (own ++ behind)
  taken_between new there same =
      with_past e front (new ++ behind) (past_has e front (own ++ behind) order (has_front e own behind there))
      ∙ ap (λ l. front ++ l) (with_before e new behind to ∙ ap (λ l. l ++ behind) same)

has_home : (e : Entry) (front own behind : List Entry) → AreInOrder (front ++ (own ++ behind)) → 0 < length own → AtHead (λ y. comes_before e y ≡ true) behind
    → (0 < length front → AtHead (λ y. comes_before e y ≡ false) (own ++ behind)) → Has e (front ++ (own ++ behind)) → Has e own
has_home e front [] behind order some to from there = absurd (omega arith)
has_home e front (x ∷ own) behind order some to from there = elim (has_either e front ((x ∷ own) ++ behind) there) [
  | inl before ↦ inl (neither_before e x (from (filled front before)) (no_earlier e x front (own ++ behind) order before))
  | inr within ↦ elim (has_either e (x ∷ own) behind within) [
    | inl here ↦ here
    | inr beyond ↦ absurd (none_in e behind (order_back (x ∷ own) behind (order_back front ((x ∷ own) ++ behind) order)) to beyond)
  ]
]
  where
    filled : (xs : List Entry) → Has e xs → 0 < length xs
    filled [] none = absurd none
    filled (y ∷ ys) given = omega arith

head_of : (P : Entry → Type 0) (xs ys : List Entry) (d : Entry) → 0 < length xs → P (get_or xs 0 d) → AtHead P (xs ++ ys)
head_of P [] ys d some first = absurd (omega arith)
head_of P (x ∷ xs) ys d some first = first

get_front : (xs ys : List Entry) (n : ℕ) → n < length xs → slice_get (xs ++ ys) n ≡ slice_get xs n
get_front [] ys n within = absurd (omega arith)
get_front (x ∷ xs) ys zero within = refl
get_front (x ∷ xs) ys (suc n) within = get_front xs ys n (omega arith)

get_behind : (xs ys : List Entry) (n k : ℕ) → n ≡ length xs + k → slice_get (xs ++ ys) n ≡ slice_get ys k
get_behind [] ys n k is = ap (slice_get ys) (let same : n ≡ k = omega (arith, is) in same)
get_behind (x ∷ xs) ys zero k is = absurd (omega (arith, is))
get_behind (x ∷ xs) ys (suc n) k is = get_behind xs ys n k (omega (arith, is))

get_alone : (xs : List Entry) (n : ℕ) → slice_get (xs ++ []) n ≡ slice_get xs n
get_alone [] n = refl
get_alone (x ∷ xs) zero = refl
get_alone (x ∷ xs) (suc n) = get_alone xs n

pub same_start : (xs : List ℕ) (n d e : ℕ) → n < length xs → get_or xs n d ≡ get_or xs n e
same_start [] n d e within = absurd (omega arith)
same_start (x ∷ xs) zero d e within = refl
same_start (x ∷ xs) (suc n) d e within = same_start xs n d e (omega arith)

-- all entries, with those of one chunk in the middle
module _ {A : Type 0} where
  pub around : (chunks : List (Vec Entry A)) (place : ℕ) (chunk : Vec Entry A) → slice_get chunks place ≡ Some chunk
      → entries_of chunks ≡ entries_of (take place chunks) ++ (chunk.items ++ entries_of (drop (suc place) chunks))
  around [] place chunk there = absurd (cc)
  around (first ∷ others) zero chunk there = let same : first ≡ chunk = cc in ap (λ (c : Vec Entry A). c.items ++ entries_of others) same
  around (first ∷ others) (suc place) chunk there =
      ap (λ l. first.items ++ l) (around others place chunk there)
      ∙ sym (append_assoc first.items (entries_of (take place others)) (chunk.items ++ entries_of (drop (suc place) others)))

  around_set : (chunks : List (Vec Entry A)) (place : ℕ) (chunk new : Vec Entry A) → slice_get chunks place ≡ Some chunk
      → entries_of (set chunks place new) ≡ entries_of (take place chunks) ++ (new.items ++ entries_of (drop (suc place) chunks))
  around_set [] place chunk new there = absurd (cc)
  around_set (first ∷ others) zero chunk new there = refl
  around_set (first ∷ others) (suc place) chunk new there =
      ap (λ l. first.items ++ l) (around_set others place chunk new there)
      ∙ sym (append_assoc first.items (entries_of (take place others)) (new.items ++ entries_of (drop (suc place) others)))

  around_more : (chunks : List (Vec Entry A)) (place : ℕ) (chunk new later : Vec Entry A) → slice_get chunks place ≡ Some chunk
      → entries_of (insert (set chunks place new) (suc place) later) ≡ entries_of (take place chunks) ++ ((new.items ++ later.items) ++ entries_of (drop (suc place) chunks))
  around_more [] place chunk new later there = absurd (cc)
  around_more (first ∷ others) zero chunk new later there = sym (append_assoc new.items later.items (entries_of others))
  around_more (first ∷ others) (suc place) chunk new later there =
      ap (λ l. first.items ++ l) (around_more others place chunk new later there)
      ∙ sym (append_assoc first.items (entries_of (take place others)) ((new.items ++ later.items) ++ entries_of (drop (suc place) others)))

  around_none : (chunks : List (Vec Entry A)) (place : ℕ) (chunk new : Vec Entry A) → slice_get chunks place ≡ Some chunk
      → entries_of (remove (set chunks place new) place) ≡ entries_of (take place chunks) ++ entries_of (drop (suc place) chunks)
  around_none [] place chunk new there = absurd (cc)
  around_none (first ∷ others) zero chunk new there = refl
  around_none (first ∷ others) (suc place) chunk new there =
      ap (λ l. first.items ++ l) (around_none others place chunk new there)
      ∙ sym (append_assoc first.items (entries_of (take place others)) (entries_of (drop (suc place) others)))

  pub behind_place : (chunks : List (Vec Entry A)) (place : ℕ) (chunk : Vec Entry A) → slice_get chunks place ≡ Some chunk
      → entries_of (drop place chunks) ≡ chunk.items ++ entries_of (drop (suc place) chunks)
  behind_place [] place chunk there = absurd (cc)
  behind_place (first ∷ others) zero chunk there = let same : first ≡ chunk = cc in ap (λ (c : Vec Entry A). c.items ++ entries_of others) same
  behind_place (first ∷ others) (suc place) chunk there = behind_place others place chunk there

  -- what holds of each chunk
  pub chunk_at : (P : Vec Entry A → Type 0) (chunks : List (Vec Entry A)) (place : ℕ) (chunk : Vec Entry A) → slice_get chunks place ≡ Some chunk → AllByRecursion P chunks → P chunk
  chunk_at P [] place chunk there all = absurd (cc)
  chunk_at P (first ∷ others) zero chunk there all = let same : first ≡ chunk = cc in subst P same all.0
  chunk_at P (first ∷ others) (suc place) chunk there all = chunk_at P others place chunk there all.1

  pub chunks_set : (P : Vec Entry A → Type 0) (chunks : List (Vec Entry A)) (place : ℕ) (new : Vec Entry A) → AllByRecursion P chunks → P new → AllByRecursion P (set chunks place new)
  chunks_set P [] place new all own = tt
  chunks_set P (first ∷ others) zero new all own = (own, all.1)
  chunks_set P (first ∷ others) (suc place) new all own = (all.0, chunks_set P others place new all.1 own)

  pub chunks_more : (P : Vec Entry A → Type 0) (chunks : List (Vec Entry A)) (place : ℕ) (new : Vec Entry A) → place ≤ length chunks → AllByRecursion P chunks → P new
      → AllByRecursion P (insert chunks place new)
  chunks_more P [] zero new within all own = (own, tt)
  chunks_more P [] (suc place) new within all own = absurd (omega arith)
  chunks_more P (first ∷ others) zero new within all own = (own, all)
  chunks_more P (first ∷ others) (suc place) new within all own = (all.0, chunks_more P others place new (omega arith) all.1 own)

  pub chunks_less : (P : Vec Entry A → Type 0) (chunks : List (Vec Entry A)) (place : ℕ) (new : Vec Entry A) → AllByRecursion P chunks → AllByRecursion P (remove (set chunks place new) place)
  chunks_less P [] zero new all = tt
  chunks_less P [] (suc place) new all = tt
  chunks_less P (first ∷ others) zero new all = all.1
  chunks_less P (first ∷ others) (suc place) new all = (all.0, chunks_less P others place new all.1)

  -- the first entry behind a place
  pub head_at : (P : Entry → Type 0) (chunks : List (Vec Entry A)) (place : ℕ) (chunk : Vec Entry A) (d : Entry) → slice_get chunks place ≡ Some chunk → 0 < length chunk.items
      → P (get_or chunk.items 0 d) → AtHead P (entries_of (drop place chunks))
  head_at P chunks place chunk d there some first =
      subst (AtHead P) (sym (behind_place chunks place chunk there)) (head_of P chunk.items (entries_of (drop (suc place) chunks)) d some first)

  pub head_past : (P : Entry → Type 0) (chunks : List (Vec Entry A)) → AtHead P (entries_of (drop (length chunks) chunks))
  head_past P [] = tt
  head_past P (first ∷ others) = head_past P others

  -- the search by halves
  pub record IsHalved (e : Entry) (chunks : List (Vec Entry A)) (low high : ℕ) : Type 0 where
    pub some : 0 < low
    pub order : low ≤ high
    pub within : high ≤ length chunks
    pub from : 1 < low → AtHead (λ y. comes_before e y ≡ false) (entries_of (drop (low - 1) chunks))
    pub to : AtHead (λ y. comes_before e y ≡ true) (entries_of (drop high chunks))

  pub halved_starts : (e : Entry) (chunks : List (Vec Entry A)) → 0 < length chunks → IsHalved e chunks 1 (length chunks)
  halved_starts e chunks some = record {
    some = omega arith;
    order = omega (arith, some);
    within = omega arith;
    from = λ more. absurd (omega (arith, more));
    to = head_past (λ y. comes_before e y ≡ true) chunks;
  }

  module _ (e : Entry) (chunks : List (Vec Entry A)) (low high middle : ℕ) (chunk : Vec Entry A) (d : Entry) (halved : IsHalved e chunks low high) (least : low ≤ middle) (most : middle < high)
      (there : slice_get chunks middle ≡ Some chunk) (all : AreChunks chunks) where
    own : IsChunk chunk
    own = chunk_at IsChunk chunks middle chunk there all

    pub halved_down : comes_before e (get_or chunk.items 0 d) ≡ true → IsHalved e chunks low middle
    halved_down before = record {
      some = halved.some;
      order = least;
      within = omega (arith, most, halved.within);
      from = halved.from;
      to = head_at (λ y. comes_before e y ≡ true) chunks middle chunk d there own.0 before;
    }

    pub halved_up : comes_before e (get_or chunk.items 0 d) ≡ false → IsHalved e chunks (middle + 1) high
    halved_up after = record {
      some = omega arith;
      order = omega (arith, most);
      within = halved.within;
      from = λ more. subst (λ n. AtHead (λ y. comes_before e y ≡ false) (entries_of (drop n chunks))) (let same : middle ≡ middle + 1 - 1 = omega arith in same)
          (head_at (λ y. comes_before e y ≡ false) chunks middle chunk d there own.0 after);
      to = halved.to;
    }

  pub halved_ends : (e : Entry) (chunks : List (Vec Entry A)) (low high : ℕ) → IsHalved e chunks low high → high ≤ low → IsHome e chunks (low - 1)
  halved_ends e chunks low high halved over = record {
    within = omega (arith, halved.some, halved.order, halved.within);
    from = λ more. halved.from (omega (arith, more));
    to = subst (λ n. AtHead (λ y. comes_before e y ≡ true) (entries_of (drop n chunks))) (let same : high ≡ low - 1 + 1 = omega (arith, halved.some, halved.order, over) in same) halved.to;
  }

  -- the edits at the chunk that an entry belongs to
  length_take : (chunks : List (Vec Entry A)) (place : ℕ) → 0 < length (entries_of (take place chunks)) → 0 < place
  length_take chunks zero some = absurd (omega (arith, some))
  length_take chunks (suc place) some = omega arith

  module _ (e : Entry) (chunks : List (Vec Entry A)) (place : ℕ) (chunk : Vec Entry A) (home : IsHome e chunks place) (read : chunk ≡ get_or chunks place chunk)
      (order : AreInOrder (entries_of chunks)) (all : AreChunks chunks) where
    there : slice_get chunks place ≡ Some chunk
    there = slice_get_read chunks (length chunks) place chunk refl home.within read

    pub home_chunk : IsChunk chunk
    home_chunk = chunk_at IsChunk chunks place chunk there all

    pub home_few : length chunk.items ≤ length (entries_of chunks)
    home_few = omega (
      arith,
      ap length (around chunks place chunk there),
      length-append (entries_of (take place chunks)) (chunk.items ++ entries_of (drop (suc place) chunks)),
      length-append chunk.items (entries_of (drop (suc place) chunks)),
    )

    rises : AreInOrder (entries_of (take place chunks) ++ (chunk.items ++ entries_of (drop (suc place) chunks)))
    rises = subst AreInOrder (around chunks place chunk there) order

    to_behind : AtHead (λ y. comes_before e y ≡ true) (entries_of (drop (suc place) chunks))
    to_behind = subst (λ n. AtHead (λ y. comes_before e y ≡ true) (entries_of (drop n chunks))) (let same : place + 1 ≡ suc place = omega arith in same) home.to

    from_front : 0 < length (entries_of (take place chunks)) → AtHead (λ y. comes_before e y ≡ false) (chunk.items ++ entries_of (drop (suc place) chunks))
    from_front some = subst (AtHead (λ y. comes_before e y ≡ false)) (behind_place chunks place chunk there) (home.from (length_take chunks place some))

    pub home_order : AreInOrder chunk.items
    home_order = own_order e (entries_of (take place chunks)) chunk.items (entries_of (drop (suc place) chunks)) rises home_chunk.0 to_behind

    home_put : with_entry e (entries_of chunks) ≡ entries_of (take place chunks) ++ (with_entry e chunk.items ++ entries_of (drop (suc place) chunks))
    home_put = ap (with_entry e) (around chunks place chunk there)
        ∙ put_between e (entries_of (take place chunks)) chunk.items (entries_of (drop (suc place) chunks)) rises home_chunk.0 to_behind from_front

    pub put_one : (new : Vec Entry A) → new.items ≡ with_entry e chunk.items → entries_of (set chunks place new) ≡ with_entry e (entries_of chunks)
    put_one new is =
        around_set chunks place chunk new there ∙ ap (λ l. entries_of (take place chunks) ++ (l ++ entries_of (drop (suc place) chunks))) is ∙ sym home_put

    pub put_two : (new later : Vec Entry A) (next : ℕ) → next ≡ place + 1 → new.items ++ later.items ≡ with_entry e chunk.items
        → entries_of (insert (set chunks place new) next later) ≡ with_entry e (entries_of chunks)
    put_two new later next next_is is =
        ap (λ n. entries_of (insert (set chunks place new) n later)) (let same : next ≡ suc place = omega (arith, next_is) in same)
        ∙ around_more chunks place chunk new later there ∙ ap (λ l. entries_of (take place chunks) ++ (l ++ entries_of (drop (suc place) chunks))) is ∙ sym home_put

    pub home_has : Has e (entries_of chunks) → Has e chunk.items
    home_has given =
        has_home e (entries_of (take place chunks)) chunk.items (entries_of (drop (suc place) chunks)) rises home_chunk.0 to_behind from_front
        (subst (Has e) (around chunks place chunk there) given)

    home_taken : (new : List Entry) → Has e (entries_of chunks) → with_entry e new ≡ chunk.items
        → with_entry e (entries_of (take place chunks) ++ (new ++ entries_of (drop (suc place) chunks))) ≡ entries_of chunks
    home_taken new given is =
        taken_between e (entries_of (take place chunks)) chunk.items (entries_of (drop (suc place) chunks)) rises home_chunk.0 to_behind new (home_has given) is
        ∙ sym (around chunks place chunk there)

    pub taken_one : (new : Vec Entry A) → Has e (entries_of chunks) → with_entry e new.items ≡ chunk.items → with_entry e (entries_of (set chunks place new)) ≡ entries_of chunks
    taken_one new given is = ap (with_entry e) (around_set chunks place chunk new there) ∙ home_taken new.items given is

    pub taken_whole : (new : Vec Entry A) → Has e (entries_of chunks) → with_entry e new.items ≡ chunk.items → new.items ≡ []
        → with_entry e (entries_of (remove (set chunks place new) place)) ≡ entries_of chunks
    taken_whole new given is none =
        ap (with_entry e) (around_none chunks place chunk new there ∙ ap (λ l. entries_of (take place chunks) ++ (l ++ entries_of (drop (suc place) chunks))) (sym none))
        ∙ home_taken new.items given is

  -- the chunks one after another
  next_chunk : (chunks : List (Vec Entry A)) (place : ℕ) (d : Vec Entry A) → place < length chunks → drop place chunks ≡ get_or chunks place d ∷ drop (place + 1) chunks
  next_chunk chunks place d within = by chunks place within ∙ ap (λ n. get_or chunks place d ∷ drop n chunks) (sym (add-one place))
    where
      by : (all : List (Vec Entry A)) (n : ℕ) → n < length all → drop n all ≡ get_or all n d ∷ drop (suc n) all
      by [] n less = absurd (omega arith)
      by (first ∷ others) zero less = refl
      by (first ∷ others) (suc n) less = by others n (omega arith)

  pub behind_next : (chunks : List (Vec Entry A)) (place : ℕ) (d : Vec Entry A) → place < length chunks
      → entries_of (drop place chunks) ≡ (get_or chunks place d).items ++ entries_of (drop (place + 1) chunks)
  behind_next chunks place d within = ap entries_of (next_chunk chunks place d within)

  pub starts_next : (chunks : List (Vec Entry A)) (place before : ℕ) (d : Vec Entry A) → place < length chunks
      → starts_of before (drop place chunks) ≡ before ∷ starts_of (before + length (get_or chunks place d).items) (drop (place + 1) chunks)
  starts_next chunks place before d within = ap (starts_of before) (next_chunk chunks place d within)

  pub none_behind : (chunks : List (Vec Entry A)) → entries_of (drop (length chunks) chunks) ≡ []
  none_behind [] = refl
  none_behind (first ∷ others) = none_behind others

  pub no_start_behind : (chunks : List (Vec Entry A)) (before : ℕ) → starts_of before (drop (length chunks) chunks) ≡ []
  no_start_behind [] before = refl
  no_start_behind (first ∷ others) before = no_start_behind others before

  pub starts_length : (chunks : List (Vec Entry A)) (before : ℕ) → length (starts_of before chunks) ≡ length chunks
  starts_length [] before = refl
  starts_length (first ∷ others) before = ap suc (starts_length others (before + length first.items))

  -- counting on
  pub record IsCounting (chunks : List (Vec Entry A)) (place before : ℕ) (starts : List ℕ) : Type 0 where
    pub starts_are : starts ++ starts_of before (drop place chunks) ≡ starts_of 0 chunks
    pub count_is : before + length (entries_of (drop place chunks)) ≡ length (entries_of chunks)

  pub counting_starts : (chunks : List (Vec Entry A)) → IsCounting chunks 0 0 []
  counting_starts chunks = record { starts_are = refl; count_is = omega arith }

  pub counting_next : (chunks : List (Vec Entry A)) (place before next : ℕ) (starts made : List ℕ) (d : Vec Entry A) → place < length chunks → IsCounting chunks place before starts
      → made ≡ starts ++ before ∷ [] → next ≡ before + length (get_or chunks place d).items → IsCounting chunks (place + 1) next made
  counting_next chunks place before next starts made d within counting made_is next_is = record {
    starts_are = ap (λ l. l ++ starts_of next (drop (place + 1) chunks)) made_is ∙ append_assoc starts (before ∷ []) (starts_of next (drop (place + 1) chunks))
        ∙ ap (λ n. starts ++ before ∷ starts_of n (drop (place + 1) chunks)) next_is ∙ ap (λ l. starts ++ l) (sym (starts_next chunks place before d within)) ∙ counting.starts_are;
    count_is = omega (
      arith,
      next_is,
      counting.count_is,
      ap length (behind_next chunks place d within),
      length-append (get_or chunks place d).items (entries_of (drop (place + 1) chunks)),
    );
  }

  pub counting_within : (chunks : List (Vec Entry A)) (place before : ℕ) (starts : List ℕ) (d : Vec Entry A) → place < length chunks → IsCounting chunks place before starts
      → before + length (get_or chunks place d).items ≤ length (entries_of chunks)
  counting_within chunks place before starts d within counting = omega (
    arith,
    counting.count_is,
    ap length (behind_next chunks place d within),
    length-append (get_or chunks place d).items (entries_of (drop (place + 1) chunks)),
  )

  pub counting_ends : (chunks : List (Vec Entry A)) (place before : ℕ) (starts : List ℕ) → place ≡ length chunks → IsCounting chunks place before starts
      → (starts ≡ starts_of 0 chunks) × (before ≡ length (entries_of chunks))
  counting_ends chunks place before starts over counting = (
    with_none starts ∙ ap (λ l. starts ++ l) (sym (ap (λ n. starts_of before (drop n chunks)) over ∙ no_start_behind chunks before)) ∙ counting.starts_are,
    omega (arith, counting.count_is, ap length (ap (λ n. entries_of (drop n chunks)) over ∙ none_behind chunks)),
  )
    where
      with_none : (xs : List ℕ) → xs ≡ xs ++ []
      with_none [] = refl
      with_none (x ∷ xs) = ap (λ l. x ∷ l) (with_none xs)

  -- the chunk of a rank
  starts_least : (chunks : List (Vec Entry A)) (before place : ℕ) → place < length chunks → before ≤ get_or (starts_of before chunks) place 0
  starts_least [] before place within = absurd (omega arith)
  starts_least (first ∷ others) before zero within = omega arith
  starts_least (first ∷ others) before (suc place) within = omega (arith, starts_least others (before + length first.items) place (omega arith))

  get_held : (chunks : List (Vec Entry A)) (before rank place : ℕ) (d : Vec Entry A) → before ≤ rank → place < length chunks → get_or (starts_of before chunks) place 0 ≤ rank
      → (suc place < length chunks → rank < get_or (starts_of before chunks) (suc place) 0)
      → slice_get (entries_of chunks) (rank - before) ≡ slice_get (get_or chunks place d).items (rank - get_or (starts_of before chunks) place 0)
  get_held [] before rank place d least within from to = absurd (omega arith)
  get_held (first ∷ []) before rank zero d least within from to = get_alone first.items (rank - before)
  get_held (first ∷ (next ∷ others)) before rank zero d least within from to =
      let less : rank < before + length first.items = to (omega arith) in get_front first.items (entries_of (next ∷ others)) (rank - before) (omega (arith, less, least))
  get_held (first ∷ others) before rank (suc place) d least within from to =
      let later = starts_least others (before + length first.items) place (omega arith) in
      get_behind first.items (entries_of others) (rank - before) (rank - (before + length first.items)) (omega (arith, later, from))
      ∙ get_held others (before + length first.items) rank place d (omega (arith, later, from)) (omega arith) from (λ more. to (omega (arith, more)))

  pub held_get : (chunks : List (Vec Entry A)) (starts : List ℕ) (rank place start : ℕ) (chunk : Vec Entry A) (got : Option Entry) → starts ≡ starts_of 0 chunks → chunk ≡ get_or chunks place chunk
      → start ≡ get_or starts place start → HoldsRank starts rank place → got ≡ slice_get chunk.items (rank - start) → got ≡ slice_get (entries_of chunks) rank
  held_get chunks starts rank place start chunk got starts_are read start_is holds got_is =
      let counted : HoldsRank (starts_of 0 chunks) rank place = subst (λ xs. HoldsRank xs rank place) starts_are holds in
      got_is ∙ ap (λ n. slice_get chunk.items (rank - n)) (start_is ∙ same_start starts place start 0 holds.within)
      ∙ ap (λ xs. slice_get chunk.items (rank - get_or xs place 0)) starts_are
      ∙ ap (λ (v : Vec Entry A). slice_get v.items (rank - get_or (starts_of 0 chunks) place 0)) read
      ∙ sym (get_held chunks 0 rank place chunk (omega arith) (omega (arith, counted.within, starts_length chunks 0)) counted.from
      (λ more. subst (λ n. rank < get_or (starts_of 0 chunks) n 0) (add-one place) (counted.to (omega (arith, more, starts_length chunks 0)))))
      ∙ ap (slice_get (entries_of chunks)) (let same : rank - 0 ≡ rank = omega arith in same)

  pub none_held : (chunks : List (Vec Entry A)) (rank : ℕ) → length (starts_of 0 chunks) ≡ 0 → None ≡ slice_get (entries_of chunks) rank
  none_held [] rank none = refl
  none_held (first ∷ others) rank none = absurd (omega (arith, none))

  pub first_start : (chunks : List (Vec Entry A)) → get_or (starts_of 0 chunks) 0 0 ≡ 0
  first_start [] = refl
  first_start (first ∷ others) = refl
