-- The search by halves for the chunks that begin before a bound, and how many entries reach the bound by it.
use Rattle.std.proofs.Common.{◌≡◌, ℕ, zero, suc, ◌+◌, ◌-◌, ◌*◌, ◌/◌, ◌^◌, ◌<◌, ◌≤◌, true, false, cond, List, [], ◌∷◌, ◌++◌, length, take, drop, get_or, refl, ap, sym, ◌∙◌, arith, subst, length-append, Some}
use Rattle.std.specs.Prelude.{Vec, slice_get}
use Rattle.std.proofs.lemmas.Option.{slice_get_read}
use Rattle.retro_base.specs.declared.row.Entry.{Entry}
use Rattle.retro_base.specs.EntriesInOrder.{AreInOrder}
use Rattle.retro_base.specs.State.{comes_before}
use Rattle.pq_fusion.specs.Chunks.{AtHead, AreChunks, AreRanked, BeginBefore, IsChunk, entries_of, most_in_chunk, starts_of}
use Rattle.pq_fusion.specs.Searches.{SearchesList, SearchesWithin, VisitsUpTo}
use Rattle.pq_fusion.specs.EntryCounts.{reaching}
use Rattle.pq_fusion.proofs.Order.{not_earlier}
use Rattle.pq_fusion.proofs.Split.{order_back, order_front}
use Rattle.pq_fusion.proofs.Counted.{reaching_all, reaching_few}
use Rattle.pq_fusion.proofs.Searched.{IsLeft, half_left}
use Rattle.pq_fusion.proofs.Chunked.{around, behind_place, chunk_at, head_at, head_past, least_at, same_start, starts_length}

-- entries that stand one behind the other
reaching_append : (bound : Entry) (xs ys : List Entry) → reaching bound (xs ++ ys) ≡ reaching bound xs + reaching bound ys
reaching_append bound [] ys = omega arith
reaching_append bound (x ∷ xs) ys = omega (arith, reaching_append bound xs ys)

reaching_behind : (bound : Entry) (xs : List Entry) → AreInOrder xs → AtHead (λ y. comes_before y bound ≡ false) xs → reaching bound xs ≡ length xs
reaching_behind bound [] order head = refl
reaching_behind bound (x ∷ xs) order head = rw head (omega (arith, reaching_all bound x xs order.0 head))

reaching_front : (bound y : Entry) (xs ys : List Entry) → AreInOrder (xs ++ y ∷ ys) → comes_before y bound ≡ true → reaching bound (xs ++ y ∷ ys) ≡ reaching bound (y ∷ ys)
reaching_front bound y [] ys order before = refl
reaching_front bound y (x ∷ xs) ys order before = elim (comes_before x bound) as (λ t. comes_before x bound ≡ t → cond t 0 1 + reaching bound (xs ++ y ∷ ys) ≡ reaching bound (y ∷ ys)) [
  | true ↦ λ own. omega (arith, reaching_front bound y xs ys order.1 before)
  | false ↦ λ own. let wrong : true ≡ false = sym before ∙ not_earlier bound x y own (least_at x y xs ys order.0) in absurd (cc)
] refl

reaching_past : (bound : Entry) (xs ys : List Entry) → AreInOrder (xs ++ ys) → 0 < length ys → AtHead (λ y. comes_before y bound ≡ true) ys → reaching bound (xs ++ ys) ≡ reaching bound ys
reaching_past bound xs [] order some head = absurd (omega (arith, some))
reaching_past bound xs (y ∷ ys) order some head = reaching_front bound y xs ys order head

-- what is counted of a list in chunks: those behind the last chunk that begins before the bound, and those of this chunk that reach
pub record IsCounted (bound : Entry) (seen own : List Entry) (start count : ℕ) : Type 0 where
  pub order : AreInOrder own
  pub part : length own ≤ length seen
  pub filled : length own ≤ most_in_chunk
  pub start_within : start ≤ count
  pub own_within : length own ≤ count - start
  pub counted : count - start - length own + reaching bound own ≡ reaching bound seen
  pub within : count - start - length own + reaching bound own ≤ length seen

module _ {A : Type 0} where
  -- the search by halves, with its turns counted
  pub record IsSoughtAmong (bound : Entry) (chunks : List (Vec Entry A)) (low high start steps : ℕ) : Type 0 where
    pub order : low ≤ high
    pub within : high ≤ length chunks
    pub from : 0 < low → AtHead (λ y. comes_before y bound ≡ true) (entries_of (drop (low - 1) chunks))
    pub to : AtHead (λ y. comes_before y bound ≡ false) (entries_of (drop high chunks))
    pub none_lost : start ≤ steps
    pub visits : (k : ℕ) → length chunks < 2 ^ k → IsLeft (high - low) start steps k

  pub among_starts : (bound : Entry) (chunks : List (Vec Entry A)) (steps : ℕ) → IsSoughtAmong bound chunks 0 (length chunks) steps steps
  among_starts bound chunks steps = record {
    order = omega arith;
    within = omega arith;
    from = λ some. absurd (omega (arith, some));
    to = head_past (λ y. comes_before y bound ≡ false) chunks;
    none_lost = omega arith;
    visits = λ k small. record { turns = k; narrow = omega (arith, small); few = omega arith };
  }

  module _ (bound : Entry) (chunks : List (Vec Entry A)) (low high start steps middle : ℕ) (chunk : Vec Entry A) (d : Entry) (sought : IsSoughtAmong bound chunks low high start steps)
      (some : low < high) (middle_is : middle ≡ low + (high - low) / 2) (there : slice_get chunks middle ≡ Some chunk) (all : AreChunks chunks) where
    own : IsChunk chunk
    own = chunk_at IsChunk chunks middle chunk there all

    pub among_upper : (next : ℕ) → next ≡ steps + 1 → comes_before (get_or chunk.items 0 d) bound ≡ true → IsSoughtAmong bound chunks (middle + 1) high start next
    among_upper next one before = record {
      order = omega (arith, middle_is);
      within = sought.within;
      from = λ more. subst (λ n. AtHead (λ y. comes_before y bound ≡ true) (entries_of (drop n chunks))) (let same : middle ≡ middle + 1 - 1 = omega arith in same)
          (head_at (λ y. comes_before y bound ≡ true) chunks middle chunk d there own.0 before);
      to = sought.to;
      none_lost = omega (arith, sought.none_lost, one);
      visits = λ k small. subst (λ n. IsLeft (high - (middle + 1)) start n k) (sym one)
          (half_left (high - low) start steps k (omega (arith, some)) (sought.visits k small) (high - (middle + 1)) (omega (arith, middle_is)));
    }

    pub among_lower : (next : ℕ) → next ≡ steps + 1 → comes_before (get_or chunk.items 0 d) bound ≡ false → IsSoughtAmong bound chunks low middle start next
    among_lower next one after = record {
      order = omega (arith, middle_is);
      within = omega (arith, middle_is, sought.within);
      from = sought.from;
      to = head_at (λ y. comes_before y bound ≡ false) chunks middle chunk d there own.0 after;
      none_lost = omega (arith, sought.none_lost, one);
      visits = λ k small. subst (λ n. IsLeft (middle - low) start n k) (sym one)
          (half_left (high - low) start steps k (omega (arith, some)) (sought.visits k small) (middle - low) (omega (arith, middle_is)));
    }

  pub among_ends : (bound : Entry) (chunks : List (Vec Entry A)) (low high start steps : ℕ) → IsSoughtAmong bound chunks low high start steps → high ≤ low → BeginBefore bound chunks low
  among_ends bound chunks low high start steps sought over = record {
    within = omega (arith, sought.order, sought.within);
    from = sought.from;
    to = subst (λ n. AtHead (λ y. comes_before y bound ≡ false) (entries_of (drop n chunks))) (let same : high ≡ low = omega (arith, sought.order, over) in same) sought.to;
  }

  pub among_visits : (bound : Entry) (chunks : List (Vec Entry A)) (low high start steps : ℕ) → IsSoughtAmong bound chunks low high start steps
      → (k : ℕ) → length chunks < 2 ^ k → VisitsUpTo (1 * k) start steps
  among_visits bound chunks low high start steps sought k small =
      let left = sought.visits k small in
      record { none_lost = sought.none_lost; few = omega (arith, left.few) }

  -- no more chunks than entries
  pub chunks_few : (chunks : List (Vec Entry A)) → AreChunks chunks → length chunks ≤ length (entries_of chunks)
  chunks_few [] all = omega arith
  chunks_few (first ∷ others) all = omega (arith, chunks_few others all.1, all.0.0, length-append first.items (entries_of others))

  -- how many entries stand before a chunk
  pub start_at : (chunks : List (Vec Entry A)) (before place : ℕ) → place < length chunks → get_or (starts_of before chunks) place 0 ≡ before + length (entries_of (take place chunks))
  start_at [] before place within = absurd (omega (arith, within))
  start_at (first ∷ others) before zero within = omega arith
  start_at (first ∷ others) before (suc place) within = omega (
    arith,
    start_at others (before + length first.items) place (omega (arith, within)),
    length-append first.items (entries_of (take place others)),
  )

  -- none begins before the bound: all reach it
  all_reach : (bound : Entry) (chunks : List (Vec Entry A)) → AreInOrder (entries_of chunks) → BeginBefore bound chunks 0 → reaching bound (entries_of chunks) ≡ length (entries_of chunks)
  all_reach bound chunks order begun = reaching_behind bound (entries_of chunks) order begun.to

  -- the last chunk that begins before the bound: of the entries before it none reach, and all of those behind it
  module _ (bound : Entry) (chunks : List (Vec Entry A)) (begun place : ℕ) (chunk : Vec Entry A) (found : BeginBefore bound chunks begun) (place_is : begun ≡ suc place)
      (read : chunk ≡ get_or chunks place chunk) (order : AreInOrder (entries_of chunks)) (all : AreChunks chunks) where
    inside : place < length chunks
    inside = omega (arith, place_is, found.within)

    there : slice_get chunks place ≡ Some chunk
    there = slice_get_read chunks (length chunks) place chunk refl inside read

    abbrev front : List Entry
    front = entries_of (take place chunks)

    abbrev behind : List Entry
    behind = entries_of (drop (suc place) chunks)

    last_begun : IsChunk chunk
    last_begun = chunk_at IsChunk chunks place chunk there all

    rises : AreInOrder (front ++ (chunk.items ++ behind))
    rises = subst AreInOrder (around chunks place chunk there) order

    last_order : AreInOrder chunk.items
    last_order = order_front chunk.items behind (order_back front (chunk.items ++ behind) rises)

    to_behind : AtHead (λ y. comes_before y bound ≡ false) behind
    to_behind = subst (λ n. AtHead (λ y. comes_before y bound ≡ false) (entries_of (drop n chunks))) place_is found.to

    from_own : AtHead (λ y. comes_before y bound ≡ true) (chunk.items ++ behind)
    from_own = subst (AtHead (λ y. comes_before y bound ≡ true)) (behind_place chunks place chunk there)
        (subst (λ n. AtHead (λ y. comes_before y bound ≡ true) (entries_of (drop n chunks))) (let same : begun - 1 ≡ place = omega (arith, place_is) in same) (found.from (omega (arith, place_is))))

    reached : reaching bound (entries_of chunks) ≡ reaching bound chunk.items + length behind
    reached = omega (
      arith,
      ap (reaching bound) (around chunks place chunk there),
      reaching_past bound front (chunk.items ++ behind) rises (omega (arith, last_begun.0, length-append chunk.items behind)) from_own,
      reaching_append bound chunk.items behind,
      reaching_behind bound behind (order_back chunk.items behind (order_back front (chunk.items ++ behind) rises)) to_behind,
    )

    by_start : (starts : List ℕ) (start : ℕ) → starts ≡ starts_of 0 chunks → start ≡ get_or starts place start
        → (start + length chunk.items ≤ length (entries_of chunks))
        × (length (entries_of chunks) - start - length chunk.items + reaching bound chunk.items ≡ reaching bound (entries_of chunks))
    by_start starts start starts_are start_is =
        let start_here : start ≡ get_or (starts_of 0 chunks) place 0 =
        start_is ∙ ap (λ xs. get_or xs place start) starts_are ∙ same_start (starts_of 0 chunks) place start 0 (omega (arith, inside, starts_length chunks 0)) in
        let own_start : start ≡ length front = omega (arith, start_here, start_at chunks 0 place inside) in
        let sum = ap length (around chunks place chunk there) in (
          omega (arith, own_start, sum, length-append front (chunk.items ++ behind), length-append chunk.items behind),
          omega (arith, own_start, sum, length-append front (chunk.items ++ behind), length-append chunk.items behind, reached),
        )

  module _ (bound : Entry) (chunks given : List (Vec Entry A)) (starts : List ℕ) (count begun : ℕ) (seen : List Entry) (kept : AreRanked chunks starts count) (seen_is : entries_of chunks ≡ seen)
      (given_is : given ≡ chunks) (found : BeginBefore bound given begun) where
    own_found : BeginBefore bound chunks begun
    own_found = subst (λ xs. BeginBefore bound xs begun) given_is found

    pub all_counted : begun ≡ 0 → count ≡ reaching bound seen
    all_counted none =
        kept.total ∙ sym (all_reach bound chunks kept.order (subst (BeginBefore bound chunks) none own_found)) ∙ ap (reaching bound) seen_is

    pub start_inside : 0 < begun → begun - 1 < length starts
    start_inside some = omega (arith, some, own_found.within, ap length kept.counted, starts_length chunks 0)

    pub last_counted : (chunk : Vec Entry A) (own : List Entry) (start : ℕ) → 0 < begun → chunk ≡ get_or chunks (begun - 1) chunk → start ≡ get_or starts (begun - 1) start → own ≡ chunk.items
        → IsCounted bound seen own start count
    last_counted chunk own start some read start_is own_is =
        let place_is : begun ≡ suc (begun - 1) = omega (arith, some) in
        let sums = by_start bound chunks begun (begun - 1) chunk own_found place_is read kept.order kept.filled starts start kept.counted start_is in
        let chunk_is = last_begun bound chunks begun (begun - 1) chunk own_found place_is read kept.order kept.filled in
        let total : count ≡ length (entries_of chunks) = kept.total in
        let all : length (entries_of chunks) ≡ length seen = ap length seen_is in
        let some_is : length own ≡ length chunk.items = ap length own_is in
        let reach_is : reaching bound own ≡ reaching bound chunk.items = ap (reaching bound) own_is in
        let seen_reach : reaching bound (entries_of chunks) ≡ reaching bound seen = ap (reaching bound) seen_is in
        record {
          order = subst AreInOrder (sym own_is) (last_order bound chunks begun (begun - 1) chunk own_found place_is read kept.order kept.filled);
          part = omega (arith, sums.0, all, some_is);
          filled = omega (arith, some_is, chunk_is.1);
          start_within = omega (arith, sums.0, total);
          own_within = omega (arith, sums.0, total, some_is);
          counted = omega (arith, sums.1, total, some_is, reach_is, seen_reach);
          within = omega (arith, sums.0, sums.1, total, all, some_is, reach_is, seen_reach, reaching_few bound seen);
        }

    -- the visits of one search and of both: a chunk has no more entries than all of them, nor than fill it
    pub one_search : (start end : ℕ) → SearchesWithin 1 (length given) start end → SearchesList (length seen) start end
    one_search start end visits k small =
        let fewer = visits k (omega (arith, small, ap length given_is, chunks_few chunks kept.filled, ap length seen_is)) in
        record { none_lost = fewer.none_lost; few = omega (arith, fewer.few) }

    pub two_searches : (own : List Entry) (start next end : ℕ) → length own ≤ length seen → length own ≤ most_in_chunk → SearchesWithin 1 (length given) start next
        → SearchesWithin 1 (length own) next end → SearchesList (length seen) start end
    two_searches own start next end less filled first second k small =
        let one = first k (omega (arith, small, ap length given_is, chunks_few chunks kept.filled, ap length seen_is)) in
        let other = second k (omega (arith, small, less)) in
        let last = second 9 (omega (arith, filled)) in
        record { none_lost = omega (arith, one.none_lost, other.none_lost); few = omega (arith, one.few, other.few, last.few) }
