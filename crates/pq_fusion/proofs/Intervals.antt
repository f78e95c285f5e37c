-- The middle of an interval in a list of chunks.
use Rattle.std.proofs.Common.{◌≡◌, ℕ, zero, suc, ◌+◌, ◌-◌, ◌/◌, ◌<◌, ◌≤◌, inl, inr, List, [], ◌∷◌, ◌++◌, length, take, drop, get_or, refl, ap, sym, ◌∙◌, arith, length-append, add-one, Some}
use Rattle.std.specs.Prelude.{Vec, slice_get}
use Rattle.std.proofs.lemmas.Option.{slice_get_read}
use Rattle.retro_base.specs.declared.row.Entry.{Entry}
use Rattle.pq_fusion.specs.declared.bound.Bound.TheVariants.{At}
use Rattle.pq_fusion.specs.declared.interval.Interval.{Interval}
use Rattle.pq_fusion.specs.Bounds.{at_rank}
use Rattle.pq_fusion.specs.Chunks.{IsChunk, entries_of, starts_of}
use Rattle.pq_fusion.specs.Intervals.{AreLent, IsMiddle, IsInterval, before_chunk}
use Rattle.pq_fusion.proofs.Chunked.{around, chunk_at, starts_length}
use Rattle.pq_fusion.proofs.Begun.{start_at}

at_front : (xs ys : List Entry) (n : ℕ) (d : Entry) → n < length xs → at_rank (xs ++ ys) n ≡ At (get_or xs n d)
at_front [] ys n d within = absurd (omega (arith, within))
at_front (x ∷ xs) ys zero d within = refl
at_front (x ∷ xs) ys (suc n) d within = at_front xs ys n d (omega (arith, within))

at_behind : (xs ys : List Entry) (n place : ℕ) → place ≡ length xs + n → at_rank (xs ++ ys) place ≡ at_rank ys n
at_behind [] ys n place is = ap (at_rank ys) (let same : place ≡ n = omega (arith, is) in same)
at_behind (x ∷ xs) ys n zero is = absurd (omega (arith, is))
at_behind (x ∷ xs) ys n (suc place) is = at_behind xs ys n place (omega (arith, is))

module _ {A : Type 0} where
  -- one chunk more
  pub next_chunk : (chunks : List (Vec Entry A)) (place : ℕ) (chunk : Vec Entry A) → slice_get chunks place ≡ Some chunk
      → before_chunk chunks (place + 1) ≡ before_chunk chunks place + length chunk.items
  next_chunk chunks place chunk there = ap (before_chunk chunks) (add-one place) ∙ by chunks place there
    where
      by : (all : List (Vec Entry A)) (n : ℕ) → slice_get all n ≡ Some chunk → before_chunk all (suc n) ≡ before_chunk all n + length chunk.items
      by [] n here = absurd (cc)
      by (first ∷ others) zero here = let same : first ≡ chunk = cc in omega (arith, length-append first.items [], ap (λ (c : Vec Entry A). length c.items) same)
      by (first ∷ others) (suc n) here = omega (
        arith,
        by others n here,
        length-append first.items (entries_of (take (suc n) others)),
        length-append first.items (entries_of (take n others)),
      )

  module _ (chunks : List (Vec Entry A)) (place n rank : ℕ) (chunk : Vec Entry A) (d : Entry) (there : slice_get chunks place ≡ Some chunk) (within : n < length chunk.items)
      (is : rank ≡ before_chunk chunks place + n) where
    pub in_chunk : at_rank (entries_of chunks) rank ≡ At (get_or chunk.items n d)
    in_chunk =
        ap (λ xs. at_rank xs rank) (around chunks place chunk there)
        ∙ at_behind (entries_of (take place chunks)) (chunk.items ++ entries_of (drop (suc place) chunks)) n rank is
        ∙ at_front chunk.items (entries_of (drop (suc place) chunks)) n d within

    pub in_all : rank < length (entries_of chunks)
    in_all = omega (
      arith,
      is,
      within,
      ap length (around chunks place chunk there),
      length-append (entries_of (take place chunks)) (chunk.items ++ entries_of (drop (suc place) chunks)),
      length-append chunk.items (entries_of (drop (suc place) chunks)),
    )

  module _ (chunks : List (Vec Entry A)) (starts : List ℕ) (interval : Interval) (lent : AreLent chunks starts) (sound : IsInterval chunks interval) (open_here : interval.low < interval.high) where
    -- several chunks are left: the middle one
    pub start_inside : (place : ℕ) → 1 < interval.last - interval.first → place ≡ interval.first + (interval.last - interval.first) / 2 → place < length starts
    start_inside place many place_is =
        let counted : starts ≡ starts_of 0 chunks = lent.counted (omega (arith, many, sound.within)) in
        omega (arith, place_is, many, sound.within, ap length counted, starts_length chunks 0)

    module _ (place start : ℕ) (chunk : Vec Entry A) (e : Entry) (many : 1 < interval.last - interval.first) (place_is : place ≡ interval.first + (interval.last - interval.first) / 2)
        (start_is : start ≡ get_or starts place 0) (read : chunk ≡ get_or chunks place chunk)
        (entry_is : e ≡ get_or (get_or chunks place chunk).items 0 e) where
      inside : place < length chunks
      inside = omega (arith, place_is, many, sound.within)

      there : slice_get chunks place ≡ Some chunk
      there = slice_get_read chunks (length chunks) place chunk refl inside read

      own : IsChunk chunk
      own = chunk_at IsChunk chunks place chunk there (lent.filled (omega (arith, many, sound.within)))

      start_here : start ≡ before_chunk chunks place
      start_here =
          let counted : starts ≡ starts_of 0 chunks = lent.counted (omega (arith, many, sound.within)) in
          omega (arith, start_is, ap (λ xs. get_or xs place 0) counted, start_at chunks 0 place inside)

      pub among_middle : IsMiddle chunks interval (record { chunk = place; end = place; start = start; place = start; entry = e })
      among_middle = record {
        there = in_chunk chunks place 0 start chunk e there own.0 (omega (arith, start_here)) ∙ ap At (ap (λ (v : Vec Entry A). get_or v.items 0 e) read ∙ sym entry_is);
        inside = in_all chunks place 0 start chunk e there own.0 (omega (arith, start_here));
        before = record {
          some = λ more. omega (arith, place_is, many);
          within = omega (arith, inside);
          start_is = sound.start_is;
          from = sound.from;
          to = omega (arith, start_here);
        };
        behind = record {
          some = λ more. omega (arith, place_is, many);
          within = sound.within;
          start_is = start_here;
          from = omega arith;
          to = sound.to;
        };
        before_half = inl (many, omega (arith, place_is), omega arith);
        behind_half = inl (many, omega (arith, place_is), omega arith);
      }

    -- one is left: the middle of its places
    module _ (place : ℕ) (chunk : Vec Entry A) (e : Entry) (one : interval.last - interval.first ≤ 1) (place_is : place ≡ interval.low + (interval.high - interval.low) / 2)
        (read : chunk ≡ get_or chunks interval.first chunk) (entry_is : e ≡ get_or (get_or chunks interval.first chunk).items (place - interval.start) e) where
      last_is : interval.last ≡ interval.first + 1
      last_is = omega (arith, one, sound.some open_here)

      first_there : slice_get chunks interval.first ≡ Some chunk
      first_there = slice_get_read chunks (length chunks) interval.first chunk refl (omega (arith, last_is, sound.within)) read

      end_is : before_chunk chunks interval.last ≡ interval.start + length chunk.items
      end_is = ap (before_chunk chunks) last_is ∙ next_chunk chunks interval.first chunk first_there ∙ ap (λ n. n + length chunk.items) (sym sound.start_is)

      place_from : interval.start ≤ place
      place_from = omega (arith, place_is, sound.from)

      place_inside : place - interval.start < length chunk.items
      place_inside = omega (arith, place_is, open_here, end_is, sound.from, sound.to)

      pub within_middle : IsMiddle chunks interval (record { chunk = interval.first; end = interval.last; start = interval.start; place = place; entry = e })
      within_middle = record {
        there = in_chunk chunks interval.first (place - interval.start) place chunk e first_there place_inside (omega (arith, place_from, sound.start_is))
            ∙ ap At (ap (λ (v : Vec Entry A). get_or v.items (place - interval.start) e) read ∙ sym entry_is);
        inside = in_all chunks interval.first (place - interval.start) place chunk e first_there place_inside (omega (arith, place_from, sound.start_is));
        before = record {
          some = λ more. sound.some open_here;
          within = sound.within;
          start_is = sound.start_is;
          from = sound.from;
          to = omega (arith, sound.to);
        };
        behind = record {
          some = λ more. sound.some open_here;
          within = sound.within;
          start_is = sound.start_is;
          from = omega (arith, sound.from);
          to = sound.to;
        };
        before_half = inr (omega (arith, open_here), omega (arith, place_is, open_here), omega arith);
        behind_half = inr (omega (arith, open_here), omega (arith, place_is, open_here), omega arith);
      }
