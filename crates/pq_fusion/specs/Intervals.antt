-- Where in a list of chunks a place may lie, while it is sought.
use Rattle.std.specs.Prelude.{◌≡◌, ℕ, ◌+◌, ◌-◌, ◌<◌, ◌≤◌, ◌⊎◌, min, max, List, Vec, length, take}
use Rattle.retro_base.specs.declared.row.Entry.{Entry}
use Rattle.pq_fusion.specs.declared.bound.Bound.TheVariants.{At}
use Rattle.pq_fusion.specs.declared.interval.Interval.{Interval}
use Rattle.pq_fusion.specs.declared.interval.Middle.{Middle}
use Rattle.pq_fusion.specs.Bounds.{at_rank}
use Rattle.pq_fusion.specs.Chunks.{AreChunks, entries_of, starts_of}

-- chunks, and how many entries stand before each where there are several; one alone may be of any length
pub record AreLent {A : Type 0} (chunks : List (Vec Entry A)) (starts : List ℕ) : Type 0 where
  pub filled : 1 < length chunks → AreChunks chunks
  pub counted : 1 < length chunks → starts ≡ starts_of 0 chunks

-- how many entries stand before a chunk
abbrev pub before_chunk : {A : Type 0} → List (Vec Entry A) → ℕ → ℕ
before_chunk chunks place = length (entries_of (take place chunks))

-- a place from `low` to `high`, in the chunks from the first on to before the last
pub record IsInterval {A : Type 0} (chunks : List (Vec Entry A)) (interval : Interval) : Type 0 where
  pub some : interval.low < interval.high → interval.first < interval.last
  pub within : interval.last ≤ length chunks
  pub start_is : interval.start ≡ before_chunk chunks interval.first
  pub from : interval.start ≤ interval.low
  pub to : interval.high ≤ before_chunk chunks interval.last

-- the part of an interval before its middle, and the one behind it
abbrev pub before_middle : Interval → Middle → Interval
before_middle interval middle = record { first = interval.first; last = middle.end; start = interval.start; low = interval.low; high = min interval.high middle.place }

abbrev pub behind_middle : Interval → Middle → Interval
behind_middle interval middle = record { first = middle.chunk; last = interval.last; start = middle.start; low = max interval.low (middle.place + 1); high = interval.high }

-- a part of an interval has half as many chunks, or half as many places
abbrev pub IsHalf : Interval → Interval → Type 0
IsHalf interval part = ((1 < interval.last - interval.first) × ((part.last - part.first) + (part.last - part.first) ≤ interval.last - interval.first + 1)
    × (part.high - part.low ≤ interval.high - interval.low))
    ⊎ ((0 < interval.high - interval.low) × ((part.high - part.low) + (part.high - part.low) ≤ interval.high - interval.low)
    × (part.last - part.first ≤ interval.last - interval.first))

-- an entry that stands in an interval, so that both parts beside it are half of it
pub record IsMiddle {A : Type 0} (chunks : List (Vec Entry A)) (interval : Interval) (middle : Middle) : Type 0 where
  pub there : at_rank (entries_of chunks) middle.place ≡ At middle.entry
  pub inside : middle.place < length (entries_of chunks)
  pub before : IsInterval chunks (before_middle interval middle)
  pub behind : IsInterval chunks (behind_middle interval middle)
  pub before_half : IsHalf interval (before_middle interval middle)
  pub behind_half : IsHalf interval (behind_middle interval middle)
