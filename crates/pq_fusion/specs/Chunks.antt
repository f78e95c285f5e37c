-- A list of entries in chunks that stand one behind the other.
use Rattle.std.specs.Prelude.{◌≡◌, ℕ, ◌+◌, ◌-◌, ◌<◌, ◌≤◌, true, false, List, [], ◌∷◌, Vec, length, drop, get_or}
use Rattle.std.specs.List.{AllByRecursion, flat_map}
use Rattle.retro_base.specs.declared.row.Entry.{Entry}
use Rattle.retro_base.specs.EntriesInOrder.{AreInOrder}
use Rattle.retro_base.specs.Limits.{most_rows}
use Rattle.retro_base.specs.State.{comes_before}

-- so many entries fill a chunk
abbrev pub most_in_chunk : ℕ
most_in_chunk = 256

-- a chunk has some entries, and not too many
abbrev pub IsChunk : {A : Type 0} → Vec Entry A → Type 0
IsChunk chunk = (0 < length chunk.items) × (length chunk.items ≤ most_in_chunk)

abbrev pub AreChunks : {A : Type 0} → List (Vec Entry A) → Type 0
AreChunks chunks = AllByRecursion IsChunk chunks

-- the entries of all chunks
abbrev pub entries_of : {A : Type 0} → List (Vec Entry A) → List Entry
entries_of chunks = flat_map (λ chunk. chunk.items) chunks

-- how many entries stand before each chunk, where so many stand before the first
abbrev pub starts_of : {A : Type 0} → ℕ → List (Vec Entry A) → List ℕ
starts_of before [] = []
starts_of before (chunk ∷ chunks) = before ∷ starts_of (before + length chunk.items) chunks

-- no fewer entries, and at most one more
abbrev pub IsOneMoreAtMost : List Entry → List Entry → Type 0
IsOneMoreAtMost before after = (length before ≤ length after) × (length after ≤ length before + 1)

-- the first entry is so, where there is one
abbrev pub AtHead : (Entry → Type 0) → List Entry → Type 0
AtHead P [] = Unit {0}
AtHead P (entry ∷ entries) = P entry

-- the chunk that an entry belongs to: it begins no later, unless it is the first, and the next one begins later
pub record IsHome {A : Type 0} (entry : Entry) (chunks : List (Vec Entry A)) (place : ℕ) : Type 0 where
  pub within : place < length chunks
  pub from : 0 < place → AtHead (λ first. comes_before entry first ≡ false) (entries_of (drop place chunks))
  pub to : AtHead (λ first. comes_before entry first ≡ true) (entries_of (drop (place + 1) chunks))

-- so many chunks begin before an entry, and no others
pub record BeginBefore {A : Type 0} (bound : Entry) (chunks : List (Vec Entry A)) (count : ℕ) : Type 0 where
  pub within : count ≤ length chunks
  pub from : 0 < count → AtHead (λ first. comes_before first bound ≡ true) (entries_of (drop (count - 1) chunks))
  pub to : AtHead (λ first. comes_before first bound ≡ false) (entries_of (drop count chunks))

-- the chunk in which a rank lies, by how many entries stand before each
pub record HoldsRank (starts : List ℕ) (rank place : ℕ) : Type 0 where
  pub within : place < length starts
  pub from : get_or starts place 0 ≤ rank
  pub to : place + 1 < length starts → rank < get_or starts (place + 1) 0

-- a rising list in chunks, with how many entries stand before each and how many there are
pub record AreRanked {A : Type 0} (chunks : List (Vec Entry A)) (starts : List ℕ) (count : ℕ) : Type 0 where
  pub order : AreInOrder (entries_of chunks)
  pub few : length (entries_of chunks) ≤ most_rows
  pub filled : AreChunks chunks
  pub counted : starts ≡ starts_of 0 chunks
  pub total : count ≡ length (entries_of chunks)
