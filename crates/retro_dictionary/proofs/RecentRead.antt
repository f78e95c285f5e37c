-- What a read writes of the numbers of the rows beside a place.
use Rattle.std.proofs.Common.{◌≡◌, ℕ, zero, suc, ◌+◌, ◌-◌, ◌<◌, min, List, [], ◌∷◌, length, map, take, drop, slice_get, slice_index_or, if◌then◌else◌, refl, ap, ◌∙◌, arith}
use Rattle.std.proofs.lemmas.Bool.{le-ltb, lt-ltb, ne_eqb}
use borrow.Rule.Slice.PartMut.{mid_of, put_mid}
use Rattle.retro_base.specs.declared.row.Row.{Row}
use Rattle.retro_dictionary.specs.declared.recent.RecentNeighbour.{RecentNeighbour}
use Rattle.retro_dictionary.specs.declared.recent.RecentNeighbour.TheVariants.{Before, After, Neither}
use Rattle.weighted_tree.specs.Reads.{overwritten}
use Rattle.weighted_tree.specs.ReadLaws.{after_read, read_from}
use Rattle.retro_dictionary.specs.RowLabels.{is_recent, is_lately, recent_beside}

-- the end of what stands there before, for a read that begins so many rows before the place, and the whole after it
abbrev lent : ℕ → ℕ → List ℕ
lent next count = mid_of (1 - count) (2 - (1 - count)) (next ∷ next ∷ [])

abbrev whole : ℕ → ℕ → List ℕ → List ℕ
whole next count read = put_mid (1 - count) (2 - (1 - count)) (next ∷ next ∷ []) read

abbrev read_of : ℕ → ℕ → List Row → List ℕ
read_of next count rows = after_read (λ (row : Row). row.number) rows (lent next count)

abbrev recent_in : ℕ → List ℕ → RecentNeighbour
recent_in next numbers = if is_recent (slice_index_or numbers 0 0) next then Before else if is_recent (slice_index_or numbers 1 0) next then After else Neither

later_place : (next : ℕ) (rows : List Row) (place : ℕ) → place + 1 < length rows
    → recent_in next (whole next 1 (read_of next 1 (drop place rows))) ≡ if is_lately (slice_get rows place) next then Before else if is_lately (slice_get rows (suc place)) next then After else Neither
later_place next [] place within = absurd (omega arith)
later_place next (before ∷ []) place within = absurd (omega arith)
later_place next (before ∷ after ∷ rows) zero within = refl
later_place next (row ∷ rows) (suc place) within = later_place next rows place (omega arith)

each_place : (next : ℕ) (rows : List Row) (place : ℕ) → place < length rows → recent_in next (whole next (min place 1) (read_of next (min place 1) (drop (place - min place 1) rows))) ≡ recent_beside rows place next
each_place next [] place within = absurd (omega arith)
each_place next (row ∷ rows) zero within = rw (le-ltb next next (omega arith), ne_eqb 0 (length (row ∷ rows)) (λ same. omega (arith, same))) refl
each_place next rows (suc place) within =
    let one : min (suc place) 1 ≡ 1 = omega arith in
    let from : suc place - 1 ≡ place = omega arith in
    rw (one, from, ne_eqb (suc place) (length rows) (λ same. omega (arith, same)), lt-ltb 0 (suc place) (omega arith)) (later_place next rows place (omega arith))

pub recent_read : (next : ℕ) (rows : List Row) (place count number : ℕ) (read : List ℕ) → place < length rows → count ≡ min place 1 → number ≡ min (length rows - (place - count)) (length (lent next count))
    → read ≡ overwritten (lent next count) 0 (map (λ (row : Row). row.number) (take number (drop (place - count) rows))) → recent_in next (whole next count read) ≡ recent_beside rows place next
recent_read next rows place count number read within few many is =
    ap (λ read. recent_in next (whole next count read)) (read_from (λ (row : Row). row.number) rows (place - count) number (lent next count) read many is) ∙ rw few (each_place next rows place within)
