-- The first rows of a timeline: how they grow by its next row, and what they are after an edit of it.
use Rattle.std.proofs.Common.{◌≡◌, ℕ, zero, suc, ◌+◌, ◌-◌, ◌<◌, ◌≤◌, List, [], ◌∷◌, length, take, slice_get, refl, sym, subst, ap, ◌∙◌, arith, Some}
use Rattle.std.specs.List.{insert, remove}
use Rattle.std.proofs.lemmas.List.{length-take, length-take-le}
use Rattle.retro_base.specs.declared.kind.Kind.{Kind}
use Rattle.retro_base.specs.declared.row.Row.{Row}
use Rattle.retro_base.specs.Edits.{add}
use Rattle.retro_base.specs.PrefixLaws.{valid_take}
use Rattle.retro_base.specs.Replay.{IsValid}
use Rattle.retro_base.specs.Timeline.{IsReplayable, Structure}
use Rattle.retro_base.specs.lemmas.FirstRows.{insert_next, replayable_first}
use Rattle.checkpoint_full.specs.Checkpoints.{after, first_of, place_of, CanTake, HoldsFirstRows}

pub same_structure : (kind other : Kind) (rows others : List Row) → kind ≡ other → rows ≡ others
    → (let one : Structure = record { kind = kind; rows = rows } in one) ≡ record { kind = other; rows = others }
same_structure kind other rows others same_kind same_rows = rw (same_kind, same_rows) refl

pub take_take : {X : Type 0} (few more : ℕ) (xs : List X) → few ≤ more → take few (take more xs) ≡ take few xs
take_take zero more xs h = refl
take_take (suc few) zero xs h = absurd (omega arith)
take_take (suc few) (suc more) [] h = refl
take_take (suc few) (suc more) (x ∷ xs) h = ap (λ ys. x ∷ ys) (take_take few more xs (omega arith))

none_left : {X : Type 0} (xs : List X) → length xs ≡ 0 → xs ≡ []
none_left [] h = refl
none_left (x ∷ xs) h = absurd (omega arith)

-- all but the last element
remove_last : {X : Type 0} (xs : List X) (count : ℕ) → length xs ≡ suc count → remove xs count ≡ take count xs
remove_last [] count h = absurd (omega arith)
remove_last (x ∷ xs) zero h = none_left xs (omega arith)
remove_last (x ∷ xs) (suc count) h = ap (λ ys. x ∷ ys) (remove_last xs count (omega arith))

pub without_last : {X : Type 0} (xs : List X) → 0 < length xs → remove xs (length xs - 1) ≡ take (length xs - 1) xs
without_last xs some = remove_last xs (length xs - 1) (omega arith)

-- the last row can be taken off
pub last_can_go : (kind : Kind) (rows : List Row) → 0 < length rows → IsReplayable kind rows → IsValid kind (remove rows (length rows - 1))
last_can_go kind rows some replayable = rw (without_last rows some) (valid_take kind rows (length rows - 1) replayable.valid)

-- the next row of a timeline can be appended to those before it
pub next_can_come : (now : Structure) (index : ℕ) (row : Row) → IsReplayable now.kind now.rows → slice_get now.rows index ≡ Some row → CanTake (first_of index now) index row
next_can_come now index row replayable there =
    rw (insert_next now.rows index row there) (replayable_first now.kind now.rows (index + 1) replayable)

pub next_comes : (now : Structure) (index : ℕ) (row : Row) → slice_get now.rows index ≡ Some row → after (first_of index now) (add index row) ≡ first_of (index + 1) now
next_comes now index row there = same_structure now.kind now.kind _ _ refl (insert_next now.rows index row there)

-- the first rows stand for their number
pub place_of-first_of : (count : ℕ) (now : Structure) → count ≤ place_of now → place_of (first_of count now) ≡ count
place_of-first_of count now within = length-take-le count now.rows within

pub first_rows_of : (count : ℕ) (now : Structure) → count ≤ place_of now → HoldsFirstRows now (first_of count now)
first_rows_of count now within = rw (place_of-first_of count now within) refl

pub first_of-first_of : (few more : ℕ) (now : Structure) → few ≤ more → first_of few (first_of more now) ≡ first_of few now
first_of-first_of few more now less = same_structure now.kind now.kind _ _ refl (take_take few more now.rows less)

-- so a checkpoint can take its next row, and then holds one row more
same_first : (now checkpoint : Structure) (place : ℕ) → HoldsFirstRows now checkpoint → place ≡ place_of checkpoint → first_of place now ≡ checkpoint
same_first now checkpoint place first here = rw here (sym first)

pub checkpoint_can_take : (now checkpoint : Structure) (place : ℕ) (row : Row) → HoldsFirstRows now checkpoint → place ≡ place_of checkpoint
    → IsReplayable now.kind now.rows → slice_get now.rows place ≡ Some row → CanTake checkpoint place row
checkpoint_can_take now checkpoint place row first here replayable there =
    subst (λ s. CanTake s place row) (same_first now checkpoint place first here) (next_can_come now place row replayable there)

pub checkpoint_takes : (now checkpoint : Structure) (place : ℕ) (row : Row) → HoldsFirstRows now checkpoint → place ≡ place_of checkpoint
    → slice_get now.rows place ≡ Some row → after checkpoint (add place row) ≡ first_of (place_of checkpoint + 1) now
checkpoint_takes now checkpoint place row first here there =
    subst (λ s. after s (add place row) ≡ first_of (place + 1) now) (same_first now checkpoint place first here) (next_comes now place row there)
    ∙ ap (λ (count : ℕ). first_of (count + 1) now) here

-- one row less at the end
pub one_taken_off : (now checkpoint shorter : Structure) (count : ℕ) → checkpoint ≡ first_of count now → count ≤ place_of now
    → shorter ≡ first_of (place_of checkpoint - 1) checkpoint → shorter ≡ first_of (count - 1) now
one_taken_off now checkpoint shorter count first within taken =
    let here : place_of checkpoint ≡ count = rw first (place_of-first_of count now within) in
    taken ∙ ap (λ (k : ℕ). first_of (k - 1) checkpoint) here ∙ ap (λ s. first_of (count - 1) s) first ∙ first_of-first_of (count - 1) count now (omega arith)

-- the first elements after an edit among them, and after one that comes after them
pub insert_in_first : {X : Type 0} (xs : List X) (count place : ℕ) (x : X) → place < count → insert (take count xs) place x ≡ take (suc count) (insert xs place x)
insert_in_first xs count zero x less = refl
insert_in_first xs zero (suc place) x less = absurd (omega arith)
insert_in_first [] (suc count) (suc place) x less = refl
insert_in_first (y ∷ ys) (suc count) (suc place) x less = ap (λ zs. y ∷ zs) (insert_in_first ys count place x (omega arith))

pub insert_after_first : {X : Type 0} (xs : List X) (count place : ℕ) (x : X) → count ≤ place → count ≤ length xs → take count (insert xs place x) ≡ take count xs
insert_after_first xs zero place x less within = refl
insert_after_first xs (suc count) zero x less within = absurd (omega arith)
insert_after_first [] (suc count) (suc place) x less within = absurd (omega arith)
insert_after_first (y ∷ ys) (suc count) (suc place) x less within = ap (λ zs. y ∷ zs) (insert_after_first ys count place x (omega arith) (omega arith))

pub remove_in_first : {X : Type 0} (xs : List X) (count place : ℕ) → place ≤ count → remove (take (suc count) xs) place ≡ take count (remove xs place)
remove_in_first [] zero zero less = refl
remove_in_first [] (suc count) zero less = refl
remove_in_first [] zero (suc place) less = refl
remove_in_first [] (suc count) (suc place) less = refl
remove_in_first (y ∷ ys) count zero less = refl
remove_in_first (y ∷ ys) zero (suc place) less = absurd (omega arith)
remove_in_first (y ∷ ys) (suc count) (suc place) less = ap (λ zs. y ∷ zs) (remove_in_first ys count place (omega arith))

pub remove_after_first : {X : Type 0} (xs : List X) (count place : ℕ) → count ≤ place → take count (remove xs place) ≡ take count xs
remove_after_first xs zero place less = refl
remove_after_first xs (suc count) zero less = absurd (omega arith)
remove_after_first [] (suc count) (suc place) less = refl
remove_after_first (y ∷ ys) (suc count) (suc place) less = ap (λ zs. y ∷ zs) (remove_after_first ys count place (omega arith))

-- the rows of a checkpoint are the first ones, and no more than all
pub rows_of_first : (now checkpoint : Structure) → HoldsFirstRows now checkpoint → checkpoint.rows ≡ take (place_of checkpoint) now.rows
rows_of_first now checkpoint first = ap (λ (s : Structure). s.rows) first

pub kind_of_first : (now checkpoint : Structure) → HoldsFirstRows now checkpoint → checkpoint.kind ≡ now.kind
kind_of_first now checkpoint first = ap (λ (s : Structure). s.kind) first

pub not_after_now : (now checkpoint : Structure) → HoldsFirstRows now checkpoint → place_of checkpoint ≤ place_of now
not_after_now now checkpoint first =
    let same : place_of checkpoint ≡ length (take (place_of checkpoint) now.rows) = ap (λ (rows : List Row). length rows) (rows_of_first now checkpoint first) in
    omega (arith, same, length-take (place_of checkpoint) now.rows)
