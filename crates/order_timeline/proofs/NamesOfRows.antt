-- The names beside the rows, where a run gets longer or shorter, goes, or is divided.
use Rattle.std.proofs.Common.{◌≡◌, ℕ, zero, suc, ◌+◌, ◌-◌, ◌<◌, ◌≤◌, Some, List, [], ◌∷◌, ◌++◌, length, take, drop, replicate, slice_get, slice_set, refl, sym, ap, ◌∙◌, arith, add-one}
use Rattle.std.specs.List.{insert, remove}
use Rattle.std.proofs.lemmas.List.{length-append, length-replicate, append_assoc, drop_at}
use Rattle.order_timeline.specs.Numbers.{written}
use Rattle.order_timeline.specs.Runs.{rows_in, start_of, name_for_each}

pub length-name_for_each : (runs names : List ℕ) → length names ≡ length runs → length (name_for_each runs names) ≡ rows_in runs
length-name_for_each [] names same = refl
length-name_for_each (run ∷ runs) [] same = absurd (omega arith)
length-name_for_each (run ∷ runs) (name ∷ names) same = omega (arith, length-append (replicate run name) (name_for_each runs names), length-replicate run name, length-name_for_each runs names (omega arith))

-- after a front
insert_after : (front rest : List ℕ) (place x : ℕ) → insert (front ++ rest) (length front + place) x ≡ front ++ insert rest place x
insert_after [] rest place x = ap (λ n. insert rest n x) (let same : 0 + place ≡ place = omega arith in same)
insert_after (y ∷ front) rest place x =
    ap (λ n. insert ((y ∷ front) ++ rest) n x) (let same : suc (length front) + place ≡ suc (length front + place) = omega arith in same)
    ∙ ap (λ xs. y ∷ xs) (insert_after front rest place x)

remove_after : (front rest : List ℕ) (place : ℕ) → remove (front ++ rest) (length front + place) ≡ front ++ remove rest place
remove_after [] rest place = ap (remove rest) (let same : 0 + place ≡ place = omega arith in same)
remove_after (y ∷ front) rest place =
    ap (remove ((y ∷ front) ++ rest)) (let same : suc (length front) + place ≡ suc (length front + place) = omega arith in same)
    ∙ ap (λ xs. y ∷ xs) (remove_after front rest place)

-- within a run
insert_within : (run name : ℕ) (rest : List ℕ) (place : ℕ) → place ≤ run → insert (replicate run name ++ rest) place name ≡ replicate (suc run) name ++ rest
insert_within run name rest zero within = refl
insert_within zero name rest (suc place) within = absurd (omega arith)
insert_within (suc run) name rest (suc place) within = ap (λ xs. name ∷ xs) (insert_within run name rest place (omega arith))

remove_within : (run name : ℕ) (rest : List ℕ) (place : ℕ) → place < run → remove (replicate run name ++ rest) place ≡ replicate (run - 1) name ++ rest
remove_within zero name rest place within = absurd (omega arith)
remove_within (suc run) name rest zero within = ap (λ n. replicate n name ++ rest) (let same : run ≡ suc run - 1 = omega arith in same)
remove_within (suc zero) name rest (suc place) within = absurd (omega arith)
remove_within (suc (suc run)) name rest (suc place) within =
    ap (λ xs. name ∷ xs) (remove_within (suc run) name rest place (omega arith) ∙ ap (λ n. replicate n name ++ rest) (let same : suc run - 1 ≡ run = omega arith in same))
    ∙ ap (λ n. replicate n name ++ rest) (let same : suc run ≡ suc (suc run) - 1 = omega arith in same)

-- the place after the rows of a run, from where those begin
after : (run name place : ℕ) → run ≤ place → place ≡ length (replicate run name) + (place - run)
after run name place order = omega (arith, length-replicate run name)

-- a row more in a run
pub name_for_each_with : (runs names : List ℕ) (index place count name : ℕ) → length names ≡ length runs → slice_get runs index ≡ Some count → slice_get names index ≡ Some name
    → start_of runs index ≤ place → place ≤ start_of runs index + count → name_for_each (slice_set runs index (count + 1)) names ≡ insert (name_for_each runs names) place name
name_for_each_with [] names index place count name same long is begun within = cc
name_for_each_with (run ∷ runs) [] index place count name same long is begun within = absurd (omega arith)
name_for_each_with (run ∷ runs) (first ∷ names) zero place count name same long is begun within =
    let runs_same : run ≡ count = cc in
    let name_same : first ≡ name = cc in
    ap (λ n. replicate n first ++ name_for_each runs names) (add-one count ∙ ap suc (sym runs_same))
    ∙ sym (insert_within run first (name_for_each runs names) place (omega arith))
    ∙ ap (λ l. insert (replicate run first ++ name_for_each runs names) place l) name_same
name_for_each_with (run ∷ runs) (first ∷ names) (suc index) place count name same long is begun within =
    ap (λ rest. replicate run first ++ rest) (name_for_each_with runs names index (place - run) count name (omega arith) long is (omega arith) (omega arith))
    ∙ sym (insert_after (replicate run first) (name_for_each runs names) (place - run) name)
    ∙ ap (λ n. insert (replicate run first ++ name_for_each runs names) n name) (sym (after run first place (omega arith)))

-- a row less
pub name_for_each_without : (runs names : List ℕ) (index place count : ℕ) → length names ≡ length runs → slice_get runs index ≡ Some count
    → start_of runs index ≤ place → place < start_of runs index + count → name_for_each (slice_set runs index (count - 1)) names ≡ remove (name_for_each runs names) place
name_for_each_without [] names index place count same long begun within = cc
name_for_each_without (run ∷ runs) [] index place count same long begun within = absurd (omega arith)
name_for_each_without (run ∷ runs) (first ∷ names) zero place count same long begun within =
    let runs_same : run ≡ count = cc in
    ap (λ n. replicate (n - 1) first ++ name_for_each runs names) (sym runs_same) ∙ sym (remove_within run first (name_for_each runs names) place (omega arith))
name_for_each_without (run ∷ runs) (first ∷ names) (suc index) place count same long begun within =
    ap (λ rest. replicate run first ++ rest) (name_for_each_without runs names index (place - run) count (omega arith) long (omega arith) (omega arith))
    ∙ sym (remove_after (replicate run first) (name_for_each runs names) (place - run))
    ∙ ap (remove (replicate run first ++ name_for_each runs names)) (sym (after run first place (omega arith)))

-- a run without rows is none
pub name_for_each_gone : (runs names : List ℕ) (index : ℕ) → index < length runs → length names ≡ length runs → name_for_each (remove runs index) (remove names index) ≡ name_for_each (slice_set runs index 0) names
name_for_each_gone [] names index within same = absurd (omega arith)
name_for_each_gone (run ∷ runs) [] index within same = absurd (omega arith)
name_for_each_gone (run ∷ runs) (name ∷ names) zero within same = refl
name_for_each_gone (run ∷ runs) (name ∷ names) (suc index) within same = ap (λ rest. replicate run name ++ rest) (name_for_each_gone runs names index (omega arith) (omega arith))

-- take and drop after a front
take_after : (front rest : List ℕ) (n : ℕ) → take (length front + n) (front ++ rest) ≡ front ++ take n rest
take_after [] rest n = ap (λ k. take k rest) (let same : 0 + n ≡ n = omega arith in same)
take_after (y ∷ front) rest n =
    ap (λ k. take k ((y ∷ front) ++ rest)) (let same : suc (length front) + n ≡ suc (length front + n) = omega arith in same) ∙ ap (λ xs. y ∷ xs) (take_after front rest n)

drop_after : (front rest : List ℕ) (n : ℕ) → drop (length front + n) (front ++ rest) ≡ drop n rest
drop_after [] rest n = ap (λ k. drop k rest) (let same : 0 + n ≡ n = omega arith in same)
drop_after (y ∷ front) rest n =
    ap (λ k. drop k ((y ∷ front) ++ rest)) (let same : suc (length front) + n ≡ suc (length front + n) = omega arith in same) ∙ drop_after front rest n

written_after : (front rest : List ℕ) (from count name : ℕ) → written (front ++ rest) (length front + from) count name ≡ front ++ written rest from count name
written_after front rest from count name =
    ap (λ xs. xs ++ replicate count name ++ drop (length front + from + count) (front ++ rest)) (take_after front rest from)
    ∙ ap (λ n. front ++ take from rest ++ replicate count name ++ drop n (front ++ rest)) (let same : length front + from + count ≡ length front + (from + count) = omega arith in same)
    ∙ ap (λ xs. front ++ take from rest ++ replicate count name ++ xs) (drop_after front rest (from + count))
    ∙ ap (λ xs. xs ++ drop (from + count) rest) (append_assoc front (take from rest) (replicate count name))
    ∙ append_assoc front (take from rest ++ replicate count name) (drop (from + count) rest)

take_run : (half run name : ℕ) (rest : List ℕ) → half ≤ run → take half (replicate run name ++ rest) ≡ replicate half name
take_run zero run name rest within = refl
take_run (suc half) zero name rest within = absurd (omega arith)
take_run (suc half) (suc run) name rest within = ap (λ xs. name ∷ xs) (take_run half run name rest (omega arith))

-- a run is divided
pub name_for_each_divided : (runs names : List ℕ) (index count half name : ℕ) → length names ≡ length runs → slice_get runs index ≡ Some count → half ≤ count
    → name_for_each (slice_set (insert runs (suc index) (count - half)) index half) (insert names (suc index) name) ≡ written (name_for_each runs names) (start_of runs index + half) (count - half) name
name_for_each_divided [] names index count half name same long within = cc
name_for_each_divided (run ∷ runs) [] index count half name same long within = absurd (omega arith)
name_for_each_divided (run ∷ runs) (first ∷ names) zero count half name same long within =
    let runs_same : run ≡ count = cc in
    let b = name_for_each runs names in
    sym (append_assoc (replicate half first) (replicate (count - half) name) b)
    ∙ ap (λ xs. xs ++ replicate (count - half) name ++ b) (sym (take_run half run first b (omega arith)))
    ∙ ap (λ xs. take half (replicate run first ++ b) ++ replicate (count - half) name ++ xs) (sym (drop_at (replicate run first) b (0 + half + (count - half)) (omega (arith, length-replicate run first))))
    ∙ ap (λ n. take n (replicate run first ++ b) ++ replicate (count - half) name ++ drop (0 + half + (count - half)) (replicate run first ++ b)) (let more : half ≡ 0 + half = omega arith in more)
name_for_each_divided (run ∷ runs) (first ∷ names) (suc index) count half name same long within =
    ap (λ rest. replicate run first ++ rest) (name_for_each_divided runs names index count half name (omega arith) long within)
    ∙ sym (written_after (replicate run first) (name_for_each runs names) (start_of runs index + half) (count - half) name)
    ∙ ap (λ n. written (replicate run first ++ name_for_each runs names) n (count - half) name)
    (let same : length (replicate run first) + (start_of runs index + half) ≡ run + start_of runs index + half = omega (arith, length-replicate run first) in same)

pub name_for_each_none : (names : List ℕ) → name_for_each (0 ∷ []) names ≡ []
name_for_each_none [] = refl
name_for_each_none (name ∷ names) = refl
