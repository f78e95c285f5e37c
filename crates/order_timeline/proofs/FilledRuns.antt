-- Runs stay filled where a row comes or goes, and where a full one is divided.
use Rattle.std.proofs.Common.{◌≡◌, ◌≢◌, ℕ, zero, suc, ◌+◌, ◌-◌, ◌<◌, ◌≤◌, inl, inr, List, [], ◌∷◌, length, slice_get, slice_set, refl, sym, ap, ◌∙◌, subst, arith, add-one, Some}
use Rattle.std.specs.List.{insert, remove, AllByRecursion}
use Rattle.order_timeline.specs.Runs.{rows_in, start_of, divided, IsFilled, AreFilled, IsInRun, HasRoom}

abbrev AllFilled : List ℕ → Type 0
AllFilled runs = AllByRecursion IsFilled runs

filled_set : (runs : List ℕ) (index run : ℕ) → AllFilled runs → IsFilled run → AllFilled (slice_set runs index run)
filled_set [] index run all filled = tt
filled_set (other ∷ runs) zero run all filled = (filled, all.1)
filled_set (other ∷ runs) (suc index) run all filled = (all.0, filled_set runs index run all.1 filled)

filled_insert : (runs : List ℕ) (index run : ℕ) → AllFilled runs → IsFilled run → AllFilled (insert runs index run)
filled_insert runs zero run all filled = (filled, all)
filled_insert [] (suc index) run all filled = (filled, tt)
filled_insert (other ∷ runs) (suc index) run all filled = (all.0, filled_insert runs index run all.1 filled)

filled_remove : (runs : List ℕ) (index : ℕ) → AllFilled runs → AllFilled (remove runs index)
filled_remove [] zero all = tt
filled_remove [] (suc index) all = tt
filled_remove (run ∷ runs) zero all = all.1
filled_remove (run ∷ runs) (suc index) all = (all.0, filled_remove runs index all.1)

filled_at : (runs : List ℕ) (index run : ℕ) → AllFilled runs → slice_get runs index ≡ Some run → IsFilled run
filled_at [] index run all there = absurd (cc)
filled_at (other ∷ runs) zero run all there = subst IsFilled (let same : other ≡ run = cc in same) all.0
filled_at (other ∷ runs) (suc index) run all there = filled_at runs index run all.1 there

-- the one run that waits for the first row
waiting_at : (runs : List ℕ) (index run : ℕ) → runs ≡ 0 ∷ [] → slice_get runs index ≡ Some run → (index ≡ 0) × (run ≡ 0)
waiting_at runs zero run waiting there = (refl, let same : Some 0 ≡ Some run = ap (λ xs. slice_get xs 0) (sym waiting) ∙ there in cc)
waiting_at runs (suc index) run waiting there = absurd (let none : slice_get (0 ∷ []) (suc index) ≡ Some run = ap (λ xs. slice_get xs (suc index)) (sym waiting) ∙ there in cc)

-- a row more, where there is room
pub filled_more : (runs : List ℕ) (index count : ℕ) → AreFilled runs → HasRoom runs index count → AreFilled (slice_set runs index (count + 1))
filled_more runs index count (inl all) room = inl (filled_set runs index (count + 1) all (record { some = omega arith; few = omega (arith, room.few) }))
filled_more runs index count (inr waiting) room =
    let first = waiting_at runs index count waiting room.told in
    inl (rw (waiting, first.0, first.1) (record { some = omega arith; few = omega arith }, tt))

nowhere_in : (index place : ℕ) → IsInRun (0 ∷ []) index place → ⊥
nowhere_in zero place lies = omega (arith, lies.lasts)
nowhere_in (suc index) place lies = omega (arith, lies.there)

-- where a row lies in a run, each run is filled
pub all_filled : (runs : List ℕ) (index place : ℕ) → AreFilled runs → IsInRun runs index place → AllFilled runs
all_filled runs index place (inl all) lies = all
all_filled runs index place (inr waiting) lies = absurd (nowhere_in index place (subst (λ xs. IsInRun xs index place) waiting lies))

-- a row less, in a run that stays, and in one that goes with it
pub filled_less : (runs : List ℕ) (index place count : ℕ) → AreFilled runs → IsInRun runs index place → slice_get runs index ≡ Some count → count ≢ 1 → AreFilled (slice_set runs index (count - 1))
filled_less runs index place count filled lies there more =
    let all = all_filled runs index place filled lies in
    let is = filled_at runs index count all there in
    inl (filled_set runs index (count - 1) all (record { some = omega (arith, is.some, more); few = omega (arith, is.few) }))

pub filled_gone : (runs : List ℕ) (index place : ℕ) → AreFilled runs → IsInRun runs index place → AreFilled (remove runs index)
filled_gone runs index place filled lies = inl (filled_remove runs index (all_filled runs index place filled lies))

-- a run that is divided
pub filled_divided : (runs : List ℕ) (index count half : ℕ) → AreFilled runs → slice_get runs index ≡ Some count → 1 ≤ half → half < count → AreFilled (divided runs index count half)
filled_divided runs index count half (inl all) there some less =
    let is = filled_at runs index count all there in
    inl (filled_set (insert runs (index + 1) (count - half)) index half
    (filled_insert runs (index + 1) (count - half) all (record { some = omega (arith, less); few = omega (arith, is.few) }))
    (record { some = some; few = omega (arith, is.few, less) }))
filled_divided runs index count half (inr waiting) there some less = absurd (omega (arith, (waiting_at runs index count waiting there).1, less))

-- no run has more rows than one may have
pub count_few : (runs : List ℕ) (index count : ℕ) → AreFilled runs → slice_get runs index ≡ Some count → count ≤ 32
count_few runs index count (inl all) there = (filled_at runs index count all there).few
count_few runs index count (inr waiting) there = omega (arith, (waiting_at runs index count waiting there).1)

-- no more runs than rows
filled_count : (runs : List ℕ) → AllFilled runs → length runs ≤ rows_in runs
filled_count [] all = omega arith
filled_count (run ∷ runs) all = omega (arith, all.0.some, filled_count runs all.1)

-- and fewer, where one is full
pub fewer_runs : (runs : List ℕ) (index count : ℕ) → AreFilled runs → slice_get runs index ≡ Some count → 1 < count → length runs < rows_in runs
fewer_runs runs index count (inr waiting) there more = absurd (omega (arith, (waiting_at runs index count waiting there).1, more))
fewer_runs [] index count (inl all) there more = absurd (cc)
fewer_runs (run ∷ runs) zero count (inl all) there more = let same : run ≡ count = cc in omega (arith, filled_count runs all.1, more)
fewer_runs (run ∷ runs) (suc index) count (inl all) there more = omega (arith, all.0.some, fewer_runs runs index count (inl all.1) there more)

-- what there is of a run that was divided
first_there : (runs : List ℕ) (index x half : ℕ) → index < length runs → slice_get (slice_set (insert runs (suc index) x) index half) index ≡ Some half
first_there [] index x half within = absurd (omega (arith, within))
first_there (run ∷ runs) zero x half within = refl
first_there (run ∷ runs) (suc index) x half within = first_there runs index x half (omega (arith, within))

second_there : (runs : List ℕ) (index x half : ℕ) → index < length runs → slice_get (slice_set (insert runs (suc index) x) index half) (suc index) ≡ Some x
second_there [] index x half within = absurd (omega (arith, within))
second_there (run ∷ runs) zero x half within = refl
second_there (run ∷ runs) (suc index) x half within = second_there runs index x half (omega (arith, within))

start_before : (runs : List ℕ) (index x half : ℕ) → index < length runs → start_of (slice_set (insert runs (suc index) x) index half) index ≡ start_of runs index
start_before [] index x half within = absurd (omega (arith, within))
start_before (run ∷ runs) zero x half within = refl
start_before (run ∷ runs) (suc index) x half within = ap (λ n. run + n) (start_before runs index x half (omega (arith, within)))

pub first_of_divided : (runs more : List ℕ) (index count half : ℕ) → index < length runs → more ≡ divided runs index count half → slice_get more index ≡ Some half
first_of_divided runs more index count half within is =
    ap (λ xs. slice_get xs index) (is ∙ ap (λ n. slice_set (insert runs n (count - half)) index half) (add-one index)) ∙ first_there runs index (count - half) half within

pub second_of_divided : (runs more : List ℕ) (index count half : ℕ) → index < length runs → more ≡ divided runs index count half → slice_get more (index + 1) ≡ Some (count - half)
second_of_divided runs more index count half within is =
    ap (λ xs. slice_get xs (index + 1)) is ∙ ap (λ n. slice_get (slice_set (insert runs n (count - half)) index half) n) (add-one index) ∙ second_there runs index (count - half) half within

pub start_before_divided : (runs more : List ℕ) (index count half : ℕ) → index < length runs → more ≡ divided runs index count half → start_of more index ≡ start_of runs index
start_before_divided runs more index count half within is =
    ap (λ xs. start_of xs index) (is ∙ ap (λ n. slice_set (insert runs n (count - half)) index half) (add-one index)) ∙ start_before runs index (count - half) half within
