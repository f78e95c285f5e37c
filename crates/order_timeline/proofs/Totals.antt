-- Which run a search for a place finds.
use Rattle.std.proofs.Common.{◌≡◌, ℕ, zero, suc, ◌+◌, ◌-◌, ◌<◌, ◌≤◌, Bool, Some, None, Option, nat_lt, List, [], ◌∷◌, length, take, slice_get, slice_index, refl, ap, ◌∙◌, subst, arith}
use Rattle.std.proofs.lemmas.Bool.{lt-ltb, ltb-true, ltb-false}
use Rattle.std.proofs.lemmas.List.{take_all}
use Rattle.std.specs.List.{slice_range}
use Rattle.monoid_laws.specs.Measure.{measure_of}
use Rattle.weighted_tree.specs.Search.{IsRising, IsFirstOrNone}
use Rattle.order_timeline.specs.Totals.{no_total, one_total, joined_total}
use Rattle.order_timeline.specs.Runs.{rows_in, start_of, IsInRun, TakesRow}

pub total-rows : (runs : List ℕ) → (measure_of no_total joined_total one_total runs).rows ≡ rows_in runs
total-rows [] = refl
total-rows (run ∷ runs) = ap (λ n. run + n) (total-rows runs)

-- what runs before an index have
pub total-range : (runs : List ℕ) (index : ℕ) → (measure_of no_total joined_total one_total (slice_range runs 0 index)).rows ≡ start_of runs index
total-range runs index = total-rows (slice_range runs 0 index) ∙ ap (λ n. rows_in (take n runs)) (let same : index - 0 ≡ index = omega arith in same)

-- the next run begins where one ends
pub start_more : (runs : List ℕ) (index : ℕ) → index < length runs → start_of runs (suc index) ≡ start_of runs index + slice_index runs index
start_more [] index within = absurd (omega arith)
start_more (run ∷ runs) zero within = omega arith
start_more (run ∷ runs) (suc index) within = omega (arith, start_more runs index (omega arith))

pub start_rises : (runs : List ℕ) (index later : ℕ) → index ≤ later → start_of runs index ≤ start_of runs later
start_rises runs zero later order = omega arith
start_rises runs (suc index) zero order = absurd (omega arith)
start_rises [] (suc index) (suc later) order = omega arith
start_rises (run ∷ runs) (suc index) (suc later) order = omega (arith, start_rises runs index later (omega arith))

pub start_within : (runs : List ℕ) (index : ℕ) → start_of runs index ≤ rows_in runs
start_within runs zero = omega arith
start_within [] (suc index) = omega arith
start_within (run ∷ runs) (suc index) = omega (arith, start_within runs index)

-- the place lies before the run with this index
abbrev pub ends_after : ℕ → List ℕ → ℕ → Bool
ends_after place runs index = nat_lt place (start_of runs index)

pub ends-rise : (place : ℕ) (runs : List ℕ) (from to : ℕ) → IsRising (ends_after place runs) from to
ends-rise place runs from to index later above order within holding =
    lt-ltb place (start_of runs later) (omega (arith, ltb-true place (start_of runs index) holding, start_rises runs index later order))

pub run-found : (place : ℕ) (runs : List ℕ) (answer : Option ℕ) (count : ℕ) → IsFirstOrNone (ends_after place runs) 0 (length runs) answer → answer ≡ Some count → (1 ≤ count) × IsInRun runs (count - 1) place
run-found place runs None count nowhere is = cc
run-found place runs (Some zero) count first is = absurd (omega (arith, ltb-true place 0 first.holds_there))
run-found place runs (Some (suc index)) count first is =
    let same : suc index ≡ count = cc in
    let here : IsInRun runs index place = record {
      there = omega (arith, first.within);
      begun = ltb-false place (start_of runs index) (first.not_before index (omega arith) (omega arith));
      lasts = omega (arith, ltb-true place (start_of runs (suc index)) first.holds_there, start_more runs index (omega (arith, first.within)));
    } in
    (omega arith, subst (λ k. IsInRun runs k place) (let less : index ≡ count - 1 = omega arith in less) here)

pub run-there : (place : ℕ) (runs : List ℕ) (answer : Option ℕ) → place < rows_in runs → IsFirstOrNone (ends_after place runs) 0 (length runs) answer → answer ≡ None → ⊥
run-there place runs None within nowhere is =
    omega (arith, ltb-false place (start_of runs (length runs)) (nowhere (length runs) (omega arith) (omega arith)), ap rows_in (take_all (length runs) runs (omega arith)))
run-there place runs (Some count) within first is = cc

-- no run has more rows than all
pub run_within : (runs : List ℕ) (index count : ℕ) → slice_get runs index ≡ Some count → start_of runs index + count ≤ rows_in runs
run_within [] index count read = cc
run_within (run ∷ runs) zero count read = let same : run ≡ count = cc in omega arith
run_within (run ∷ runs) (suc index) count read = omega (arith, run_within runs index count read)

-- behind all rows the last run takes one more
takes_at_end : (runs : List ℕ) (index place : ℕ) → index + 1 ≡ length runs → place ≡ rows_in runs → TakesRow runs index place
takes_at_end runs index place last end =
    let all : start_of runs (suc index) ≡ rows_in runs = ap rows_in (take_all (suc index) runs (omega (arith, last))) in
    let more = start_more runs index (omega (arith, last)) in
    record { there = omega (arith, last); begun = omega (arith, all, more, end); lasts = omega (arith, all, more, end) }

pub last_takes : (runs : List ℕ) (place : ℕ) → 0 < length runs → place ≡ rows_in runs → TakesRow runs (length runs - 1) place
last_takes runs place some end = takes_at_end runs (length runs - 1) place (omega (arith, some)) end
