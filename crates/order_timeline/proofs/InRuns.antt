-- Rows stay in runs where a row comes or goes, and where a run is divided.
use Rattle.std.proofs.Common.{◌≡◌, ℕ, zero, suc, ◌+◌, ◌-◌, ◌<◌, ◌≤◌, Some, None, Bool, true, false, is_err, Ok, Err, Result, OnOk, OnErr}
use Rattle.std.proofs.Common.{List, [], ◌∷◌, length, slice_get, slice_set, slice_index, sym, ap, ◌∙◌, subst, arith, add-one}
use Rattle.std.specs.List.{insert, remove}
use Rattle.std.proofs.lemmas.List.{length-set}
use Rattle.std.proofs.lemmas.List.Edits.{length-insert, length-remove}
use Rattle.retro_base.specs.declared.row.Row.{Row}
use Rattle.retro_base.specs.Timeline.{IsFresh, HaveOwnNumbers}
use Rattle.order_timeline.specs.Numbers.{IsNamed, Pages, Changes, Writes, WritesRun, written}
use Rattle.order_timeline.specs.Runs.{rows_in, start_of, name_for_each, divided, IsInRun, TakesRow, IsInRuns, HasRoom, RepresentsRows}
use Rattle.retro_base.specs.Limits.{most_rows}
use Rattle.order_timeline.proofs.FilledRuns.{filled_more, fewer_runs, first_of_divided, second_of_divided, start_before_divided}
use Rattle.order_timeline.specs.Rows.{MayCome}
use Rattle.retro_base.specs.EditedLists.{remove-insert, get-insert}
use Rattle.order_timeline.proofs.Rows.{ordered_more}
use Rattle.order_timeline.proofs.Maps.{named_with, named_without, named_again}
use Rattle.order_timeline.proofs.NamesOfRows.{length-name_for_each, name_for_each_with, name_for_each_without, name_for_each_gone, name_for_each_divided}
use Rattle.std.proofs.lemmas.Option.{slice_get_within}

-- as many rows as the runs have
pub all_rows : (rows : List Row) (runs names : List ℕ) (numbers : Pages) → IsInRuns rows runs names numbers → rows_in runs ≡ length rows
all_rows rows runs names numbers is = sym (length-name_for_each runs names is.each) ∙ is.named.as_many

pub read_index : (xs : List ℕ) (index x : ℕ) → slice_get xs index ≡ Some x → slice_index xs index ≡ x
read_index [] index x read = cc
read_index (y ∷ xs) zero x read = cc
read_index (y ∷ xs) (suc index) x read = read_index xs index x read

-- other lists of the same names beside the rows
pub in_runs_same : (rows : List Row) (runs names others more : List ℕ) (numbers : Pages) → IsInRuns rows runs names numbers → length more ≡ length others
    → name_for_each others more ≡ name_for_each runs names → IsInRuns rows others more numbers
in_runs_same rows runs names others more numbers is each same = record { each = each; named = subst (λ xs. IsNamed rows xs numbers) (sym same) is.named }

-- the table says the same
pub in_runs_with : (rows : List Row) (runs names : List ℕ) (before after : Pages) (index place : ℕ) (row : Row) (count name : ℕ) → IsInRuns rows runs names before → place ≤ length rows → IsFresh row.number rows
    → TakesRow runs index place → slice_get runs index ≡ Some count → slice_get names index ≡ Some name → Writes before after row.number name
    → IsInRuns (insert rows place row) (slice_set runs index (count + 1)) names after
in_runs_with rows runs names before after index place row count name is within fresh takes long there writes =
    let back = remove-insert rows place row within in
    let longer : name_for_each (slice_set runs index (count + 1)) names ≡ insert (name_for_each runs names) place name =
    name_for_each_with runs names index place count name is.each long there takes.begun (omega (arith, takes.lasts, read_index runs index count long)) in
    record {
      each = is.each ∙ sym (length-set runs index (count + 1));
      named = subst (λ xs. IsNamed (insert rows place row) xs after) (sym longer)
          (named_with (insert rows place row) (name_for_each runs names) before after place row name (get-insert rows place row within)
          (subst (IsFresh row.number) (sym back) fresh) (subst (λ others. IsNamed others (name_for_each runs names) before) (sym back) is.named) writes);
    }

-- a row less, in a run that stays
pub in_runs_without : (rows : List Row) (runs names : List ℕ) (before after : Pages) (index place : ℕ) (row : Row) (count : ℕ) → IsInRuns rows runs names before → place < length rows → HaveOwnNumbers rows
    → slice_get rows place ≡ Some row → IsInRun runs index place → slice_get runs index ≡ Some count → Changes before after row.number None → IsInRuns (remove rows place) (slice_set runs index (count - 1)) names after
in_runs_without rows runs names before after index place row count is within own read lies long changes =
    let shorter : name_for_each (slice_set runs index (count - 1)) names ≡ remove (name_for_each runs names) place =
    name_for_each_without runs names index place count is.each long lies.begun (omega (arith, lies.lasts, read_index runs index count long)) in
    record {
      each = is.each ∙ sym (length-set runs index (count - 1));
      named = subst (λ xs. IsNamed (remove rows place) xs after) (sym shorter) (named_without rows (name_for_each runs names) before after place row read within own is.named changes);
    }

-- and in one that goes with it
pub in_runs_gone : (rows : List Row) (runs names : List ℕ) (before after : Pages) (index place : ℕ) (row : Row) (count : ℕ) → IsInRuns rows runs names before → place < length rows → HaveOwnNumbers rows
    → slice_get rows place ≡ Some row → IsInRun runs index place → slice_get runs index ≡ Some count → count ≡ 1 → Changes before after row.number None
    → IsInRuns (remove rows place) (remove runs index) (remove names index) after
in_runs_gone rows runs names before after index place row count is within own read lies long one changes =
    let stays = in_runs_without rows runs names before after index place row count is within own read lies long changes in
    record {
      each = omega (arith, is.each, length-remove runs index lies.there, length-remove names index (omega (arith, is.each, lies.there)));
      named = subst (λ xs. IsNamed (remove rows place) xs after)
          (ap (λ n. name_for_each (slice_set runs index n) names) (let none : count - 1 ≡ 0 = omega arith in none) ∙ sym (name_for_each_gone runs names index lies.there is.each)) stays.named;
    }

-- a run is divided, and the second half has another name
pub in_runs_divided : (rows : List Row) (runs names : List ℕ) (before after : Pages) (index count half name from : ℕ) → IsInRuns rows runs names before
    → index < length runs → slice_get runs index ≡ Some count → half ≤ count
    → from ≡ start_of runs index + half
    → WritesRun rows from (count - half) name before after
    → IsInRuns rows (slice_set (insert runs (suc index) (count - half)) index half) (insert names (suc index) name) after
in_runs_divided rows runs names before after index count half name from is there long within here writes =
    let divided = name_for_each_divided runs names index count half name is.each long within in
    record {
      each = omega (
        arith,
        length-insert names (suc index) name (omega (arith, is.each, there)),
        length-set (insert runs (suc index) (count - half)) index half,
        length-insert runs (suc index) (count - half) (omega (arith, there)),
        is.each,
      );
      named = subst (λ xs. IsNamed rows xs after) (ap (λ n. written (name_for_each runs names) n (count - half) name) here ∙ sym divided) (writes (name_for_each runs names) is.named);
    }

-- a run that is divided leaves all rows where they are
pub rows_divided : (runs : List ℕ) (index count half : ℕ) → slice_get runs index ≡ Some count → half ≤ count → rows_in (slice_set (insert runs (suc index) (count - half)) index half) ≡ rows_in runs
rows_divided [] index count half long within = cc
rows_divided (run ∷ runs) zero count half long within = let same : run ≡ count = cc in omega arith
rows_divided (run ∷ runs) (suc index) count half long within = ap (λ n. run + n) (rows_divided runs index count half long within)

pub start_divided : (runs : List ℕ) (index count half : ℕ) → slice_get runs index ≡ Some count → start_of (slice_set (insert runs (suc index) (count - half)) index half) (suc index) ≡ start_of runs index + half
start_divided [] index count half long = cc
start_divided (run ∷ runs) zero count half long = omega arith
start_divided (run ∷ runs) (suc index) count half long = omega (arith, start_divided runs index count half long)

divided_next : (runs : List ℕ) (index count half : ℕ) → divided runs index count half ≡ slice_set (insert runs (suc index) (count - half)) index half
divided_next runs index count half = ap (λ n. slice_set (insert runs n (count - half)) index half) (add-one index)

-- the same of the lists that the code has
pub rows_of_divided : (runs more : List ℕ) (index count half : ℕ) → slice_get runs index ≡ Some count → half ≤ count → more ≡ divided runs index count half → rows_in more ≡ rows_in runs
rows_of_divided runs more index count half long within is = ap rows_in (is ∙ divided_next runs index count half) ∙ rows_divided runs index count half long within

pub start_of_divided : (runs more : List ℕ) (index count half : ℕ) → slice_get runs index ≡ Some count → more ≡ divided runs index count half → start_of more (index + 1) ≡ start_of runs index + half
start_of_divided runs more index count half long is =
    ap (λ xs. start_of xs (index + 1)) (is ∙ divided_next runs index count half) ∙ ap (start_of (slice_set (insert runs (suc index) (count - half)) index half)) (add-one index) ∙ start_divided runs index count half long

pub in_runs_after : (rows : List Row) (runs more names others : List ℕ) (before after : Pages) (index count half name from : ℕ)
    → IsInRuns rows runs names before → index < length runs → slice_get runs index ≡ Some count → half ≤ count
    → more ≡ divided runs index count half → others ≡ insert names (index + 1) name → from ≡ start_of runs index + half
    → WritesRun rows from (count - half) name before after → IsInRuns rows more others after
in_runs_after rows runs more names others before after index count half name from is there long within more_is others_is here writes =
    subst (λ xs. IsInRuns rows xs others after) (sym (more_is ∙ divided_next runs index count half))
    (subst (λ ls. IsInRuns rows (slice_set (insert runs (suc index) (count - half)) index half) ls after) (sym (others_is ∙ ap (λ n. insert names n name) (add-one index)))
    (in_runs_divided rows runs names before after index count half name from is there long within here writes))

-- a result that is no error
pub ok_from : {X E : Type 0} (result : Result X E) (answer : Bool) (P : Type 0) → answer ≡ is_err result → answer ≡ false → OnOk result P → P
ok_from (Ok x) answer P is none ok = ok
ok_from (Err e) answer P is none ok = cc

pub err_from : {X E : Type 0} (result : Result X E) (answer : Bool) (P : Type 0) → answer ≡ is_err result → answer ≡ true → OnErr result P → P
err_from (Ok x) answer P is some err = cc
err_from (Err e) answer P is some err = err

-- a number that was noted and forgotten
pub in_runs_again : (rows : List Row) (runs names : List ℕ) (before after : Pages) (number : ℕ) → IsFresh number rows → IsInRuns rows runs names before
    → Changes before after number None → IsInRuns rows runs names after
in_runs_again rows runs names before after number fresh is changes = record { each = is.each; named = named_again rows (name_for_each runs names) before after number fresh is.named changes }

-- a row more, of the lists that the code has
pub in_runs_put : (rows more : List Row) (runs longer names : List ℕ) (before after : Pages) (index place : ℕ) (row item : Row) (count name run : ℕ)
    → IsInRuns rows runs names before → place ≤ length rows → IsFresh row.number rows
    → TakesRow runs index place → slice_get runs index ≡ Some count → slice_get names index ≡ Some name → Writes before after row.number name
    → item ≡ row → more ≡ insert rows place item → run ≡ count + 1 → longer ≡ slice_set runs index run → IsInRuns more longer names after
in_runs_put rows more runs longer names before after index place row item count name run is within fresh takes long there writes item_is more_is run_is longer_is =
    subst (λ xs. IsInRuns xs longer names after) (sym (more_is ∙ ap (insert rows place) item_is))
    (subst (λ xs. IsInRuns (insert rows place row) xs names after) (sym (longer_is ∙ ap (slice_set runs index) run_is))
    (in_runs_with rows runs names before after index place row count name is within fresh takes long there writes))

-- a timeline with a row more
pub kept_put : (rows more : List Row) (runs longer names : List ℕ) (before after : Pages) (index place : ℕ) (row item : Row)
    (count name run : ℕ) → RepresentsRows rows runs names before → MayCome rows place row
    → TakesRow runs index place → HasRoom runs index count → slice_get names index ≡ Some name → Writes before after row.number name
    → item ≡ row → more ≡ insert rows place item → run ≡ count + 1 → longer ≡ slice_set runs index run → RepresentsRows more longer names after
kept_put rows more runs longer names before after index place row item count name run kept comes takes room there writes item_is more_is run_is longer_is = record {
  ordered = ordered_more rows more place row item item_is more_is kept.ordered comes.within comes.room comes.fresh comes.fits;
  in_runs = in_runs_put rows more runs longer names before after index place row item count name run kept.in_runs
      comes.within comes.fresh takes room.told there writes item_is more_is run_is longer_is;
  filled = rw (longer_is ∙ ap (slice_set runs index) run_is) (filled_more runs index count kept.filled room);
}

-- a timeline as before, once a number was noted and forgotten
pub kept_again : (rows more : List Row) (runs names : List ℕ) (before after : Pages) (number : ℕ) → RepresentsRows rows runs names before → IsFresh number rows
    → more ≡ rows → Changes before after number None → RepresentsRows more runs names after
kept_again rows more runs names before after number kept fresh same_rows changes =
    subst (λ xs. RepresentsRows xs runs names after) (sym same_rows)
    (record { ordered = kept.ordered; in_runs = in_runs_again rows runs names before after number fresh kept.in_runs changes; filled = kept.filled })

-- which of the two runs takes a row, once the run that took it is divided
pub first_takes : (runs more : List ℕ) (index count half place : ℕ) → TakesRow runs index place → slice_get runs index ≡ Some count → half ≤ count
    → more ≡ divided runs index count half → place ≤ start_of runs index + half → TakesRow more index place
first_takes runs more index count half place takes long within is near = record {
  there = omega (arith, takes.there, ap length is, length-set (insert runs (index + 1) (count - half)) index half, length-insert runs (index + 1) (count - half) (omega (arith, takes.there)));
  begun = omega (arith, takes.begun, start_before_divided runs more index count half takes.there is);
  lasts = omega (arith, near, start_before_divided runs more index count half takes.there is, read_index more index half (first_of_divided runs more index count half takes.there is));
}

pub second_takes : (runs more : List ℕ) (index count half place : ℕ) → TakesRow runs index place → slice_get runs index ≡ Some count → half ≤ count
    → more ≡ divided runs index count half → start_of runs index + half < place → TakesRow more (index + 1) place
second_takes runs more index count half place takes long within is far = record {
  there = omega (arith, takes.there, ap length is, length-set (insert runs (index + 1) (count - half)) index half, length-insert runs (index + 1) (count - half) (omega (arith, takes.there)));
  begun = omega (arith, far, start_of_divided runs more index count half long is);
  lasts = omega (
    arith,
    takes.lasts,
    read_index runs index count long,
    within,
    start_of_divided runs more index count half long is,
    read_index more (index + 1) (count - half) (second_of_divided runs more index count half takes.there is),
  );
}

pub record AreFew (runs names : List ℕ) (index : ℕ) : Type 0 where
  pub there : index < length runs
  pub runs_few : length runs < most_rows
  pub names_few : length names < most_rows

pub few_divided : (rows : List Row) (runs names : List ℕ) (numbers : Pages) (index count : ℕ) → RepresentsRows rows runs names numbers → slice_get runs index ≡ Some count → 1 < count
    → AreFew runs names index
few_divided rows runs names numbers index count kept long more =
    let fewer : length runs < most_rows = omega (arith, fewer_runs runs index count kept.filled long more, all_rows rows runs names numbers kept.in_runs, kept.ordered.few) in
    record {
      there = slice_get_within runs index count long;
      runs_few = fewer;
      names_few = omega (arith, fewer, kept.in_runs.each);
    }
