-- The rows of a window stand in the timeline from the place from which they were read, and take what a row put in on to its standing after them, or out.
use Rattle.std.proofs.Common.{◌≡◌, ℕ, suc, ◌+◌, ◌-◌, ◌<◌, ◌≤◌, true, get_or, List, [], ◌∷◌, ◌++◌, length, take, drop, refl, sym, ap, subst, ◌∙◌, arith, Option, Some, None, Result, Ok, Err}
use Rattle.std.specs.List.{fold, slice_get}
use Rattle.std.proofs.Math.Seq.{drop-cons}
use Rattle.std.proofs.lemmas.List.{drop_all, length-drop, length-take}
use Rattle.fates.specs.declared.standing.Standing.{Standing}
use Rattle.fates.specs.Fates.{IsTakenAt}
use Rattle.retro_base.specs.Holders.{holders, holds}
use Rattle.fates.specs.Holding.{Stands}
use Rattle.fates.specs.Standings.{IsUpTo, after_row, count_after}
use Rattle.fates.proofs.Steps.{Ready, count_next, count_up, few_next, goes_so, gone_so, stands_next, there_next}
use Rattle.retro_base.specs.declared.row.Row.{Row}
use Rattle.retro_base.specs.Kind.{kind_of}
use Rattle.retro_base.specs.PrefixLaws.{taken_below}
use Rattle.retro_base.specs.Replay.{fold_rows, one_later}
use Rattle.retro_base.specs.Timeline.{IsReplayable}
use Rattle.retro_base.specs.lemmas.Folds.{err_within, fold_rows-nil, fold_rows-none, fold_rows-some}
use Rattle.retro_base.specs.Facts.{get_drop, get_taken, window_reads}

-- what a row makes of a standing
abbrev pub next_of : Row → Standing → Option Standing
next_of row standing = after_row standing row

-- the rows of a list stand among all rows from a place on
abbrev pub AreAt : List Row → ℕ → List Row → Type 0
AreAt rows from some = (k : ℕ) (row : Row) → slice_get some k ≡ Some row → slice_get rows (from + k) ≡ Some row

pub window_is_at : (rows window : List Row) (from count : ℕ) → take count window ≡ take count (drop from rows) → AreAt rows from (take count window)
window_is_at rows window from count e k row at =
    sym (get_drop rows from k) ∙ get_taken (drop from rows) count k row (ap (λ rs. slice_get rs k) (sym e) ∙ at)

rest_at : (rows : List Row) (from : ℕ) (row : Row) (some : List Row) → AreAt rows from (row ∷ some) → AreAt rows (suc from) some
rest_at rows from row some at k other here =
    let same : from + suc k ≡ suc from + k = omega arith in ap (slice_get rows) (sym same) ∙ at (suc k) other here

first_at : (rows : List Row) (from : ℕ) (row : Row) (some : List Row) → AreAt rows from (row ∷ some) → slice_get rows from ≡ Some row
first_at rows from row some at = let same : from + 0 ≡ from = omega arith in ap (slice_get rows) (sym same) ∙ at 0 row refl

-- what the row put in stands so after the first rows, and was there after each of them
pub record IsWalked (rows : List Row) (place : ℕ) (own : Row) (index : ℕ) (standing : Standing) : Type 0 where
  pub stands : Stands standing own.number (holders (kind_of own.op) rows index)
  pub few : IsUpTo standing index
  pub there : (q : ℕ) → place < q → q ≤ index → holds own.number (holders (kind_of own.op) rows q) ≡ true

-- what a walk along some rows from a place on has come to
abbrev pub ComesOut : List Row → ℕ → Row → ℕ → List Row → Result Standing ℕ → Type 0
ComesOut rows place own from some (Ok standing) = IsWalked rows place own (from + length some) standing
ComesOut rows place own from some (Err index) = IsTakenAt (kind_of own.op) rows place own.number (from + index)

module _ (rows : List Row) (place : ℕ) (own : Row) (replayable : IsReplayable (kind_of own.op) rows) (here : slice_get rows place ≡ Some own) where
  walked_next : (index : ℕ) (row : Row) (standing next : Standing) → slice_get rows index ≡ Some row → place < index → after_row standing row ≡ Some next
      → IsWalked rows place own index standing → IsWalked rows place own (suc index) next
  walked_next index row standing next at later goes walked =
      let stands = goes_so (after_row standing row) next own.number (holders (kind_of own.op) rows (suc index)) goes
      (stands_next rows index place own row standing replayable here at later walked.stands) in
      record {
        stands = stands;
        few = few_next standing next row index walked.few goes;
        there = λ q after within. there_next rows place index own next walked.there stands q after (omega arith);
      }

  walked_out : (index : ℕ) (row : Row) (standing : Standing) → slice_get rows index ≡ Some row → place < index → after_row standing row ≡ None
      → IsWalked rows place own index standing → IsTakenAt (kind_of own.op) rows place own.number index
  walked_out index row standing at later stops walked = record {
    later = later;
    within = (taken_below rows index row at).1;
    there = walked.there;
    gone = gone_so (after_row standing row) own.number (holders (kind_of own.op) rows (suc index)) stops
        (stands_next rows index place own row standing replayable here at later walked.stands);
  }

  one_more : (from : ℕ) (row : Row) (some : List Row) (r : Result Standing ℕ) → ComesOut rows place own (suc from) some r
      → ComesOut rows place own from (row ∷ some) (one_later r)
  one_more from row some (Ok standing) walked =
      let same : suc from + length some ≡ from + suc (length some) = omega arith in subst (λ n. IsWalked rows place own n standing) same walked
  one_more from row some (Err index) taken =
      let same : suc from + index ≡ from + suc index = omega arith in subst (λ n. IsTakenAt (kind_of own.op) rows place own.number n) same taken

  pub walked_along : (some : List Row) (from : ℕ) (standing : Standing) → AreAt rows from some → place < from → IsWalked rows place own from standing
      → ComesOut rows place own from some (fold_rows next_of some standing)
  walked_along [] from standing at later walked =
      rw (fold_rows-nil next_of standing) (let same : from ≡ from + 0 = omega arith in subst (λ n. IsWalked rows place own n standing) same walked)
  walked_along (row ∷ some) from standing at later walked =
      elim (after_row standing row) as (λ o. after_row standing row ≡ o → ComesOut rows place own from (row ∷ some) (fold_rows next_of (row ∷ some) standing)) [
        | None ↦ λ stops. rw (fold_rows-none next_of row some standing stops)
            (let same : from ≡ from + 0 = omega arith in subst (λ n. IsTakenAt (kind_of own.op) rows place own.number n) same
            (walked_out from row standing (first_at rows from row some at) later stops walked))
        | Some next ↦ λ goes. rw (fold_rows-some next_of row some standing next goes)
            (one_more from row some (fold_rows next_of some next)
            (walked_along some (suc from) next (rest_at rows from row some at) (omega arith)
            (walked_next from row standing next (first_at rows from row some at) later goes walked)))
      ] refl

  -- a window of rows before its own is counted
  pub counted_along : (some : List Row) (from count : ℕ) → AreAt rows from some → from + length some ≤ place → Ready own count (holders (kind_of own.op) rows from)
      → Ready own (fold (count_after own) count some) (holders (kind_of own.op) rows (from + length some))
  counted_along [] from count at within ready =
      let same : from ≡ from + 0 = omega arith in subst (λ n. Ready own count (holders (kind_of own.op) rows n)) same ready
  counted_along (row ∷ some) from count at within ready =
      let same : suc from + length some ≡ from + suc (length some) = omega arith in
      subst (λ n. Ready own (fold (count_after own) (count_after own count row) some) (holders (kind_of own.op) rows n)) same
      (counted_along some (suc from) (count_after own count row) (rest_at rows from row some at) (omega arith)
      (count_next rows from place count own row replayable here (first_at rows from row some at) (omega arith) ready))

pub counted_up : (own : Row) (some : List Row) (count n : ℕ) → count ≤ n → fold (count_after own) count some ≤ n + length some
counted_up own [] count n few = omega arith
counted_up own (row ∷ some) count n few = omega (arith, counted_up own some (count_after own count row) (n + 1) (count_up own row count n few))

-- a turn of the count
pub count_along_next : (own : Row) (rows : List Row) (i count : ℕ) (d : Row) → i < length rows
    → fold (count_after own) count (drop i rows) ≡ fold (count_after own) (count_after own count (get_or rows i d)) (drop (i + 1) rows)
count_along_next own rows i count d within =
    ap (fold (count_after own) count) (drop-cons rows i d within)
    ∙ (let one : suc i ≡ i + 1 = omega arith in ap (λ n. fold (count_after own) (count_after own count (get_or rows i d)) (drop n rows)) one)

pub count_along_end : (own : Row) (rows : List Row) (i count : ℕ) → length rows ≤ i → fold (count_after own) count (drop i rows) ≡ count
count_along_end own rows i count all = ap (fold (count_after own) count) (drop_all i rows all)

pub counted_one : (own row : Row) (count result n : ℕ) → result ≡ count_after own count row → count ≤ n → result ≤ n + 1
counted_one own row count result n is few = omega (arith, is, count_up own row count n few)

-- A turn of a walk over windows.
window_length : (rows window : List Row) (from count : ℕ) → take count window ≡ take count (drop from rows) → count ≤ length rows - from
    → length (take count window) ≡ count
window_length rows window from count e there =
    let all : length (take count (drop from rows)) ≡ count = omega (arith, length-take count (drop from rows), length-drop from rows) in ap length e ∙ all

module _ (rows old window : List Row) (place : ℕ) (own : Row) (replayable : IsReplayable (kind_of own.op) rows) (here : slice_get rows place ≡ Some own)
    (from read : ℕ) (is : window ≡ take read (drop from rows) ++ drop read old) (there : read ≤ length rows - from) where
  pub window_goes : (standing next : Standing) → place < from → IsWalked rows place own from standing → fold_rows next_of (take read window) standing ≡ Ok next
      → IsWalked rows place own (from + read) next
  window_goes standing next later walked goes =
      let e = window_reads rows old window from read read is (omega arith) there in
      let out = walked_along rows place own replayable here (take read window) from standing (window_is_at rows window from read e) later walked in
      let so : IsWalked rows place own (from + length (take read window)) next = subst (λ r. ComesOut rows place own from (take read window) r) goes out in
      subst (λ n. IsWalked rows place own (from + n) next) (window_length rows window from read e there) so

  pub window_stops : (standing : Standing) (index : ℕ) → place < from → IsWalked rows place own from standing
      → fold_rows next_of (take read window) standing ≡ Err index → IsTakenAt (kind_of own.op) rows place own.number (from + index)
  window_stops standing index later walked stops =
      let e = window_reads rows old window from read read is (omega arith) there in
      subst (λ r. ComesOut rows place own from (take read window) r) stops
      (walked_along rows place own replayable here (take read window) from standing (window_is_at rows window from read e) later walked)

  pub window_counted : (before count : ℕ) → before ≤ read → from + before ≤ place → Ready own count (holders (kind_of own.op) rows from)
      → Ready own (fold (count_after own) count (take before window)) (holders (kind_of own.op) rows (from + before))
  window_counted before count some within ready =
      let e = window_reads rows old window from read before is some there in
      let long = window_length rows window from before e (omega arith) in
      subst (λ n. Ready own (fold (count_after own) count (take before window)) (holders (kind_of own.op) rows (from + n))) long
      (counted_along rows place own replayable here (take before window) from count (window_is_at rows window from before e) (omega (arith, long)) ready)

pub window_counted_up : (own : Row) (window : List Row) (before count result n : ℕ) → result ≡ fold (count_after own) count (take before window) → count ≤ n
    → result ≤ n + before
window_counted_up own window before count result n is few = omega (arith, is, counted_up own (take before window) count n few, length-take before window)

-- the row that takes it is one of the window
pub index_within : (window : List Row) (read : ℕ) (standing : Standing) (index : ℕ) → fold_rows next_of (take read window) standing ≡ Err index → index < read
index_within window read standing index stops = omega (arith, err_within next_of (take read window) standing index stops, length-take read window)
