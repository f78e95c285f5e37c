-- The first rows of a timeline, and the row that comes next: what is needed to append one after another.
use Rattle.std.proofs.Common.{◌≡◌, ◌≢◌, ℕ, zero, suc, ◌+◌, ◌<◌, ◌≤◌, List, [], ◌∷◌, ◌++◌, length, take, refl, sym, ap, ◌∙◌, arith, add-one, Option, Some, None, Err}
use Rattle.std.specs.List.{insert}
use Rattle.std.specs.Result.{result_err}
use Rattle.std.specs.Option.{option_map_or}
use Rattle.std.proofs.lemmas.List.Edits.{insert_end}
use Rattle.std.specs.Prelude.{slice_get}
use Rattle.retro_base.specs.declared.kind.Kind.{Kind}
use Rattle.retro_base.specs.declared.row.Row.{Row}
use Rattle.retro_base.specs.Kind.{kind_of}
use Rattle.retro_base.specs.Limits.{most_rows}
use Rattle.retro_base.specs.Order.{Fits}
use Rattle.retro_base.specs.OrderLaws.{all_at}
use Rattle.retro_base.specs.Replay.{fold_rows, one_later, IsValid}
use Rattle.retro_base.specs.State.{step, empty}
use Rattle.retro_base.specs.Timeline.{IsFresh, HaveOwnNumbers, TimesNeverFall, IsTimeline}
use Rattle.retro_base.specs.Outcomes.{earlier_none, later_none}

first_possible : {S : Type 0} (next_of : Row → S → Option S) (rows : List Row) (count : ℕ) (state : S)
    → result_err (fold_rows next_of rows state) ≡ None → result_err (fold_rows next_of (take count rows) state) ≡ None
unfolding fold_rows
first_possible next_of rows zero state possible = refl
first_possible next_of [] (suc count) state possible = refl
first_possible next_of (row ∷ rows) (suc count) state possible =
    elim (next_of row state) as (λ next. result_err (option_map_or (λ s. one_later (fold_rows next_of rows s)) next (Err 0)) ≡ None
    → result_err (option_map_or (λ s. one_later (fold_rows next_of (take count rows) s)) next (Err 0)) ≡ None) [
      | None ↦ λ h. absurd (cc)
      | Some s ↦ λ h. later_none _ (first_possible next_of rows count s (earlier_none _ h))
    ] possible

-- rows that replay whole do so up to any place
pub valid_take : (kind : Kind) (rows : List Row) (count : ℕ) → IsValid kind rows → IsValid kind (take count rows)
valid_take kind rows count valid = first_possible step rows count (empty kind) valid

-- a number of its own is none of those before
fresh_after : (rows : List Row) (index : ℕ) (row : Row) → HaveOwnNumbers rows → slice_get rows index ≡ Some row → IsFresh row.number (take index rows)
fresh_after rows zero row own there = tt
fresh_after [] (suc index) row own there = tt
fresh_after (first ∷ rows) (suc index) row own there =
    (λ same. all_at (λ r. r.number ≢ first.number) rows index row own.0 there (sym same), fresh_after rows index row own.1 there)

-- a time fits after the rows before it
fits_later : (rows : List Row) (index : ℕ) (row : Row) → TimesNeverFall rows → slice_get rows index ≡ Some row
    → Fits (take index rows) (length (take index rows)) row.time
fits_later rows zero row never there = tt
fits_later [] (suc index) row never there = tt
fits_later (first ∷ rows) (suc index) row never there =
    (all_at (λ r. first.time ≤ r.time) rows index row never.0 there, fits_later rows index row never.1 there)

pub take_next : (rows : List Row) (index : ℕ) (row : Row) → slice_get rows index ≡ Some row → take (suc index) rows ≡ take index rows ++ row ∷ []
take_next [] index row there = absurd (cc)
take_next (first ∷ rows) zero row there = ap (λ r. r ∷ []) (let same : first ≡ row = cc in same)
take_next (first ∷ rows) (suc index) row there = ap (λ rs. first ∷ rs) (take_next rows index row there)

pub take_more : (rows : List Row) (index : ℕ) (row : Row) → slice_get rows index ≡ Some row → take (index + 1) rows ≡ take index rows ++ row ∷ []
take_more rows index row there = rw add-one (take_next rows index row there)

pub taken_below : (rows : List Row) (index : ℕ) (row : Row) → slice_get rows index ≡ Some row → (length (take index rows) ≡ index) × (index < length rows)
taken_below [] index row there = absurd (cc)
taken_below (first ∷ rows) zero row there = (refl, omega arith)
taken_below (first ∷ rows) (suc index) row there = let more = taken_below rows index row there in (omega (arith, more.0), omega (arith, more.1))

-- the row can be appended to rows of this kind whose timeline draws this number next
pub record ComesNext (kind : Kind) (rows : List Row) (next : ℕ) (row : Row) : Type 0 where
  pub numbered : (1 ≤ row.number) × (row.number < next)
  pub fresh : IsFresh row.number rows
  pub fits : Fits rows (length rows) row.time
  pub room : length rows < most_rows
  pub of_kind : kind_of row.op ≡ kind
  pub accepted : IsValid kind (insert rows (length rows) row)

-- each row of a timeline comes next after those before it
pub comes_next : (kind : Kind) (rows : List Row) (next index : ℕ) (row : Row) → IsTimeline kind rows next → slice_get rows index ≡ Some row
    → ComesNext kind (take index rows) next row
comes_next kind rows next index row timeline there =
    let below = taken_below rows index row there in
    let appended : insert (take index rows) (length (take index rows)) row ≡ take (suc index) rows =
    insert_end (take index rows) row ∙ sym (take_next rows index row there) in
    record {
      numbered = all_at (λ r. (1 ≤ r.number) × (r.number < next)) rows index row timeline.numbered there;
      fresh = fresh_after rows index row timeline.replayable.own_numbers there;
      fits = fits_later rows index row timeline.in_order there;
      room = omega (arith, below.0, below.1, timeline.replayable.few);
      of_kind = all_at (λ r. kind_of r.op ≡ kind) rows index row timeline.replayable.of_kind there;
      accepted = rw appended (valid_take kind rows (suc index) timeline.replayable.valid);
    }
