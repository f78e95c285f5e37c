-- Rows of a line replay exactly where the size of the line never falls below 0, and the first one after which it
-- does is the first that cannot be performed.
use Rattle.std.proofs.Common.{◌≡◌, ℕ, zero, suc, ◌≤◌, ℤ, pos, negsuc, ◌+ℤ◌, ◌≤ℤ◌, List, [], ◌∷◌, take, length, Option, Some, None, Result, Ok, Err, refl, sym, ap, ◌∙◌, arith, subst, length-take-le}
use Rattle.std.specs.Result.{result_err, result_unwrap_or}
use Rattle.std.specs.Option.{option_map}
use Rattle.std.proofs.lemmas.Int.{ints}
use Rattle.retro_base.specs.declared.kind.Kind.{Kind}
use Rattle.retro_base.specs.declared.kind.Kind.TheVariants.{Dict, Pq}
use Rattle.retro_base.specs.declared.op.Op.{Op}
use Rattle.retro_base.specs.declared.row.Row.{Row}
use Rattle.retro_base.specs.State.{State, items, empty, step}
use Rattle.retro_base.specs.Replay.{one_later, run, failure, IsValid, state_at}
use Rattle.retro_base.specs.Kind.{kind_of}
use Rattle.retro_base.specs.Outcomes.{is_ok}
use Rattle.retro_base.specs.PrefixLaws.{valid_take}
use Rattle.retro_base.specs.Timeline.{AreOfKind}
use Rattle.retro_base.specs.lemmas.Folds.{ok_same, fold_rows-nil, fold_rows-some, fold_rows-none}
use Rattle.retro_base.specs.lemmas.Replayable.{all_before}
use Rattle.prefix_trees.specs.Growth.{IsLine, left_growth, right_growth, sign_of, value_of, grown}
use Rattle.prefix_trees.specs.Falls.{FallsFirstFrom, NeverFalls, FallsFirst}
use Rattle.prefix_trees.specs.LineLaws.{Moves, line_step, line_stop, growth_is, run-first}

pub empty-line : (kind : Kind) → IsLine kind → empty kind ≡ items []
empty-line Dict line = absurd line
empty-line Pq line = absurd line
empty-line kind line = refl

-- the number of items after one more row
size_next : (op : Op) (xs next : List ℤ) → Moves (left_growth op) (right_growth op) (value_of op) xs next → pos (length next) ≡ pos (length xs) +ℤ sign_of op
size_next op xs next move = omega (arith, ints, move.size, growth_is op)

later_failure : (r : Result State ℕ) → result_err (one_later r) ≡ option_map suc (result_err r)
later_failure (Ok state) = refl
later_failure (Err index) = refl

-- the row that stops is the first one
stops_first : (row : Row) (rows : List Row) (start : ℤ) (answer : Option ℕ) → sign_of row.op ≡ negsuc 0 → start ≡ pos 0 → FallsFirstFrom start (row ∷ rows) answer
    → ◌≡◌ {A = Option ℕ} (Some 0) answer
stops_first row rows start None sign none never = absurd (omega (arith, ints, never 1 (omega arith), sign, none))
stops_first row rows start (Some zero) sign none falls = refl
stops_first row rows start (Some (suc index)) sign none falls = absurd (omega (arith, ints, falls.not_before 1 (omega arith), sign, none))

-- what falls after a row that is performed
falls_later : (row : Row) (rows : List Row) (start : ℤ) (answer : Option ℕ) → pos 0 ≤ℤ (start +ℤ sign_of row.op) → FallsFirstFrom start (row ∷ rows) answer
    → (later : Option ℕ) × FallsFirstFrom (start +ℤ sign_of row.op) rows later × (option_map suc later ≡ answer)
falls_later row rows start None enough never = (None, λ place within. omega (arith, ints, never (suc place) (omega arith)), refl)
falls_later row rows start (Some zero) enough falls = absurd (omega (arith, ints, falls.falls))
falls_later row rows start (Some (suc index)) enough falls = (
  Some index,
  record {
    within = omega (arith, falls.within);
    falls = omega (arith, ints, falls.falls);
    not_before = λ place before. omega (arith, ints, falls.not_before (suc place) (omega arith));
  },
  refl,
)

failure_from : (kind : Kind) (rows : List Row) (xs : List ℤ) (answer : Option ℕ) → IsLine kind → AreOfKind kind rows → FallsFirstFrom (pos (length xs)) rows answer
    → result_err (run rows (items xs)) ≡ answer
failure_from kind [] xs None line all falls = ap result_err (fold_rows-nil step (items xs))
failure_from kind [] xs (Some index) line all falls = absurd (omega (arith, falls.within))
failure_from kind (row ∷ rows) xs answer line all falls =
    elim (step row (items xs)) as (λ o. step row (items xs) ≡ o → result_err (run (row ∷ rows) (items xs)) ≡ answer) [
      | None ↦ λ stops.
          let stop = line_stop row.op row.number xs (subst IsLine (sym all.0) line) stops in
          ap result_err (fold_rows-none step row rows (items xs) stops) ∙ stops_first row rows (pos (length xs)) answer stop.0 (ap pos stop.1) falls
      | Some next ↦ λ goes.
          let moved = line_step row.op row.number xs next (subst IsLine (sym all.0) line) goes in
          let size = size_next row.op xs moved.0 moved.2 in
          let later = falls_later row rows (pos (length xs)) answer (omega (arith, ints, size)) falls in
          ap result_err (fold_rows-some step row rows (items xs) next goes ∙ ap (λ s. one_later (run rows s)) moved.1)
          ∙ later_failure (run rows (items moved.0))
          ∙ ap (option_map suc) (failure_from kind rows moved.0 later.0 line all.1 (subst (λ n. FallsFirstFrom n rows later.0) (sym size) later.1))
          ∙ later.2
    ] refl

-- which row fails first is found by the sizes of the line
pub failure-falls : (kind : Kind) (rows : List Row) (answer : Option ℕ) → IsLine kind → AreOfKind kind rows → FallsFirst rows answer → failure kind rows ≡ answer
failure-falls kind rows answer line all falls = ap (λ s. result_err (run rows s)) (empty-line kind line) ∙ failure_from kind rows [] answer line all falls

-- how many items there are after rows that can be performed
sizes : (kind : Kind) (rows : List Row) (xs : List ℤ) (state : State) → IsLine kind → AreOfKind kind rows → run rows (items xs) ≡ Ok state
    → (zs : List ℤ) × (state ≡ items zs) × (pos (length zs) ≡ pos (length xs) +ℤ grown sign_of rows (length rows))
sizes kind [] xs state line all is = (xs, ok_same _ is (fold_rows-nil step (items xs)), omega (arith, ints))
sizes kind (row ∷ rows) xs state line all is =
    let first = run-first row rows (items xs) state is in
    let moved = line_step row.op row.number xs first.0 (subst IsLine (sym all.0) line) first.1 in
    let rest = sizes kind rows moved.0 state line all.1 (ap (run rows) (sym moved.1) ∙ first.2) in
    (rest.0, rest.1, omega (arith, ints, rest.2, size_next row.op xs moved.0 moved.2))

pub grown-take : (growth : Op → ℤ) (rows : List Row) (place earlier : ℕ) → earlier ≤ place → grown growth (take place rows) earlier ≡ grown growth rows earlier
grown-take growth rows place zero order = refl
grown-take growth rows zero (suc earlier) order = absurd (omega arith)
grown-take growth [] (suc place) (suc earlier) order = refl
grown-take growth (row ∷ rows) (suc place) (suc earlier) order = ap (λ s. growth row.op +ℤ s) (grown-take growth rows place earlier (omega arith))

-- the line after the first so many rows
pub record LineAt (kind : Kind) (rows : List Row) (place : ℕ) (line : List ℤ) : Type 0 where
  pub replayed : run (take place rows) (items []) ≡ Ok (items line)
  pub state : state_at kind rows place ≡ items line
  pub size : pos (length line) ≡ grown sign_of rows place

pub line-at : (kind : Kind) (rows : List Row) (place : ℕ) → IsLine kind → AreOfKind kind rows → IsValid kind rows → place ≤ length rows → (line : List ℤ) × LineAt kind rows place line
line-at kind rows place line all valid within =
    let part = is_ok (run (take place rows) (empty kind)) (valid_take kind rows place valid) in
    let from_items : run (take place rows) (items []) ≡ Ok part.0 = ap (run (take place rows)) (sym (empty-line kind line)) ∙ part.1 in
    let found = sizes kind (take place rows) [] part.0 line (all_before (λ row. kind_of row.op ≡ kind) rows place all) from_items in (
      found.0,
      record {
        replayed = from_items ∙ ap Ok found.1;
        state = ap (λ r. result_unwrap_or r (empty kind)) part.1 ∙ found.1;
        size = omega (arith, ints, found.2, ap (grown sign_of (take place rows)) (length-take-le place rows within), grown-take sign_of rows place place (omega arith));
      },
    )

pub never-falls : (kind : Kind) (rows : List Row) → IsLine kind → AreOfKind kind rows → IsValid kind rows → NeverFalls rows
never-falls kind rows line all valid place within = let at = line-at kind rows place line all valid within in omega (arith, ints, at.1.size)
