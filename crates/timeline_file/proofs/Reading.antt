-- The row lines of a timeline read back, one after another.
use Rattle.std.proofs.Common.{◌≡◌, ◌≢◌, ℕ, ◌<◌, ◌≤◌, ◌^◌, true, false, nat_lt, List, [], ◌∷◌, ◌++◌, map, length, length-append}
use Rattle.std.proofs.Common.{append_assoc, append-nil, decimal, refl, sym, ap, ◌∙◌, arith, Option, Some, None}
use Rattle.std.specs.Prelude.{is_some}
use Rattle.std.specs.Result.{result_err, result_unwrap_or}
use Rattle.std.specs.List.{AllByRecursion}
use Rattle.std.proofs.lemmas.Bool.{and_from, eq-eqb, ne_eqb, le-ltb, lt-leb, lt-ltb}
use Rattle.retro_base.specs.declared.kind.Kind.{Kind}
use Rattle.retro_base.specs.declared.kind.Kind.TheVariants.{Queue, Stack, Deque, Dict, Pq}
use Rattle.retro_base.specs.declared.row.Row.{Row}
use Rattle.retro_base.specs.Kind.{kind_of, same_kind}
use Rattle.retro_base.specs.Limits.{most_rows, next_limit}
use Rattle.retro_base.specs.OpText.{op_text}
use Rattle.retro_base.specs.Replay.{fold_rows, run}
use Rattle.retro_base.specs.State.{State, empty, step}
use Rattle.retro_base.specs.Timeline.{HaveOwnNumbers, IsTimeline, TimesNeverFall}
use Rattle.script_grammar.specs.BlockLines.{is_end, is_passed_over, row_read}
use Rattle.script_grammar.specs.SpellingLaws.{words-then, number_is_word, decimal_is_word, row_number_of-decimal, time_of-decimal, op_of-text}
use Rattle.script_grammar.specs.Words.{words}
use Rattle.timeline_file.specs.Block.{taken, cause_of_row, has_number, last_time, are_below}
use Rattle.timeline_file.specs.ReadsBack.{IsInRange, ReadsBack, taken_all}
use Rattle.retro_base.specs.Name.{is_name}
use Rattle.timeline_file.specs.Saved.{row_text, end_text}
use Rattle.timeline_file.proofs.Header.{header_read}
use Rattle.retro_base.specs.Outcomes.{earlier_none, same_state}

-- the words of a row line
row_words : (row : Row) → row.number < next_limit → row.time < 2 ^ 64
    → words (row_text row) ≡ (35 ∷ decimal row.number) ∷ decimal row.time ∷ words (op_text row.op)
row_words row number time =
    words-then (35 ∷ decimal row.number) (decimal row.time ++ 32 ∷ op_text row.op) (number_is_word row.number (omega arith))
    ∙ ap (λ rest. (35 ∷ decimal row.number) ∷ rest) (words-then (decimal row.time) (op_text row.op) (decimal_is_word row.time time))

row_line_read : (row : Row) → 1 ≤ row.number → row.number < next_limit → IsInRange row → row_read (row_text row) ≡ Some row
unfolding row_read
row_line_read row least most range =
    rw (row_words row most range.0, row_number_of-decimal row.number least most, time_of-decimal row.time range.0, op_of-text row.op range.1) refl

row_line_counts : (row : Row) → row.number < next_limit → row.time < 2 ^ 64 → is_passed_over (row_text row) ≡ false
unfolding is_passed_over
row_line_counts row number time = rw (row_words row number time) refl

row_line_goes_on : (row : Row) → row.number < next_limit → row.time < 2 ^ 64 → is_end (row_text row) ≡ false
unfolding is_end
row_line_goes_on row number time = rw (row_words row number time) refl

-- a good row, after these
record IsGood (kind : Kind) (rows : List Row) (row : Row) : Type 0 where
  room : length rows < most_rows
  good : cause_of_row kind rows row ≡ None

read_one : (kind : Kind) (next : ℕ) (count : Option ℕ) (rows : List Row) (row : Row) → IsGood kind rows row → 1 ≤ row.number → row.number < next_limit → IsInRange row
    → taken (record { kind = kind; next = next; count = count; rows = rows; bad = None }) (row_text row) false
    ≡ record { kind = kind; next = next; count = count; rows = rows ++ row ∷ []; bad = None }
unfolding taken
read_one kind next count rows row good least most range =
    rw (row_line_counts row most range.0, row_line_read row least most range, lt-leb most_rows (length rows) good.room, good.good) refl

-- What a timeline says of one of its rows, which stands after some of them and in front of the others.
module _ {X : Type 0} (P : X → Type 0) where
  all_middle : (before : List X) (x : X) (after : List X) → AllByRecursion P (before ++ x ∷ after) → P x
  all_middle [] x after all = all.0
  all_middle (first ∷ before) x after all = all_middle before x after all.1

own_number : (before : List Row) (row : Row) (after : List Row) → HaveOwnNumbers (before ++ row ∷ after) → has_number row.number before ≡ false
own_number [] row after own = refl
own_number (first ∷ before) row after own =
    let other : row.number ≢ first.number = all_middle (λ r. r.number ≢ first.number) before row after own.0 in
    rw (ne_eqb first.number row.number (λ same. other (sym same))) (own_number before row after own.1)

not_earlier : (before : List Row) (row : Row) (after : List Row) → TimesNeverFall (before ++ row ∷ after) → last_time before ≤ row.time
not_earlier [] row after never = omega arith
not_earlier (first ∷ []) row after never = never.0.0
not_earlier (first ∷ next ∷ before) row after never = not_earlier (next ∷ before) row after never.1

performed : (before : List Row) (row : Row) (after : List Row) (s e : State) → result_err (run (before ++ row ∷ after) s) ≡ None
    → is_some (step row (result_unwrap_or (run before s) e)) ≡ true
unfolding fold_rows
performed [] row after s e valid =
    elim (step row s) as (λ o. step row s ≡ o → is_some (step row s) ≡ true) [
      | None ↦ λ stops. let wrong : ◌≡◌ {A = Option ℕ} (Some 0) None = rw stops at valid in absurd (cc)
      | Some t ↦ λ goes. rw goes refl
    ] refl
performed (first ∷ before) row after s e valid =
    elim (step first s) as (λ o. step first s ≡ o → is_some (step row (result_unwrap_or (run (first ∷ before) s) e)) ≡ true) [
      | None ↦ λ stops. let wrong : ◌≡◌ {A = Option ℕ} (Some 0) None = rw stops at valid in absurd (cc)
      | Some t ↦ λ goes.
          rw (goes, same_state (fold_rows step before t) e) (performed before row after t e (earlier_none (fold_rows step (before ++ row ∷ after) t) (rw goes at valid)))
    ] refl

itself : (kind : Kind) → same_kind kind kind ≡ true
itself Queue = refl
itself Stack = refl
itself Deque = refl
itself Dict = refl
itself Pq = refl

of_kind_is : (kind other : Kind) → kind ≡ other → same_kind kind other ≡ true
of_kind_is kind other same = rw same (itself other)

good_at : (kind : Kind) (next : ℕ) (before : List Row) (row : Row) (after : List Row) → IsTimeline kind (before ++ row ∷ after) next → IsGood kind before row
good_at kind next before row after timeline = record {
  room = omega (arith, length-append before (row ∷ after), timeline.replayable.few);
  good = rw (
    of_kind_is (kind_of row.op) kind (all_middle (λ r. kind_of r.op ≡ kind) before row after timeline.replayable.of_kind),
    own_number before row after timeline.replayable.own_numbers,
    le-ltb row.time (last_time before) (not_earlier before row after timeline.in_order),
    performed before row after (empty kind) (empty kind) timeline.replayable.valid,
  ) refl;
}

-- the row lines read back, after those that were read before
read_from : (kind : Kind) (next : ℕ) (count : Option ℕ) (before rows : List Row) → IsTimeline kind (before ++ rows) next → AllByRecursion IsInRange rows
    → taken_all (record { kind = kind; next = next; count = count; rows = before; bad = None }) (map row_text rows)
    ≡ record { kind = kind; next = next; count = count; rows = before ++ rows; bad = None }
read_from kind next count before [] timeline ranges = ap (λ rows. record { kind = kind; next = next; count = count; rows = rows; bad = None }) (sym (append-nil before))
read_from kind next count before (row ∷ rows) timeline ranges =
    let number = all_middle (λ r. (1 ≤ r.number) × (r.number < next)) before row rows timeline.numbered in
    let regroup : before ++ row ∷ rows ≡ (before ++ row ∷ []) ++ rows = sym (append_assoc before (row ∷ []) rows) in
    let first = read_one kind next count before row (good_at kind next before row rows timeline) number.0 (omega (arith, number.1, timeline.next_in_range.1)) ranges.0 in
    ap (λ block. taken_all block (map row_text rows)) first
    ∙ read_from kind next count (before ++ row ∷ []) rows (rw regroup at timeline) ranges.1
    ∙ ap (λ all. record { kind = kind; next = next; count = count; rows = all; bad = None }) (sym regroup)

no_row_line_ends : (next : ℕ) (rows : List Row) → next ≤ next_limit → AllByRecursion (λ row. (1 ≤ row.number) × (row.number < next)) rows → AllByRecursion IsInRange rows
    → AllByRecursion (λ row. is_end (row_text row) ≡ false) rows
no_row_line_ends next [] most numbered ranges = tt
no_row_line_ends next (row ∷ rows) most numbered ranges =
    (row_line_goes_on row (omega (arith, numbered.0.1)) ranges.0.0, no_row_line_ends next rows most numbered.1 ranges.1)

all_below : (next : ℕ) (rows : List Row) → AllByRecursion (λ row. (1 ≤ row.number) × (row.number < next)) rows → are_below next rows ≡ true
all_below next [] numbered = refl
all_below next (row ∷ rows) numbered = and_from (nat_lt row.number next) (are_below next rows) (lt-ltb row.number next numbered.0.1) (all_below next rows numbered.1)

end_is_end : is_end end_text ≡ true
unfolding is_end words
end_is_end = refl

pub reads_back : (name : List ℕ) (kind : Kind) (next : ℕ) (rows : List Row) → is_name name ≡ true → IsTimeline kind rows next → AllByRecursion IsInRange rows
    → ReadsBack name kind next rows
reads_back name kind next rows named timeline ranges = record {
  header = header_read name kind next (length rows) named timeline.next_in_range.0 timeline.next_in_range.1 timeline.replayable.few;
  row_lines = no_row_line_ends next rows timeline.next_in_range.1 timeline.numbered ranges;
  end_line = end_is_end;
  block = rw (read_from kind next (Some (length rows)) [] rows timeline ranges, all_below next rows timeline.numbered, eq-eqb (length rows) (length rows) refl) refl;
}
