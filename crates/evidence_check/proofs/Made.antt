-- The rows and their numbers after an edit and its mark.
use Rattle.std.proofs.Common.{◌≡◌, ℕ, zero, suc, ◌+◌, ◌<◌, ◌≤◌, Bool, true, false, cond, ◌||◌, List, [], ◌∷◌, length, map, refl, sym, ap, ◌∙◌, arith, Option, Some, None}
use Rattle.std.specs.Prelude.{◌==◌, nat_lt, slice_get, insert, remove, option_map}
use Rattle.std.specs.BTreeMap.{is_at}
use Rattle.std.specs.BTreeSet.{BTreeSet, contains}
use Rattle.std.specs.Ordering.{is_eq, nat_cmp}
use Rattle.std.specs.List.{list_any}
use Rattle.std.specs.Option.{option_and_then}
use Rattle.std.proofs.lemmas.Bool.Decides.{Decides-eqb, nat_tests}
use Rattle.std.proofs.lemmas.Option.{slice_get-map}
use Rattle.retro_base.specs.declared.op.Op.{Op}
use Rattle.retro_base.specs.declared.row.Change.{Change}
use Rattle.retro_base.specs.declared.row.Change.TheVariants.{Plain, Gain, Lose}
use Rattle.retro_base.specs.declared.row.Entry.{Entry}
use Rattle.retro_base.specs.declared.row.Row.{Row}
use Rattle.retro_base.specs.EditedLists.{get-insert}
use Rattle.retro_base.specs.OrderLaws.{own_numbers_with}
use Rattle.retro_base.specs.Replay.{fold_rows}
use Rattle.retro_base.specs.Timeline.{HaveOwnNumbers}
use Rattle.retro_base.specs.Weights.{added_as, added_by}
use Rattle.retro_base.specs.lemmas.bridges.EntryOrder.{same_entry-refl}
use Rattle.evidence.specs.declared.evidence.Evidence.{Evidence}
use Rattle.evidence_check.specs.declared.weighed_row.WeighedRow.{WeighedRow}
use Rattle.evidence_check.specs.Changed.{IsChanged, changed_entry, is_gain, marked_where, moved_place}
use Rattle.evidence_check.specs.KeptNumbers.{AreWeighed, AreNumbers}
use Rattle.evidence_check.specs.Marks.{adds, changed_marks, entry_of, weighed_row, unweighed, rows_of, with_mark}
use Rattle.evidence_check.specs.Parts.{marked_at, shows_at}
use Rattle.evidence_check.specs.Truth.{has_number, has_wrong_number}
use Rattle.evidence_check.proofs.KeptNumbers.{number_with, number_without, set_marked}
use Rattle.evidence_check.proofs.Marks.{nothing_kept}
use Rattle.evidence_check.proofs.Marking.{insert-map, remove-map}
use Rattle.evidence_check.proofs.Possible.{holds_at, is_fresh}

-- numbers
eq_nat : (n m : ℕ) → is_eq (nat_cmp n m) ≡ (n == m)
eq_nat n m = grind (arith, nat_tests)

-- a number is put in or taken out, and the others stay
abbrev pub Sets : ℕ → Bool → BTreeSet ℕ → BTreeSet ℕ → Type 0
Sets number there before after = (other : ℕ) → contains nat_cmp after other ≡ cond (is_at (nat_cmp number) other) there (contains nat_cmp before other)

set_is : (number other : ℕ) (there before : Bool) → cond (is_at (nat_cmp number) other) there before ≡ cond (number == other) there before
set_is number other there before = ap (λ b. cond b there before) (eq_nat number other)

module _ (rows : List Row) (before after : BTreeSet ℕ) (are : AreNumbers rows before) where
  pub numbers_with : (place : ℕ) (row : Row) → Sets row.number true before after → AreNumbers (insert rows place row) after
  numbers_with place row sets = λ other.
      sets other ∙ set_is row.number other true (contains nat_cmp before other) ∙ ap (λ b. cond (row.number == other) true b) (are other)
      ∙ elim (row.number == other) as (λ b. cond b true (has_number other rows) ≡ (b || has_number other rows)) [ true ↦ refl | false ↦ refl ]
      ∙ sym (number_with other rows place row)

  pub numbers_without : (place : ℕ) (row : Row) → HaveOwnNumbers rows → slice_get rows place ≡ Some row → Sets row.number false before after → AreNumbers (remove rows place) after
  numbers_without place row own there sets = λ other.
      sets other ∙ set_is row.number other false (contains nat_cmp before other) ∙ ap (λ b. cond (row.number == other) false b) (are other)
      ∙ sym (number_without other rows place row own there)

  -- the row that is cut has this number
  pub numbers_cut : (place number : ℕ) → HaveOwnNumbers rows → has_wrong_number false number place rows ≡ false → Sets number false before after → AreNumbers (remove rows place) after
  numbers_cut place number own right sets =
      let found = holds_at (λ row. row.number == number) (slice_get rows place) right in
      let same : number ≡ found.0.number = sym ((Decides-eqb found.0.number number).0 found.2) in
      numbers_without place found.0 own found.1 (rw same at sets)

  -- a number that was put in is taken back
  pub numbers_back : (between : BTreeSet ℕ) (number : ℕ) → has_number number rows ≡ false → Sets number true before between → Sets number false between after → AreNumbers rows after
  numbers_back between number fresh sets takes = λ other.
      takes other ∙ set_is number other false (contains nat_cmp between other)
      ∙ ap (λ b. cond (number == other) false b) (sets other ∙ set_is number other true (contains nat_cmp before other) ∙ ap (λ b. cond (number == other) true b) (are other))
      ∙ elim (number == other) as (λ b. number == other ≡ b → cond b false (cond b true (has_number other rows)) ≡ has_number other rows) [
        | true ↦ λ same. sym (ap (λ n. has_number n rows) (sym ((Decides-eqb number other).0 same)) ∙ fresh)
        | false ↦ λ differs. refl
      ] refl

  pub numbers_same : ((other : ℕ) → contains nat_cmp after other ≡ contains nat_cmp before other) → AreNumbers rows after
  numbers_same same = λ other. same other ∙ are other

pub nothing_beside : (numbers : BTreeSet ℕ) → numbers.keys ≡ [] → AreWeighed [] numbers
unfolding fold_rows
nothing_beside numbers none = record { marks = nothing_kept; numbers_are = λ number. ap (λ keys. list_any (is_at (nat_cmp number)) keys) none }

-- the row at a place that shows an entry
shows_row : (rows : List WeighedRow) (place : ℕ) (entry : Entry) → shows_at entry_of rows place ≡ Some entry → (row : WeighedRow) × (slice_get rows place ≡ Some row) × (adds entry row ≡ true)
shows_row rows place entry is = in_row (slice_get rows place) is
  where
    in_row : (o : Option WeighedRow) → option_and_then entry_of o ≡ Some entry → (row : WeighedRow) × (o ≡ Some row) × (adds entry row ≡ true)
    in_row None none = absurd (cc)
    in_row (Some row) some = (row, refl, rw some (same_entry-refl entry))

pub mark_marked : (entry : Entry) (alive : Bool) (rows : List WeighedRow) (place : ℕ) → HaveOwnNumbers (rows_of rows) → shows_at entry_of rows place ≡ Some entry
    → marked_at place alive rows ≡ map (with_mark entry alive) rows
mark_marked entry alive rows place own shows =
    let found = shows_row rows place entry shows in
    set_marked entry alive rows place found.0 own found.1 found.2

-- a row after one was put in
get_before : (xs : List WeighedRow) (place at : ℕ) (x : WeighedRow) → at < place → place ≤ length xs → slice_get (insert xs place x) at ≡ slice_get xs at
get_before xs zero at x before within = absurd (let none : ⊥ = omega arith in none)
get_before [] (suc place) at x before within = absurd (let none : ⊥ = omega arith in none)
get_before (y ∷ xs) (suc place) zero x before within = refl
get_before (y ∷ xs) (suc place) (suc at) x before within = get_before xs place at x (omega arith) (omega arith)

get_after : (xs : List WeighedRow) (place at : ℕ) (x : WeighedRow) → place ≤ at → slice_get (insert xs place x) (suc at) ≡ slice_get xs at
get_after xs zero at x after = refl
get_after [] (suc place) at x after = refl
get_after (y ∷ xs) (suc place) zero x after = absurd (let none : ⊥ = omega arith in none)
get_after (y ∷ xs) (suc place) (suc at) x after = get_after xs place at x (omega arith)

pub moved_shows : (rows : List WeighedRow) (e : Evidence) (changed : Option ℕ) → e.place ≤ length rows → IsChanged rows e changed
    → shows_at entry_of (insert rows e.place (weighed_row e)) (moved_place e.place changed) ≡ changed_entry e.change
moved_shows rows e None within own = ap (option_and_then entry_of) (get-insert rows e.place (weighed_row e) within) ∙ own
moved_shows rows e (Some place) within shows =
    elim (nat_lt place e.place) as (λ t. nat_lt place e.place ≡ t → shows_at entry_of (insert rows e.place (weighed_row e)) (cond t place (place + 1)) ≡ changed_entry e.change) [
      | true ↦ λ before. ap (option_and_then entry_of) (get_before rows e.place place (weighed_row e) (is_before before) within) ∙ shows
      | false ↦ λ after.
          ap (λ n. shows_at entry_of (insert rows e.place (weighed_row e)) n) (let one : place + 1 ≡ suc place = omega arith in one)
          ∙ ap (option_and_then entry_of) (get_after rows e.place place (weighed_row e) (is_after after)) ∙ shows
    ] refl
  where
    is_before : nat_lt place e.place ≡ true → place < e.place
    is_before test = grind (arith, nat_tests)

    is_after : nat_lt place e.place ≡ false → e.place ≤ place
    is_after test = grind (arith, nat_tests)

-- marks by the change
pub changed_is : (change : Change) (entry : Entry) (rows : List WeighedRow) → changed_entry change ≡ Some entry → changed_marks change rows ≡ map (with_mark entry (is_gain change)) rows
changed_is Plain entry rows is = absurd (cc)
changed_is (Gain bridge other) entry rows is = let same : other ≡ entry = cc in ap (λ e. map (with_mark e true) rows) same
changed_is (Lose bridge other) entry rows is = let same : other ≡ entry = cc in ap (λ e. map (with_mark e false) rows) same

pub made_added : (rows : List WeighedRow) (e : Evidence) (changed : Option ℕ) (entry : Entry) → changed_entry e.change ≡ Some entry → e.place ≤ length rows → IsChanged rows e changed
    → HaveOwnNumbers (rows_of (insert rows e.place (weighed_row e)))
    → marked_at (moved_place e.place changed) (is_gain e.change) (insert rows e.place (weighed_row e)) ≡ changed_marks e.change (insert rows e.place (weighed_row e))
made_added rows e changed entry names within shows own =
    mark_marked entry (is_gain e.change) (insert rows e.place (weighed_row e)) (moved_place e.place changed) own (moved_shows rows e changed within shows ∙ names)
    ∙ sym (changed_is e.change entry (insert rows e.place (weighed_row e)) names)

remove_mark : (rows : List WeighedRow) (place : ℕ) (alive : Bool) → remove (marked_at place alive rows) place ≡ remove rows place
remove_mark [] place alive = refl
remove_mark (row ∷ rows) zero alive = refl
remove_mark (row ∷ rows) (suc place) alive = ap (λ more. row ∷ more) (remove_mark rows place alive)

pub made_cut : (rows : List WeighedRow) (e : Evidence) (changed : Option ℕ) (entry : Entry) → changed_entry e.change ≡ Some entry → IsChanged rows e changed
    → HaveOwnNumbers (rows_of rows) → shows_at entry_of rows e.place ≡ added_as e.op e.number
    → remove (marked_where changed (is_gain e.change) rows) e.place ≡ changed_marks e.change (remove rows e.place)
made_cut rows e None entry names own_row own there =
    sym (remove_mark rows e.place (is_gain e.change)) ∙ ap (λ l. remove l e.place) (mark_marked entry (is_gain e.change) rows e.place own (there ∙ own_row ∙ names))
    ∙ sym (remove-map (with_mark entry (is_gain e.change)) e.place rows) ∙ sym (changed_is e.change entry (remove rows e.place) names)
made_cut rows e (Some place) entry names shows own there =
    ap (λ l. remove l e.place) (mark_marked entry (is_gain e.change) rows place own (shows ∙ names))
    ∙ sym (remove-map (with_mark entry (is_gain e.change)) e.place rows) ∙ sym (changed_is e.change entry (remove rows e.place) names)

-- the row that is cut adds what evidence says
pub cut_there : (rows : List WeighedRow) (place number : ℕ) (op : Op) → slice_get (rows_of rows) place ≡ Some (record { number = number; time = 0; op = op }) → shows_at entry_of rows place ≡ added_as op number
cut_there rows place number op there = in_row (slice_get rows place) (sym (slice_get-map unweighed rows place) ∙ there)
  where
    in_row : (o : Option WeighedRow) → option_map unweighed o ≡ Some (record { number = number; time = 0; op = op }) → option_and_then entry_of o ≡ added_as op number
    in_row None none = absurd (cc)
    in_row (Some row) some = let same : unweighed row ≡ record { number = number; time = 0; op = op } = cc in ap added_by same

-- a mark changes no number
pub weighed_rows : (place : ℕ) (alive : Bool) (rows : List WeighedRow) → rows_of (marked_at place alive rows) ≡ rows_of rows
weighed_rows place alive [] = refl
weighed_rows zero alive (row ∷ rows) = refl
weighed_rows (suc place) alive (row ∷ rows) = ap (λ more. unweighed row ∷ more) (weighed_rows place alive rows)

pub where_rows : (changed : Option ℕ) (alive : Bool) (rows : List WeighedRow) → rows_of (marked_where changed alive rows) ≡ rows_of rows
where_rows None alive rows = refl
where_rows (Some place) alive rows = weighed_rows place alive rows

pub own_added : (rows : List WeighedRow) (place : ℕ) (row : WeighedRow) → HaveOwnNumbers (rows_of rows) → has_number row.number (rows_of rows) ≡ false → HaveOwnNumbers (rows_of (insert rows place row))
own_added rows place row own fresh = rw (insert-map unweighed place rows row) (own_numbers_with (rows_of rows) place (unweighed row) own (is_fresh row.number (rows_of rows) fresh))
