-- An edit that is accepted, made with its mark: what its steps ask for, and what they come to.
use Rattle.std.proofs.Common.{◌≡◌, ℕ, ◌+◌, ◌<◌, ◌≤◌, Bool, true, false, ◌&&◌, List, length, refl, sym, ap, ◌∙◌, arith, Option, Some, None}
use Rattle.std.specs.Prelude.{nat_le, insert, remove, IfSome}
use Rattle.std.specs.BTreeSet.{BTreeSet}
use Rattle.std.proofs.lemmas.Bool.Decides.{nat_tests}
use Rattle.std.proofs.lemmas.List.Edits.{length-insert}
use Rattle.retro_base.specs.declared.row.Entry.{Entry}
use Rattle.retro_base.specs.ChangeLaws.{OneChangeOfPq}
use Rattle.retro_base.specs.Limits.{most_rows}
use Rattle.retro_base.specs.MarkedChange.{marked_change}
use Rattle.retro_base.specs.Weights.{added_as}
use Rattle.evidence.specs.declared.evidence.Evidence.{Evidence}
use Rattle.evidence.specs.Evidence.{IsEvidence}
use Rattle.evidence_check.specs.declared.weighed_row.WeighedRow.{WeighedRow}
use Rattle.evidence_check.specs.Changed.{IsChanged, changed_entry, is_gain, marked_where, moved_place}
use Rattle.evidence_check.specs.KeptNumbers.{AreWeighed, AreNumbers}
use Rattle.evidence_check.specs.Marks.{MarksSurvivors, changed_marks, edited_rows, entry_of, weighed_row, rows_of}
use Rattle.evidence_check.specs.Parts.{marked_at, shows_at}
use Rattle.evidence_check.specs.Truth.{cause_of, has_number, has_wrong_number, has_wrong_op, is_outside, reported_edit, reported_row}
use Rattle.evidence_check.proofs.Accepted.{Accepted, accepted_from}
use Rattle.evidence_check.proofs.Flat.{length_marked}
use Rattle.evidence_check.proofs.Marks.{kept_after}
use Rattle.evidence_check.proofs.Made.{cut_there, made_added, made_cut, weighed_rows, moved_shows, own_added, where_rows}
use Rattle.evidence_check.proofs.Marking.{length_rows}
use Rattle.evidence_check.proofs.Possible.{possible}
use Rattle.evidence_check.proofs.Reading.{names_entry}
use Rattle.evidence_check.proofs.Walks.{shown_within}

-- the tests, where a row is put in or taken out
not_full : (added : Bool) (n m : ℕ) → added ≡ true → (added && nat_le n m) ≡ false → m < n
not_full true n m is test = grind (arith, nat_tests)
not_full false n m is test = absurd (cc)

inside_added : (added : Bool) (place n : ℕ) (rows : List WeighedRow) → added ≡ true → is_outside added place (rows_of rows) ≡ false → place ≤ length (rows_of rows)
inside_added true place n rows is test = grind (arith, nat_tests)
inside_added false place n rows is test = absurd (cc)

inside_cut : (added : Bool) (place : ℕ) (rows : List WeighedRow) → added ≡ false → is_outside added place (rows_of rows) ≡ false → place < length (rows_of rows)
inside_cut true place rows is test = absurd (cc)
inside_cut false place rows is test = grind (arith, nat_tests)

module _ (old : List WeighedRow) (e : Evidence) (kept : MarksSurvivors old) (is : IsEvidence e) (none : cause_of (rows_of old) e ≡ None) where
  accepted : Accepted (rows_of old) e
  accepted = accepted_from (rows_of old) e none

  pub room_added : e.added ≡ true → length old < most_rows
  room_added added = let room = not_full e.added most_rows (length (rows_of old)) added accepted.room in let long = length_rows old in omega (arith, room, long)

  pub place_added : e.added ≡ true → e.place ≤ length old
  place_added added = let inside = inside_added e.added e.place 0 old added accepted.inside in let long = length_rows old in omega (arith, inside, long)

  pub fresh_added : e.added ≡ true → has_number e.number (rows_of old) ≡ false
  fresh_added added = let right : has_wrong_number true e.number e.place (rows_of old) ≡ false = rw added at accepted.number in right

  pub place_cut : e.added ≡ false → e.place < length old
  place_cut cuts = let inside = inside_cut e.added e.place old cuts accepted.inside in let long = length_rows old in omega (arith, inside, long)

  pub number_cut : e.added ≡ false → has_wrong_number false e.number e.place (rows_of old) ≡ false
  number_cut cuts = rw cuts at accepted.number

  pub own_cut : e.added ≡ false → shows_at entry_of old e.place ≡ added_as e.op e.number
  own_cut cuts =
      let inside : is_outside false e.place (rows_of old) ≡ false = rw cuts at accepted.inside in
      let op : has_wrong_op false e.op e.place (rows_of old) ≡ false = rw cuts at accepted.op in
      cut_there old e.place e.number e.op (possible old kept false e.place e.number e.op is.op inside (number_cut cuts) op).within

  module _ (read : marked_change (rows_of old) (reported_edit e) ≡ Some e.change) (changed : Option ℕ) (shows : IsChanged old e changed) where
    entry : (entry : Entry) × (changed_entry e.change ≡ Some entry)
    entry = names_entry (rows_of old) e.added e.place (reported_row e) e.change read

    pub changed_inside : IfSome changed (λ place. place < length old)
    changed_inside = inside changed shows
      where
        inside : (at : Option ℕ) → IsChanged old e at → IfSome at (λ place. place < length old)
        inside None own = tt
        inside (Some place) there = shown_within entry_of old place entry.0 (there ∙ entry.1)

    pub moved_inside : e.added ≡ true → (rows : List WeighedRow) → rows ≡ insert old e.place (weighed_row e) → moved_place e.place changed < length rows
    moved_inside added rows is_rows = rw is_rows
        (shown_within entry_of (insert old e.place (weighed_row e)) (moved_place e.place changed) entry.0 (moved_shows old e changed (place_added added) shows ∙ entry.1))

    pub rows_added : e.added ≡ true → (rows after : List WeighedRow) (alive : Bool) → rows ≡ insert old e.place (weighed_row e) → alive ≡ is_gain e.change
        → after ≡ marked_at (moved_place e.place changed) alive rows → after ≡ changed_marks e.change (edited_rows old e.added e.place (weighed_row e))
    rows_added added rows after alive is_rows is_alive is_after =
        is_after ∙ ap (λ l. marked_at (moved_place e.place changed) alive l) is_rows
        ∙ ap (λ b. marked_at (moved_place e.place changed) b (insert old e.place (weighed_row e))) is_alive
        ∙ made_added old e changed entry.0 entry.1 (place_added added) shows (own_added old e.place (weighed_row e) kept.replayable.own_numbers (fresh_added added))
        ∙ ap (λ b. changed_marks e.change (edited_rows old b e.place (weighed_row e))) (sym added)

    pub rows_cut : e.added ≡ false → (rows after : List WeighedRow) (alive : Bool) → rows ≡ marked_where changed alive old → alive ≡ is_gain e.change
        → after ≡ remove rows e.place → after ≡ changed_marks e.change (edited_rows old e.added e.place (weighed_row e))
    rows_cut cuts rows after alive is_rows is_alive is_after =
        is_after ∙ ap (λ l. remove l e.place) (is_rows ∙ ap (λ b. marked_where changed b old) is_alive)
        ∙ made_cut old e changed entry.0 entry.1 shows kept.replayable.own_numbers (own_cut cuts)
        ∙ ap (λ b. changed_marks e.change (edited_rows old b e.place (weighed_row e))) (sym cuts)

  pub few_added : e.added ≡ true → (rows : List WeighedRow) → rows ≡ insert old e.place (weighed_row e) → length rows ≤ most_rows
  few_added added rows is_rows =
      let room = room_added added in
      let long : length rows ≡ length old + 1 = ap length is_rows ∙ length-insert old e.place (weighed_row e) (place_added added) in
      omega (arith, room, long)

  pub kept_made : OneChangeOfPq → (after : List WeighedRow) (numbers : BTreeSet ℕ) → after ≡ changed_marks e.change (edited_rows old e.added e.place (weighed_row e)) → AreNumbers (rows_of after) numbers
      → AreWeighed after numbers
  kept_made one after numbers is_after are = record { marks = rw is_after (kept_after one old e kept is none); numbers_are = are }

pub length_where : (changed : Option ℕ) (alive : Bool) (rows : List WeighedRow) → length (marked_where changed alive rows) ≡ length rows
length_where None alive rows = refl
length_where (Some place) alive rows = length_marked place alive rows

pub numbers_marked : (place : ℕ) (alive : Bool) (rows after : List WeighedRow) (numbers : BTreeSet ℕ) → after ≡ marked_at place alive rows → AreNumbers (rows_of rows) numbers → AreNumbers (rows_of after) numbers
numbers_marked place alive rows after numbers is_after are = rw (is_after, weighed_rows place alive rows) are

pub numbers_where : (changed : Option ℕ) (alive : Bool) (rows after : List WeighedRow) (numbers : BTreeSet ℕ) → after ≡ marked_where changed alive rows → AreNumbers (rows_of rows) numbers → AreNumbers (rows_of after) numbers
numbers_where changed alive rows after numbers is_after are = rw (is_after, where_rows changed alive rows) are
