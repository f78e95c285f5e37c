-- What is kept beside the rows, after an edit.
use Rattle.std.proofs.Common.{◌≡◌, ◌≢◌, ℕ, zero, suc, Bool, true, false, cond, ◌||◌, List, [], ◌∷◌, map, refl, sym, ap, ◌∙◌, Some}
use Rattle.std.specs.Prelude.{◌==◌, slice_get, insert, remove}
use Rattle.std.specs.List.{AllByRecursion}
use Rattle.std.proofs.lemmas.Bool.{ne_eqb}
use Rattle.std.proofs.lemmas.Bool.Decides.{Decides-eqb}
use Rattle.std.specs.Option.{option_map_or}
use Rattle.retro_base.specs.declared.op.Op.{Op}
use Rattle.retro_base.specs.declared.op.Op.TheVariants.{Ins, DelMin}
use Rattle.retro_base.specs.declared.row.Entry.{Entry}
use Rattle.retro_base.specs.declared.row.Row.{Row}
use Rattle.retro_base.specs.Bridges.{same_entry}
use Rattle.retro_base.specs.Weights.{added_as}
use Rattle.evidence_check.specs.declared.weighed_row.WeighedRow.{WeighedRow}
use Rattle.evidence_check.specs.Marks.{adds, rows_of, with_mark}
use Rattle.evidence_check.specs.Parts.{marked_at}
use Rattle.retro_base.specs.Timeline.{HaveOwnNumbers, IsFresh}
use Rattle.retro_base.specs.OrderLaws.{all_at}
use Rattle.retro_base.specs.lemmas.bridges.EntryOrder.{same_entry-same}
use Rattle.evidence_check.specs.Truth.{has_number}

-- the numbers of rows with one more
pub swapped : (a b c : Bool) → (a || (b || c)) ≡ (b || (a || c))
swapped true true c = refl
swapped true false c = refl
swapped false b c = refl

pub number_with : (other : ℕ) (rows : List Row) (place : ℕ) (row : Row) → has_number other (insert rows place row) ≡ (row.number == other || has_number other rows)
number_with other rows zero row = refl
number_with other [] (suc place) row = refl
number_with other (first ∷ rows) (suc place) row =
    ap (λ b. first.number == other || b) (number_with other rows place row) ∙ swapped (first.number == other) (row.number == other) (has_number other rows)

pub fresh_number : (number : ℕ) (rows : List Row) → IsFresh number rows → has_number number rows ≡ false
fresh_number number [] fresh = refl
fresh_number number (row ∷ rows) fresh = rw (ne_eqb row.number number fresh.0) (fresh_number number rows fresh.1)

without_first : (other : ℕ) (first : Row) (rows : List Row) → IsFresh first.number rows → has_number other rows ≡ cond (first.number == other) false (first.number == other || has_number other rows)
without_first other first rows fresh =
    elim (first.number == other) as (λ b. first.number == other ≡ b → has_number other rows ≡ cond b false (b || has_number other rows)) [
      | true ↦ λ is. fresh_number other rows (rw ((Decides-eqb first.number other).0 is) at fresh)
      | false ↦ λ differs. refl
    ] refl

-- the numbers of rows of which one was taken out
pub number_without : (other : ℕ) (rows : List Row) (place : ℕ) (row : Row) → HaveOwnNumbers rows → slice_get rows place ≡ Some row
    → has_number other (remove rows place) ≡ cond (row.number == other) false (has_number other rows)
number_without other [] place row own there = absurd (cc)
number_without other (first ∷ rows) zero row own there =
    let same : row ≡ first = cc in
    rw same (without_first other first rows own.0)
number_without other (first ∷ rows) (suc place) row own there =
    elim (row.number == other) as (λ b. row.number == other ≡ b → (first.number == other || has_number other (remove rows place)) ≡ cond b false (first.number == other || has_number other rows)) [
      | true ↦ λ is.
          let number : row.number ≡ other = (Decides-eqb row.number other).0 is in
          let apart : first.number ≢ other = λ same. all_at (λ r. r.number ≢ first.number) rows place row own.0 there (number ∙ sym same) in
          rw (number_without other rows place row own.1 there, is, ne_eqb first.number other apart) refl
      | false ↦ λ differs. rw (number_without other rows place row own.1 there, differs) refl
    ] refl

-- a row that adds an entry has its number
hit_number : (entry : Entry) (row : WeighedRow) → adds entry row ≡ true → row.number ≡ entry.number
hit_number entry row hit = added_by_op row.op hit
  where
    added_by_op : (op : Op) → option_map_or (same_entry entry) (added_as op row.number) false ≡ true → row.number ≡ entry.number
    added_by_op (Ins key) is = ap (λ e. e.number) (sym (same_entry-same entry (record { key = key; number = row.number }) is))
    added_by_op DelMin is = absurd (cc)
    added_by_op op is = absurd (cc)

missed_first : (entry : Entry) (first row : WeighedRow) → adds entry row ≡ true → row.number ≢ first.number → adds entry first ≡ false
missed_first entry first row hit apart = elim (adds entry first) as (λ b. adds entry first ≡ b → b ≡ false) [
  | true ↦ λ also. absurd (apart (hit_number entry row hit ∙ sym (hit_number entry first also)))
  | false ↦ λ misses. refl
] refl

unmarked_others : (entry : Entry) (alive : Bool) (others : List WeighedRow) (row : WeighedRow) → adds entry row ≡ true → IsFresh row.number (rows_of others) → map (with_mark entry alive) others ≡ others
unmarked_others entry alive [] row hit fresh = refl
unmarked_others entry alive (first ∷ others) row hit fresh =
    rw (missed_first entry first row hit (λ same. fresh.0 (sym same)), unmarked_others entry alive others row hit fresh.1) refl

number_at : (P : ℕ → Type 0) (marked : List WeighedRow) (place : ℕ) (row : WeighedRow) → AllByRecursion (λ r. P r.number) (rows_of marked) → slice_get marked place ≡ Some row → P row.number
number_at P [] place row all there = absurd (cc)
number_at P (first ∷ others) zero row all there = let same : first ≡ row = cc in rw same at all.0
number_at P (first ∷ others) (suc place) row all there = number_at P others place row all.1 there

-- of a row that adds the entry, the mark alone is set
pub set_marked : (entry : Entry) (alive : Bool) (marked : List WeighedRow) (place : ℕ) (row : WeighedRow) → HaveOwnNumbers (rows_of marked) → slice_get marked place ≡ Some row
    → adds entry row ≡ true → marked_at place alive marked ≡ map (with_mark entry alive) marked
set_marked entry alive [] place row own there hit = absurd (cc)
set_marked entry alive (first ∷ others) zero row own there hit =
    let same : first ≡ row = cc in
    rw (same, hit, unmarked_others entry alive others row hit (rw same at own.0)) refl
set_marked entry alive (first ∷ others) (suc place) row own there hit =
    rw (missed_first entry first row hit (number_at (λ n. n ≢ first.number) others place row own.0 there), set_marked entry alive others place row own.1 there hit) refl
