-- One row more or less in rows that stand in two parts.
use Rattle.std.proofs.Common.{◌≡◌, ℕ, ◌+◌, ◌-◌, ◌<◌, ◌≤◌, Bool, true, false, List, ◌++◌, length, refl, ap, sym, ◌∙◌, arith, length-append}
use Rattle.std.specs.Prelude.{nat_lt}
use Rattle.std.specs.List.{insert}
use Rattle.std.proofs.lemmas.Bool.Decides.{nat_tests}
use Rattle.std.proofs.lemmas.List.Edits.{insert-append_left, insert-append_right, length-insert, length-remove, remove-append_left, remove-append_right}
use Rattle.retro_base.specs.declared.kind.Kind.TheVariants.{Pq}
use Rattle.retro_base.specs.declared.row.Row.{Row}
use Rattle.retro_base.specs.Kind.{kind_of}
use Rattle.retro_base.specs.Limits.{most_rows}
use Rattle.retro_base.specs.OrderLaws.{all_with, all_without}
use Rattle.retro_base.specs.Timeline.{AreOfKind}
use Rattle.pq_fusion.specs.declared.row_edit.Way.{Way}
use Rattle.pq_fusion.specs.declared.row_edit.Way.TheVariants.{Put, Cut}
use Rattle.pq_fusion.specs.RowEdits.{IsPossible, count_after, is_first, rows_after}
use Rattle.pq_fusion.proofs.Parts.{there_earlier, there_later, there_within}

-- on which side the place is
pub within_first : (way : Way) (place n : ℕ) → is_first way place n ≡ true → place ≤ n
within_first Put place n first = grind (arith, nat_tests)
within_first Cut place n first = grind (arith, nat_tests)

below_first : (place n : ℕ) → nat_lt place n ≡ true → place < n
below_first place n first = grind (arith, nat_tests)

pub behind_first : (way : Way) (place n : ℕ) → is_first way place n ≡ false → n ≤ place
behind_first Put place n second = grind (arith, nat_tests)
behind_first Cut place n second = grind (arith, nat_tests)

-- the edit is made in this side
pub after_first : (way : Way) (earlier later : List Row) (place : ℕ) (row : Row) → is_first way place (length earlier) ≡ true
    → rows_after way (earlier ++ later) place row ≡ rows_after way earlier place row ++ later
after_first Put earlier later place row first = insert-append_left earlier later place row (within_first Put place (length earlier) first)
after_first Cut earlier later place row first = remove-append_left earlier later place (below_first place (length earlier) first)

pub after_second : (way : Way) (earlier later : List Row) (place : ℕ) (row : Row) → is_first way place (length earlier) ≡ false
    → rows_after way (earlier ++ later) place row ≡ earlier ++ rows_after way later (place - length earlier) row
after_second Put earlier later place row second = insert-append_right earlier later (length earlier) place row refl (behind_first Put place (length earlier) second)
after_second Cut earlier later place row second = remove-append_right earlier later (length earlier) place refl (behind_first Cut place (length earlier) second)

pub possible_first : (way : Way) (earlier later : List Row) (place : ℕ) (row : Row) → IsPossible way (earlier ++ later) place row → is_first way place (length earlier) ≡ true
    → IsPossible way earlier place row
possible_first Put earlier later place row possible first =
    (within_first Put place (length earlier) first, omega (arith, possible.1, length-append earlier later), possible.2)
possible_first Cut earlier later place row possible first = there_earlier earlier later place row (below_first place (length earlier) first) possible

pub possible_second : (way : Way) (earlier later : List Row) (place : ℕ) (row : Row) → IsPossible way (earlier ++ later) place row → is_first way place (length earlier) ≡ false
    → IsPossible way later (place - length earlier) row
possible_second Put earlier later place row possible second =
    (omega (arith, possible.0, length-append earlier later), omega (arith, possible.1, length-append earlier later), possible.2)
possible_second Cut earlier later place row possible second = there_later earlier later place row (behind_first Cut place (length earlier) second) possible

-- how many rows there are after it, and of which kind
pub length_after : (way : Way) (rows : List Row) (place : ℕ) (row : Row) → IsPossible way rows place row → length (rows_after way rows place row) ≡ count_after way (length rows)
length_after Put rows place row possible = length-insert rows place row possible.0
length_after Cut rows place row possible = omega (arith, length-remove rows place (there_within rows place row possible))

pub few_after : (way : Way) (rows : List Row) (place : ℕ) (row : Row) → IsPossible way rows place row → length rows ≤ most_rows → length (rows_after way rows place row) ≤ most_rows
few_after Put rows place row possible few = omega (arith, length_after Put rows place row possible, possible.1)
few_after Cut rows place row possible few = omega (arith, length_after Cut rows place row possible, few)

pub near_after : (way : Way) (rows : List Row) (place : ℕ) (row : Row) → IsPossible way rows place row
    → (length (rows_after way rows place row) ≤ length rows + 1) × (length rows ≤ length (rows_after way rows place row) + 1)
near_after Put rows place row possible = (omega (arith, length_after Put rows place row possible), omega (arith, length_after Put rows place row possible))
near_after Cut rows place row possible = (omega (arith, length_after Cut rows place row possible), omega (arith, length_after Cut rows place row possible))

pub kind_after : (way : Way) (rows : List Row) (place : ℕ) (row : Row) → IsPossible way rows place row → AreOfKind Pq rows → AreOfKind Pq (rows_after way rows place row)
kind_after Put rows place row possible kind = all_with (λ r. kind_of r.op ≡ Pq) rows place row kind possible.2
kind_after Cut rows place row possible kind = all_without (λ r. kind_of r.op ≡ Pq) rows place kind

-- behind all rows only a row that is put in has its place
pub put_last : (way : Way) (rows : List Row) (place : ℕ) (row : Row) → IsPossible way rows place row → place ≡ length rows
    → (rows_after way rows place row ≡ insert rows (length rows) row) × (kind_of row.op ≡ Pq)
put_last Put rows place row possible last = (ap (λ n. insert rows n row) last, possible.2)
put_last Cut rows place row possible last = absurd (omega (arith, last, there_within rows place row possible))

-- which side was found
pub side_found : (way : Way) (place n m : ℕ) (found side : Bool) → m ≡ n → found ≡ is_first way place m → found ≡ side → is_first way place n ≡ side
side_found way place n m found side counted is tested = ap (is_first way place) (sym counted) ∙ sym is ∙ tested
