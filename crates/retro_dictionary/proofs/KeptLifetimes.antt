-- What an edit leaves are the lifetimes of the edited rows.
use Rattle.std.proofs.Common.{◌≡◌, ℕ, ◌+◌, ◌≤◌, ℤ, Option, Some, None, List, [], ◌∷◌, ◌++◌, length, refl, sym, ap, ◌∙◌, arith}
use Rattle.std.specs.Option.{option_and_then}
use Rattle.key_index.specs.KeyRows.{KeyRow, key_of}
use Rattle.lifetime_segments.specs.declared.lifetime.Lifetime.{Lifetime}
use Rattle.lifetime_segments.specs.Lifetimes.{lifetime, stands_earlier}
use Rattle.lifetime_segments.specs.LifetimeLaws.{earlier_order}
use Rattle.lifetime_segments.specs.OrderedLaws.{without-insert_by, length-insert_by, length-in_order}
use Rattle.std.proofs.lemmas.List.{length-append}
use Rattle.retro_dictionary.specs.PairSearch.{pair_before}
use Rattle.retro_dictionary.specs.Changes.{Placed, placed_by, up_to_label}
use Rattle.retro_dictionary.specs.Edited.{placed_at, all_put, all_taken, ended_at, joined_at}
use Rattle.retro_dictionary.specs.LabelledRows.{ordered}
use Rattle.retro_dictionary.specs.Lifetimes.{end_of, put_by, begun, lifetimes_of}
use Rattle.retro_dictionary.specs.PairSearchLaws.{pair_order}
use Rattle.retro_dictionary.proofs.AsMany.{HaveSameItems, count-append}
use Rattle.retro_dictionary.proofs.EditedLifetimes.{edited, last_on, put_key}
use Rattle.retro_dictionary.proofs.InOrder.{in_order-same}

abbrev Lives : Type 0
Lives = List (Lifetime (ℤ × ℤ))

same-ordered : (xs ys : Lives) → HaveSameItems xs ys → ordered xs ≡ ordered ys
same-ordered xs ys same = in_order-same (earlier_order pair_order) xs ys same

pub put-ordered : (new : Option Placed) (to : ℕ) (xs : Lives) → all_put (up_to_label new to) (ordered xs) ≡ ordered (up_to_label new to ++ xs)
put-ordered None to xs = refl
put-ordered (Some placed) to xs = refl

taken-ordered : (old : Option Placed) (to : ℕ) (xs : Lives) → all_taken (up_to_label old to) (ordered (up_to_label old to ++ xs)) ≡ ordered xs
taken-ordered None to xs = refl
taken-ordered (Some placed) to xs = without-insert_by (earlier_order pair_order) _ (ordered xs)

-- what a row begins, where the next row on its key is known
pub begun-is : (row : KeyRow) (after : List KeyRow) (put : Option (ℤ × ℤ)) → put_by row.1 ≡ put → begun row.0 put after ≡ up_to_label (placed_at row.0 put) (end_of (key_of row.1) after)
begun-is row after None puts = refl
begun-is row after (Some pair) puts = ap (λ key. up_to_label (placed_at row.0 (Some pair)) (end_of key after)) (sym (put_key row.1 pair puts))

module _ (front : List KeyRow) (row : KeyRow) (after : List KeyRow) where
  abbrev left : Option Placed
  left = option_and_then placed_by (last_on (key_of row.1) front)

  abbrev next : ℕ
  next = end_of (key_of row.1) after

  abbrev own : Lives
  own = up_to_label (placed_at row.0 (put_by row.1)) next

  without-is : ordered (lifetimes_of (front ++ after)) ≡ ordered (up_to_label left next ++ (edited row after front).others)
  without-is = same-ordered (lifetimes_of (front ++ after)) (up_to_label left next ++ (edited row after front).others) (edited row after front).without_row

  with-is : ordered (lifetimes_of (front ++ row ∷ after)) ≡ ordered (up_to_label left row.0 ++ (own ++ (edited row after front).others))
  with-is =
      same-ordered (lifetimes_of (front ++ row ∷ after)) (up_to_label left row.0 ++ (begun row.0 (put_by row.1) after ++ (edited row after front).others)) (edited row after front).with_row
      ∙ ap (λ xs. ordered (up_to_label left row.0 ++ (xs ++ (edited row after front).others))) (begun-is row after (put_by row.1) refl)

  pub ended-is : ended_at left row.0 (put_by row.1) next (ordered (lifetimes_of (front ++ after))) ≡ ordered (lifetimes_of (front ++ row ∷ after))
  ended-is =
      let others = (edited row after front).others in
      ap (λ xs. ended_at left row.0 (put_by row.1) next xs) without-is
      ∙ ap (λ xs. all_taken (up_to_label left next) (all_put (up_to_label left row.0) xs)) (put-ordered (placed_at row.0 (put_by row.1)) next (up_to_label left next ++ others))
      ∙ ap (all_taken (up_to_label left next)) (put-ordered left row.0 (own ++ (up_to_label left next ++ others))
      ∙ same-ordered (up_to_label left row.0 ++ (own ++ (up_to_label left next ++ others)))
      (up_to_label left next ++ (up_to_label left row.0 ++ (own ++ others))) (moved others))
      ∙ taken-ordered left next (up_to_label left row.0 ++ (own ++ others))
      ∙ sym with-is where
        moved : (others : Lives) → HaveSameItems (up_to_label left row.0 ++ (own ++ (up_to_label left next ++ others))) (up_to_label left next ++ (up_to_label left row.0 ++ (own ++ others)))
        moved others = record {
          as_many = λ test.
              omega (
                arith,
                count-append test (up_to_label left row.0) (own ++ (up_to_label left next ++ others)),
                count-append test own (up_to_label left next ++ others),
                count-append test (up_to_label left next) others,
                count-append test (up_to_label left next) (up_to_label left row.0 ++ (own ++ others)),
                count-append test (up_to_label left row.0) (own ++ others),
                count-append test own others,
              );
        }

  pub joined-is : joined_at left row.0 (put_by row.1) next (ordered (lifetimes_of (front ++ row ∷ after))) ≡ ordered (lifetimes_of (front ++ after))
  joined-is =
      let others = (edited row after front).others in
      ap (λ xs. joined_at left row.0 (put_by row.1) next xs) with-is
      ∙ ap (λ xs. all_taken own (all_taken (up_to_label left row.0) xs))
      (put-ordered left next (up_to_label left row.0 ++ (own ++ others))
      ∙ same-ordered (up_to_label left next ++ (up_to_label left row.0 ++ (own ++ others)))
      (up_to_label left row.0 ++ (own ++ (up_to_label left next ++ others))) (moved others))
      ∙ ap (all_taken own) (taken-ordered left row.0 (own ++ (up_to_label left next ++ others)))
      ∙ taken-ordered (placed_at row.0 (put_by row.1)) next (up_to_label left next ++ others)
      ∙ sym without-is where
        moved : (others : Lives) → HaveSameItems (up_to_label left next ++ (up_to_label left row.0 ++ (own ++ others))) (up_to_label left row.0 ++ (own ++ (up_to_label left next ++ others)))
        moved others = record {
          as_many = λ test.
              omega (
                arith,
                count-append test (up_to_label left row.0) (own ++ (up_to_label left next ++ others)),
                count-append test own (up_to_label left next ++ others),
                count-append test (up_to_label left next) others,
                count-append test (up_to_label left next) (up_to_label left row.0 ++ (own ++ others)),
                count-append test (up_to_label left row.0) (own ++ others),
                count-append test own others,
              );
        }

-- what was put in is taken out again
pub taken-put : (placed : Option Placed) (to : ℕ) (xs : Lives) → all_taken (up_to_label placed to) (all_put (up_to_label placed to) xs) ≡ xs
taken-put None to xs = refl
taken-put (Some placed) to xs = without-insert_by (earlier_order pair_order) _ xs

pub length-all_put : (placed : Option Placed) (to : ℕ) (xs : Lives) → length (all_put (up_to_label placed to) xs) ≤ length xs + 1
length-all_put None to xs = omega arith
length-all_put (Some placed) to xs = omega (arith, length-insert_by (stands_earlier pair_before) (lifetime placed.0 to placed.1) xs)

-- as many lifetimes as rows at most
begun-le : (label : ℕ) (put : Option (ℤ × ℤ)) (rows : List KeyRow) → length (begun label put rows) ≤ 1
begun-le label None rows = omega arith
begun-le label (Some pair) rows = omega arith

pub length-lifetimes : (rows : List KeyRow) → length (lifetimes_of rows) ≤ length rows
length-lifetimes [] = omega arith
length-lifetimes (row ∷ rows) = omega (arith, length-append (begun row.0 (put_by row.1) rows) (lifetimes_of rows), begun-le row.0 (put_by row.1) rows, length-lifetimes rows)

pub length-ordered : (rows : List KeyRow) → length (ordered (lifetimes_of rows)) ≤ length rows
length-ordered rows = omega (arith, length-in_order (stands_earlier pair_before) (lifetimes_of rows), length-lifetimes rows)
