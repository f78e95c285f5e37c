-- The lifetimes of rows, made from the last row to the first.
use Rattle.std.proofs.Common.{◌≡◌, ℕ, suc, ◌<◌, ◌≤◌, ℤ, Option, Some, None, List, [], ◌∷◌, ◌++◌, length, drop, slice_get, refl, sym, ap, ◌∙◌, arith, subst}
use Rattle.std.specs.Prelude.{IfSome}
use Rattle.std.proofs.lemmas.List.{length-drop, drop_all}
use Rattle.retro_base.specs.Limits.{most_rows}
use Rattle.retro_base.specs.declared.row.Row.{Row}
use Rattle.key_index.specs.KeyRows.{KeyRow, key_of}
use Rattle.lifetime_segments.specs.declared.lifetime.Lifetime.{Lifetime}
use Rattle.lifetime_segments.specs.Lifetimes.{label_end}
use Rattle.order_labels.specs.Labels.{AreApart, label_limit}
use Rattle.retro_dictionary.specs.Changes.{Placed, up_to_label}
use Rattle.retro_dictionary.specs.Edited.{CanPut, all_put, next_of, placed_at}
use Rattle.retro_dictionary.specs.LabelledRows.{ordered}
use Rattle.retro_dictionary.specs.Labelled.{labelled}
use Rattle.retro_dictionary.specs.Lifetimes.{end_of, put_by, lifetimes_of}
use Rattle.retro_dictionary.specs.Relabelling.{begun_by}
use Rattle.retro_dictionary.proofs.KeptEdits.{end_above, end_within, below_all}
use Rattle.retro_dictionary.proofs.KeptLifetimes.{begun-is, put-ordered, length-ordered}
use Rattle.retro_dictionary.proofs.LabelledRows.{AllAbove, AllBelow, back-above, below-last, label-after, label-below, drop-at, at-parts, next-at, length-labelled}

placed-below : (label to : ℕ) (put : Option (ℤ × ℤ)) → label < to → IfSome (placed_at label put) (λ (pair : Placed). pair.0 < to)
placed-below label to None below = tt
placed-below label to (Some pair) below = below

-- no row
pub none-made : (labels : List ℕ) (rows : List Row) (place : ℕ) → length labels ≤ place → ordered (lifetimes_of (labelled (drop place labels) (drop place rows))) ≡ []
none-made labels rows place all = ap (λ ls. ordered (lifetimes_of (labelled ls (drop place rows)))) (drop_all place labels all)

-- one row more
module _ (labels : List ℕ) (rows : List Row) (index : List KeyRow) (same : length labels ≡ length rows) (apart : AreApart 1 0 label_limit labels) (few : length rows ≤ most_rows) (indexed : index ≡ labelled labels rows)
    (place label : ℕ) (row : Row) (label_there : slice_get labels place ≡ Some label) (row_there : slice_get rows place ≡ Some row) where
  abbrev later : List KeyRow
  later = labelled (drop (suc place) labels) (drop (suc place) rows)

  following-is : next_of index label row.op ≡ end_of (key_of row.op) later
  following-is = ap (λ i. next_of i label row.op) indexed ∙ next-at labels rows place same apart label row label_there row_there (key_of row.op)

  all_within : AllBelow label_end later
  all_within = (below_all _ ((label, row.op) ∷ later) (subst (AllBelow label_end) (at-parts labels rows place same apart label row label_there row_there) (below-last label_limit 0 labels rows apart))).1

  all_after : AllAbove label later
  all_after = back-above label_limit 0 labels rows (suc place) label apart (label-after label_limit 0 labels place label apart label_there)

  can-put : CanPut (placed_at label (put_by row.op)) (next_of index label row.op) (ordered (lifetimes_of later))
  can-put = record {
    rises = rw following-is (placed-below label (end_of (key_of row.op) later) (put_by row.op) (end_above label (key_of row.op) later (label-below label_limit 0 labels place label apart label_there) all_after));
    within = rw following-is (end_within (key_of row.op) later all_within);
    room = omega (arith, length-ordered later, length-labelled (drop (suc place) labels) (drop (suc place) rows), length-drop (suc place) rows);
  }

  one-put : begun_by label row.op index (ordered (lifetimes_of later)) ≡ ordered (lifetimes_of (labelled (drop place labels) (drop place rows)))
  one-put =
      ap (λ next. all_put (up_to_label (placed_at label (put_by row.op)) next) (ordered (lifetimes_of later))) following-is
      ∙ put-ordered (placed_at label (put_by row.op)) (end_of (key_of row.op) later) (lifetimes_of later)
      ∙ ap (λ own. ordered (own ++ lifetimes_of later)) (sym (begun-is (label, row.op) later (put_by row.op) refl))
      ∙ sym (ap (λ ls. ordered (lifetimes_of (labelled ls (drop place rows)))) (drop-at labels place label label_there)
      ∙ ap (λ rs. ordered (lifetimes_of (labelled (label ∷ drop (suc place) labels) rs))) (drop-at rows place row row_there))

  -- where all rows after it have theirs
  module _ (next : ℕ) (lifetimes : List (Lifetime (ℤ × ℤ))) (next_is : next ≡ suc place) (made : lifetimes ≡ ordered (lifetimes_of (labelled (drop next labels) (drop next rows)))) where
    made-after : lifetimes ≡ ordered (lifetimes_of later)
    made-after = made ∙ ap (λ n. ordered (lifetimes_of (labelled (drop n labels) (drop n rows)))) next_is

    pub can-begin : CanPut (placed_at label (put_by row.op)) (next_of index label row.op) lifetimes
    can-begin = subst (CanPut (placed_at label (put_by row.op)) (next_of index label row.op)) (sym made-after) can-put

    pub one-made : begun_by label row.op index lifetimes ≡ ordered (lifetimes_of (labelled (drop place labels) (drop place rows)))
    one-made = ap (begun_by label row.op index) made-after ∙ one-put
