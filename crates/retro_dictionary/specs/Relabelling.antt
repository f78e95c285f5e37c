-- What becomes of a dictionary where one row more is put in at a place at which no label is left.
use Rattle.std.specs.Prelude.{◌≡◌, ℕ, ◌+◌, ◌*◌, ℤ, None, List, length}
use Rattle.std.specs.List.{insert, remove}
use Rattle.retro_base.specs.declared.op.Op.{Op}
use Rattle.retro_base.specs.declared.row.Row.{Row}
use Rattle.key_index.specs.KeyRows.{KeyRow, op_at, with_row, without}
use Rattle.key_index.specs.Relabelled.{Rise, HoldsLabels, relabelled}
use Rattle.lifetime_segments.specs.declared.lifetime.Lifetime.{Lifetime}
use Rattle.order_labels.specs.Labels.{gap_of, inserted, spread}
use Rattle.retro_dictionary.specs.declared.labelled_rows.LabelledRows.{LabelledRows}
use Rattle.retro_dictionary.specs.Changes.{up_to_label}
use Rattle.retro_dictionary.specs.Edited.{all_put, next_of, placed_at}
use Rattle.retro_dictionary.specs.LabelledRows.{ordered}
use Rattle.retro_dictionary.specs.Lifetimes.{lifetimes_of, put_by}

-- the label of the row that is put in
abbrev pub new_label : ℕ → ℕ → ℕ
new_label count place = (place + 1) * gap_of (count + 1)

-- the labels of the rows that are there already, once it is
abbrev pub other_labels : ℕ → ℕ → List ℕ
other_labels count place = remove (spread (count + 1)) place

-- rows with fresh labels, and one more
abbrev pub relabelled_with : List ℕ → List ℕ → ℕ → Op → List KeyRow → List KeyRow
relabelled_with former fresh label op index = with_row label op (relabelled former fresh index)

-- rows can get fresh labels and one more row, and their former labels again once it is gone
pub record CanRelabel (former fresh : List ℕ) (label : ℕ) (index : List KeyRow) : Type 0 where
  pub former_rise : Rise former
  pub fresh_rise : Rise fresh
  pub as_many : length fresh ≡ length former
  pub held : HoldsLabels former index
  pub held_fresh : HoldsLabels fresh (relabelled former fresh index)
  pub free : op_at label (relabelled former fresh index) ≡ None
  pub undone : (op : Op) → without label (relabelled_with former fresh label op index) ≡ relabelled former fresh index
  pub back : relabelled fresh former (relabelled former fresh index) ≡ index

-- the lifetimes with that of the pair that a row at a label puts
abbrev pub begun_by : ℕ → Op → List KeyRow → List (Lifetime (ℤ × ℤ)) → List (Lifetime (ℤ × ℤ))
begun_by label op index lifetimes = all_put (up_to_label (placed_at label (put_by op)) (next_of index label op)) lifetimes

-- a dictionary with a row more among its rows alone
abbrev pub with_row_at : ℕ → Row → LabelledRows → LabelledRows
with_row_at place row kept = record kept { rows = insert kept.rows place row }

-- one with a label more, and with its lifetimes made from its index
abbrev pub labelled_anew : ℕ → LabelledRows → LabelledRows
labelled_anew place kept = record kept { labels = inserted kept.labels place; insertions_since_relabel = 0; segments = ordered (lifetimes_of kept.index) }
