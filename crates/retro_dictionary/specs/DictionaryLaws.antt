-- What the lifetimes of a dictionary tell of it, and how an edit changes them.
use Rattle.std.specs.Prelude.{◌≡◌, ℕ, ℤ, ◌≤◌, ◌++◌, ◌∷◌, Some, None, List, length, slice_get}
use Rattle.std.specs.List.{filter, insert, remove}
use Rattle.std.specs.Option.{option_and_then}
use Rattle.retro_base.specs.declared.kind.Kind.TheVariants.{Dict}
use Rattle.retro_base.specs.declared.question.Question.{Question}
use Rattle.retro_base.specs.declared.row.Row.{Row}
use Rattle.retro_base.specs.Answers.{answer_of}
use Rattle.retro_base.specs.Replay.{state_at}
use Rattle.retro_base.specs.State.{pairs}
use Rattle.key_index.specs.KeyRows.{KeyRow, key_of, is_on, last_of, op_at, with_row, without}
use Rattle.lifetime_segments.specs.declared.lifetime.Lifetime.{Lifetime}
use Rattle.lifetime_segments.specs.Lifetimes.{items_at}
use Rattle.lifetime_segments.specs.Ordered.{in_order}
use Rattle.order_labels.specs.Labels.{label_before}
use Rattle.retro_dictionary.specs.Asked.{range_of, answer_from, found_at}
use Rattle.retro_dictionary.specs.Changes.{placed_by, up_to_label}
use Rattle.retro_dictionary.specs.Edited.{IsBetween, CanInsert, CanRemove, CanPut, CanEnd, left_of, next_of, ended_by, joined_by}
use Rattle.retro_dictionary.specs.LabelledRows.{AreLabelled, ordered}
use Rattle.retro_dictionary.specs.Lifetimes.{end_of, put_by, begun, lifetimes_of}
use Rattle.retro_dictionary.specs.PairSearch.{pair_before}

-- the pairs whose lifetimes hold the label of the last row before a place, in their order, are the content there
abbrev pub LifetimesHoldContent : Type 0
LifetimesHoldContent =
    (rows : List Row) (labels : List ℕ) (index : List KeyRow) (lifetimes : List (Lifetime (ℤ × ℤ))) (place : ℕ) → AreLabelled rows labels index lifetimes → 1 ≤ place → place ≤ length rows
    → state_at Dict rows place ≡ pairs (in_order pair_before (items_at (label_before 0 labels place) lifetimes))

-- so each question there is answered by what is found of them
abbrev pub SearchAnswers : Type 0
SearchAnswers =
    (rows : List Row) (labels : List ℕ) (index : List KeyRow) (lifetimes : List (Lifetime (ℤ × ℤ))) (place : ℕ) (question : Question) → AreLabelled rows labels index lifetimes → place ≤ length rows
    → answer_of (state_at Dict rows place) question ≡ answer_from question (found_at labels lifetimes place (range_of question))

-- the lifetimes with one more row and without it: the row ends that of the pair that the last row before it on its key put, and begins its own; all others are the same
pub record EndsOne (front : List KeyRow) (row : KeyRow) (after : List KeyRow) : Type 0 where
  pub others : List (Lifetime (ℤ × ℤ))
  pub without_row : ordered (lifetimes_of (front ++ after)) ≡ ordered (up_to_label (option_and_then placed_by (last_of (filter (is_on (key_of row.1)) front))) (end_of (key_of row.1) after) ++ others)
  pub with_row : ordered (lifetimes_of (front ++ row ∷ after)) ≡ ordered (up_to_label (option_and_then placed_by (last_of (filter (is_on (key_of row.1)) front))) row.0 ++ (begun row.0 (put_by row.1) after ++ others))

abbrev pub EditsEndOne : Type 0
EditsEndOne = (front : List KeyRow) (row : KeyRow) (after : List KeyRow) → EndsOne front row after

-- a row that is put in at a label between those beside its place has this label alone, its lifetimes have room, and what is kept of the rows is kept with it
abbrev pub InsertionsAreKept : Type 0
InsertionsAreKept =
    (rows : List Row) (labels : List ℕ) (index : List KeyRow) (lifetimes : List (Lifetime (ℤ × ℤ))) (place label : ℕ) (row : Row)
    → AreLabelled rows labels index lifetimes → IsBetween labels place label → CanInsert rows place row
    → (op_at label index ≡ None) × CanEnd (left_of index label row.op) label (next_of index label row.op) lifetimes
    × AreLabelled (insert rows place row) (insert labels place label) (with_row label row.op index) (ended_by label row.op index lifetimes)

-- so it is where a row is taken out
abbrev pub RemovalsAreKept : Type 0
RemovalsAreKept =
    (rows : List Row) (labels : List ℕ) (index : List KeyRow) (lifetimes : List (Lifetime (ℤ × ℤ))) (place label : ℕ) (row : Row)
    → AreLabelled rows labels index lifetimes → slice_get labels place ≡ Some label → slice_get rows place ≡ Some row → CanRemove rows place
    → CanPut (left_of index label row.op) (next_of index label row.op) lifetimes
    × AreLabelled (remove rows place) (remove labels place) (without label index) (joined_by label row.op index lifetimes)
