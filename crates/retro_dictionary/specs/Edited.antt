-- The lifetimes that an edit leaves: the new ones are put in first, and then the old ones are taken out.
use Rattle.std.specs.Prelude.{ℕ, ℤ, ◌+◌, ◌<◌, ◌≤◌, Option, Some, None, IfSome, List, [], ◌∷◌, length}
use Rattle.std.specs.List.{insert, remove}
use Rattle.std.specs.Option.{option_map, option_and_then}
use Rattle.retro_base.specs.declared.kind.Kind.TheVariants.{Dict}
use Rattle.retro_base.specs.declared.op.Op.{Op}
use Rattle.retro_base.specs.declared.row.Row.{Row}
use Rattle.retro_base.specs.Timeline.{IsReplayable}
use Rattle.key_index.specs.KeyRows.{KeyRow, key_of, first_after, last_before}
use Rattle.lifetime_segments.specs.declared.lifetime.Lifetime.{Lifetime}
use Rattle.lifetime_segments.specs.Lifetimes.{label_end, stands_earlier}
use Rattle.lifetime_segments.specs.Lawful.{most_items}
use Rattle.lifetime_segments.specs.Ordered.{insert_by, without}
use Rattle.order_labels.specs.Labels.{label_limit, label_before, label_after as label_later}
use Rattle.retro_dictionary.specs.Changes.{Placed, placed_by, up_to_label}
use Rattle.retro_dictionary.specs.Lifetimes.{put_by}
use Rattle.retro_dictionary.specs.Numbers.{IsOfNumbers}
use Rattle.retro_dictionary.specs.PairSearch.{pair_before}

-- the label of the next row, or the end of all labels
abbrev pub label_or_end : Option KeyRow → ℕ
label_or_end None = label_end
label_or_end (Some row) = row.0

-- a pair with the label at which it is put
abbrev pub placed_at : ℕ → Option (ℤ × ℤ) → Option Placed
placed_at label put = option_map (λ pair. (label, pair)) put

abbrev pub all_put : List (Lifetime (ℤ × ℤ)) → List (Lifetime (ℤ × ℤ)) → List (Lifetime (ℤ × ℤ))
all_put [] lifetimes = lifetimes
all_put (new ∷ others) lifetimes = insert_by (stands_earlier pair_before) new (all_put others lifetimes)

abbrev pub all_taken : List (Lifetime (ℤ × ℤ)) → List (Lifetime (ℤ × ℤ)) → List (Lifetime (ℤ × ℤ))
all_taken [] lifetimes = lifetimes
all_taken (old ∷ others) lifetimes = without (stands_earlier pair_before) old (all_taken others lifetimes)

-- a row at a label ends the pair that was there up to the next label, and begins its own
abbrev pub ended_at : Option Placed → ℕ → Option (ℤ × ℤ) → ℕ → List (Lifetime (ℤ × ℤ)) → List (Lifetime (ℤ × ℤ))
ended_at left label put next lifetimes = all_taken (up_to_label left next) (all_put (up_to_label left label) (all_put (up_to_label (placed_at label put) next) lifetimes))

-- and once it is gone the pair is there up to the next label again
abbrev pub joined_at : Option Placed → ℕ → Option (ℤ × ℤ) → ℕ → List (Lifetime (ℤ × ℤ)) → List (Lifetime (ℤ × ℤ))
joined_at left label put next lifetimes = all_taken (up_to_label (placed_at label put) next) (all_taken (up_to_label left label) (all_put (up_to_label left next) lifetimes))

-- a lifetime more has a label, and room
pub record CanPut (placed : Option Placed) (to : ℕ) (lifetimes : List (Lifetime (ℤ × ℤ))) : Type 0 where
  pub rises : IfSome placed (λ (pair : Placed). pair.0 < to)
  pub within : to ≤ label_end
  pub room : length lifetimes < most_items

-- so have the two that a row makes
pub record CanEnd (left : Option Placed) (label next : ℕ) (lifetimes : List (Lifetime (ℤ × ℤ))) : Type 0 where
  pub before : IfSome left (λ (pair : Placed). pair.0 < label)
  pub after_it : label < next
  pub within : next ≤ label_end
  pub room : length lifetimes + 1 < most_items

-- what stands beside a label on the key of an operation
abbrev pub left_of : List KeyRow → ℕ → Op → Option Placed
left_of index label op = option_and_then placed_by (last_before (key_of op) label index)

abbrev pub next_of : List KeyRow → ℕ → Op → ℕ
next_of index label op = label_or_end (first_after (key_of op) label index)

-- the lifetimes once a row is put in at a label, and once it is taken out
abbrev pub ended_by : ℕ → Op → List KeyRow → List (Lifetime (ℤ × ℤ)) → List (Lifetime (ℤ × ℤ))
ended_by label op index lifetimes = ended_at (left_of index label op) label (put_by op) (next_of index label op) lifetimes

abbrev pub joined_by : ℕ → Op → List KeyRow → List (Lifetime (ℤ × ℤ)) → List (Lifetime (ℤ × ℤ))
joined_by label op index lifetimes = joined_at (left_of index label op) label (put_by op) (next_of index label op) lifetimes

-- a label lies between those beside a place
pub record IsBetween (labels : List ℕ) (place label : ℕ) : Type 0 where
  pub before : label_before 0 labels place < label
  pub after_it : label < label_later label_limit labels place

-- a row can be put in at a place
pub record CanInsert (rows : List Row) (place : ℕ) (row : Row) : Type 0 where
  pub within : place ≤ length rows
  pub after : IsReplayable Dict (insert rows place row)
  pub of_numbers : IsOfNumbers row.op

-- a row can be taken out
pub record CanRemove (rows : List Row) (place : ℕ) : Type 0 where
  pub within : place < length rows
  pub after : IsReplayable Dict (remove rows place)
