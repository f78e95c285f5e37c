-- The lifetimes with a row and without it, in their order.
use Rattle.std.proofs.Common.{List, ◌∷◌, ◌++◌}
use Rattle.std.specs.Option.{option_and_then}
use Rattle.key_index.specs.KeyRows.{KeyRow, key_of}
use Rattle.lifetime_segments.specs.LifetimeLaws.{earlier_order}
use Rattle.retro_dictionary.specs.Changes.{placed_by, up_to_label}
use Rattle.retro_dictionary.specs.DictionaryLaws.{EndsOne}
use Rattle.retro_dictionary.specs.Lifetimes.{end_of, put_by, begun, lifetimes_of}
use Rattle.retro_dictionary.specs.PairSearchLaws.{pair_order}
use Rattle.retro_dictionary.proofs.EditedLifetimes.{edited, last_on}
use Rattle.retro_dictionary.proofs.InOrder.{in_order-same}

pub ends-one : (front : List KeyRow) (row : KeyRow) (after : List KeyRow) → EndsOne front row after
ends-one front row after =
    let parts = edited row after front in
    let left = option_and_then placed_by (last_on (key_of row.1) front) in
    record {
      others = parts.others;
      without_row = in_order-same (earlier_order pair_order) (lifetimes_of (front ++ after)) (up_to_label left (end_of (key_of row.1) after) ++ parts.others) parts.without_row;
      with_row = in_order-same (earlier_order pair_order) (lifetimes_of (front ++ row ∷ after)) (up_to_label left row.0 ++ (begun row.0 (put_by row.1) after ++ parts.others)) parts.with_row;
    }
