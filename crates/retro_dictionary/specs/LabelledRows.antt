-- What a dictionary keeps of its rows: a label for each, the rows by their labels, and the lifetimes of all pairs.
use Rattle.std.specs.Prelude.{◌≡◌, ℕ, ℤ, List, length}
use Rattle.retro_base.specs.declared.kind.Kind.TheVariants.{Dict}
use Rattle.retro_base.specs.declared.row.Row.{Row}
use Rattle.retro_base.specs.Timeline.{IsReplayable}
use Rattle.key_index.specs.KeyRows.{KeyRow}
use Rattle.lifetime_segments.specs.declared.lifetime.Lifetime.{Lifetime}
use Rattle.lifetime_segments.specs.Lifetimes.{stands_earlier}
use Rattle.lifetime_segments.specs.Ordered.{in_order}
use Rattle.order_labels.specs.Labels.{AreLabels}
use Rattle.retro_dictionary.specs.Numbers.{HaveNumbers}
use Rattle.retro_dictionary.specs.Labelled.{labelled}
use Rattle.retro_dictionary.specs.Lifetimes.{lifetimes_of}
use Rattle.retro_dictionary.specs.PairSearch.{pair_before}

-- the lifetimes in their order
abbrev pub ordered : List (Lifetime (ℤ × ℤ)) → List (Lifetime (ℤ × ℤ))
ordered lifetimes = in_order (stands_earlier pair_before) lifetimes

-- what is kept of rows that replay
pub record AreLabelled (rows : List Row) (labels : List ℕ) (index : List KeyRow) (lifetimes : List (Lifetime (ℤ × ℤ))) : Type 0 where
  pub replayable : IsReplayable Dict rows
  pub of_numbers : HaveNumbers rows
  pub as_many : length labels ≡ length rows
  pub rising : AreLabels labels
  pub indexed : index ≡ labelled labels rows
  pub held : lifetimes ≡ ordered (lifetimes_of index)
