-- What a reader of blocks keeps beside the rows.
use Rattle.std.specs.Prelude.{◌≡◌, ℕ, ◌<◌, ◌≤◌, List, nat_eq}
use Rattle.std.specs.HashSet.{HashSet, contains}
use Rattle.std.specs.List.{AllByRecursion}
use Rattle.std.specs.declared.hash.FoldHasher.{FoldHasher}
use Rattle.std.specs.declared.hash.BuildHasherDefault.{BuildHasherDefault}
use Rattle.retro_base.specs.declared.row.Row.{Row}
use Rattle.retro_base.specs.Limits.{next_limit}
use Rattle.retro_base.specs.Timeline.{TimesNeverFall}
use Rattle.timeline_file.specs.Block.{has_number, last_time}

-- a set of row numbers
abbrev pub Numbers : Type 0
Numbers = HashSet ℕ (BuildHasherDefault FoldHasher)

-- the rows are in order and numbered, the set has their numbers, and the time is that of the last one
pub record IsRead (rows : List Row) (numbers : Numbers) (time : ℕ) : Type 0 where
  pub in_order : TimesNeverFall rows
  pub numbered : AllByRecursion (λ row. (1 ≤ row.number) × (row.number < next_limit)) rows
  pub seen : (number : ℕ) → contains nat_eq numbers number ≡ has_number number rows
  pub last : time ≡ last_time rows
