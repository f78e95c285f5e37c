-- The better one of two entries that may be there, and the best one of many.
use Rattle.std.specs.Prelude.{◌≡◌, Bool, false, List, if◌then◌else◌}
use Rattle.std.specs.Prelude.{Option, Some, None}
use Rattle.std.specs.List.{fold}
use Rattle.retro_base.specs.declared.row.Entry.{Entry}
use Rattle.retro_base.specs.State.{comes_before}

-- the order seen from its other end
abbrev pub comes_after : Entry → Entry → Bool
comes_after a b = comes_before b a

-- the better one of an entry and another, where there is another
abbrev pub better_of : (Entry → Entry → Bool) → Option Entry → Option Entry → Option Entry
better_of beaten_by best None = best
better_of beaten_by None (Some entry) = Some entry
better_of beaten_by (Some best) (Some entry) = Some (if beaten_by best entry then entry else best)

-- the best one of an entry and those that rows show
abbrev pub best_among : {R : Type 0} → (Entry → Entry → Bool) → (R → Option Entry) → Option Entry → List R → Option Entry
best_among beaten_by shown best rows = fold (λ best row. better_of beaten_by best (shown row)) best rows

-- the best entry of which this holds
pub record IsBest (beaten_by : Entry → Entry → Bool) (P : Entry → Type 0) (entry : Entry) : Type 0 where
  pub one : P entry
  pub unbeaten : (other : Entry) → P other → beaten_by entry other ≡ false
