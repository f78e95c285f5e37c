-- Entries with a bound that is less than each of them, and one that is greater.
use Rattle.std.specs.Prelude.{ℕ, zero, suc, Bool, true, false, List, [], ◌∷◌, if◌then◌else◌}
use Rattle.retro_base.specs.declared.row.Entry.{Entry}
use Rattle.retro_base.specs.State.{comes_before, with_entry}
use Rattle.pq_fusion.specs.declared.bound.Bound.{Bound}
use Rattle.pq_fusion.specs.declared.bound.Bound.TheVariants.{Low, At, Top}

-- the order of bounds
abbrev pub is_below : Bound → Bound → Bool
is_below Low Low = false
is_below Low (At b) = true
is_below Low Top = true
is_below (At a) Low = false
is_below (At a) (At b) = comes_before a b
is_below (At a) Top = true
is_below Top b = false

abbrev pub higher : Bound → Bound → Bound
higher a b = if is_below a b then b else a

abbrev pub lower : Bound → Bound → Bound
lower a b = if is_below b a then b else a

-- the entries with this one, where the bound is one
abbrev pub with_bound : Bound → List Entry → List Entry
with_bound (At entry) entries = with_entry entry entries
with_bound Low entries = entries
with_bound Top entries = entries

-- how often the bound is greater than each entry
abbrev pub tops : Bound → ℕ
tops (At entry) = 0
tops Low = 0
tops Top = 1

-- the entry at a rank; behind the last one there is none, and the bound is greater than each
abbrev pub at_rank : List Entry → ℕ → Bound
at_rank [] rank = Top
at_rank (entry ∷ entries) zero = At entry
at_rank (entry ∷ entries) (suc rank) = at_rank entries rank

-- the greatest of the n least entries: less than each where there are none of them, and greater where there are fewer than n
abbrev pub last_of : List Entry → ℕ → Bound
last_of entries zero = Low
last_of entries (suc n) = at_rank entries n
