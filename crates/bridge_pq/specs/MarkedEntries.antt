-- Entries in their order, each with a mark that tells whether it is in the present.
use Rattle.std.specs.Prelude.{◌≡◌, pos, Bool, true, not, List, [], ◌∷◌, map, if◌then◌else◌, refl}
use Rattle.std.specs.List.{AllByRecursion, filter}
use Rattle.monoid_laws.specs.Summed.{Summed, one_sum}
use Rattle.retro_base.specs.declared.row.Entry.{Entry}
use Rattle.retro_base.specs.Bridges.{is_among, same_entry}
use Rattle.retro_base.specs.State.{comes_before}
use Rattle.bridge_pq.specs.declared.marked_entry.MarkedEntry.{MarkedEntry}

-- the entries alone, and those whose mark is set
abbrev pub entries_in : List MarkedEntry → List Entry
entries_in items = map (λ item. item.entry) items

abbrev pub present_in : List MarkedEntry → List Entry
present_in [] = []
present_in (item ∷ items) = if item.present then item.entry ∷ present_in items else present_in items

-- each entry comes before those after it
abbrev pub Rise : List Entry → Type 0
Rise [] = Unit {0}
Rise (x ∷ xs) = AllByRecursion (λ y. comes_before x y ≡ true) xs × Rise xs

-- each mark tells whether the entry is among these
abbrev pub TellPresent : List Entry → List MarkedEntry → Type 0
TellPresent alive items = AllByRecursion (λ item. item.present ≡ is_among alive item.entry) items

-- what one marked entry measures: whether it is in the present
abbrev pub entry_measure : MarkedEntry → Summed
entry_measure item = one_sum (pos (if item.present then 1 else 0))

pub entry_measure-items : (item : MarkedEntry) → (entry_measure item).items ≡ 1
entry_measure-items item = refl

-- one more entry in its order, the entries without one, and the entries with its mark set so
abbrev pub put_marked : MarkedEntry → List MarkedEntry → List MarkedEntry
put_marked new [] = new ∷ []
put_marked new (first ∷ others) = if comes_before new.entry first.entry then new ∷ first ∷ others else first ∷ put_marked new others

abbrev pub without_entry : Entry → List MarkedEntry → List MarkedEntry
without_entry entry items = filter (λ item. not (same_entry item.entry entry)) items

abbrev pub marked_so : Entry → Bool → List MarkedEntry → List MarkedEntry
marked_so entry present items = map (λ item. if same_entry item.entry entry then record { entry = item.entry; present = present } else item) items
