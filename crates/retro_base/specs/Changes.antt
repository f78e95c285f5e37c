-- What an accepted edit changes: the bridge that it states, and the one entry by which the presents differ.
use Rattle.std.specs.Prelude.{◌≡◌, ℕ, not, List}
use Rattle.std.specs.Prelude.{Option, Some, None}
use Rattle.std.specs.List.{find}
use Rattle.std.specs.Prelude.{Contains}
use Rattle.retro_base.specs.declared.kind.Kind.{Kind}
use Rattle.retro_base.specs.declared.kind.Kind.TheVariants.{Queue, Stack, Deque, Dict, Pq}
use Rattle.retro_base.specs.declared.row.Change.{Change}
use Rattle.retro_base.specs.declared.row.Change.TheVariants.{Plain, Gain, Lose}
use Rattle.retro_base.specs.declared.row.Entry.{Entry}
use Rattle.retro_base.specs.declared.row.Row.{Row}
use Rattle.retro_base.specs.State.{with_entry}
use Rattle.retro_base.specs.Edits.{Edit, edited}
use Rattle.retro_base.specs.Bridges.{survivors, is_among, stated_bridge, IsStatedBridge}

-- an entry that is not among them comes to these entries, in its order
pub record Joins (entry : Entry) (before after : List Entry) : Type 0 where
  pub absent : ¬ Contains before entry
  pub joined : after ≡ with_entry entry before

-- the present gains this entry by an edit, or loses it
abbrev pub Gains : List Row → Edit → Entry → Type 0
Gains rows edit entry = Joins entry (survivors rows) (survivors (edited rows edit))

abbrev pub Loses : List Row → Edit → Entry → Type 0
Loses rows edit entry = Joins entry (survivors (edited rows edit)) (survivors rows)

-- what an accepted edit of a priority queue changes: the stated bridge, and the entry
abbrev pub IsPqChange : List Row → Edit → Change → Type 0
IsPqChange rows edit Plain = ⊥
IsPqChange rows edit (Gain bridge entry) = IsStatedBridge rows edit (Some bridge) × Gains rows edit entry
IsPqChange rows edit (Lose bridge entry) = IsStatedBridge rows edit bridge × Loses rows edit entry

-- what an accepted edit changes: of the other kinds it is `Plain`
abbrev pub IsChange : Kind → List Row → Edit → Change → Type 0
IsChange Queue rows edit change = change ≡ Plain
IsChange Stack rows edit change = change ≡ Plain
IsChange Deque rows edit change = change ≡ Plain
IsChange Dict rows edit change = change ≡ Plain
IsChange Pq rows edit change = IsPqChange rows edit change

-- the first of these entries that is not among those
abbrev pub first_beyond : List Entry → List Entry → Option Entry
first_beyond held others = find (λ entry. not (is_among others entry)) held

-- the change at a bridge, by the entry that is there only after the edit, or else the one that was there only before it
abbrev pub change_at : Option ℕ → Option Entry → Option Entry → Change
change_at (Some bridge) (Some gained) lost = Gain bridge gained
change_at bridge None (Some lost) = Lose bridge lost
change_at bridge gained lost = Plain

-- the change of an edit of a priority queue
abbrev pub pq_change_of : List Row → Edit → Change
pq_change_of rows edit =
    let before = survivors rows in
    let after = survivors (edited rows edit) in
    change_at (stated_bridge rows edit) (first_beyond after before) (first_beyond before after)

-- the change of an accepted edit
abbrev pub change_of : Kind → List Row → Edit → Change
change_of Pq rows edit = pq_change_of rows edit
change_of kind rows edit = Plain
