-- The entries that the events of one name leave.
use Rattle.std.specs.Prelude.{ℕ, List, [], ◌∷◌, ◌++◌, codes, flat_map, if◌then◌else◌}
use Rattle.std.specs.Fmt.{signed_decimal}
use Rattle.std.specs.Str.{bytes_eq}
use Rattle.retro_base.specs.declared.row.Change.{Change}
use Rattle.retro_base.specs.declared.row.Change.TheVariants.{Plain, Gain, Lose}
use Rattle.retro_base.specs.declared.row.Entry.{Entry}
use Rattle.retro_base.specs.Bridges.{same_entry}
use Rattle.retro_base.specs.State.{with_entry}
use Rattle.evidence.specs.declared.evidence.Evidence.{Evidence}

-- the entries without this one, where it is there
abbrev pub without_entry : Entry → List Entry → List Entry
without_entry gone [] = []
without_entry gone (first ∷ others) = if same_entry gone first then others else first ∷ without_entry gone others

-- the entries after a change: a gained one comes to them in its order, and a lost one goes
abbrev pub changed : Change → List Entry → List Entry
changed Plain entries = entries
changed (Gain bridge entry) entries = with_entry entry entries
changed (Lose bridge entry) entries = without_entry entry entries

-- the entries after an event, which concerns those of its own name
abbrev pub changed_by : List ℕ → Evidence → List Entry → List Entry
changed_by name event entries = if bytes_eq event.name name then changed event.change entries else entries

-- the entries after events, one after another
abbrev pub held_after : List ℕ → List Entry → List Evidence → List Entry
held_after name entries [] = entries
held_after name entries (event ∷ events) = held_after name (changed_by name event entries) events

-- the entries that the events of a name leave
abbrev pub held : List ℕ → List Evidence → List Entry
held name events = held_after name [] events

-- a name, and the entries that its events have left so far
pub record Mirrored : Type 0 where
  pub name : List ℕ
  pub entries : List Entry

-- ` K`
abbrev pub key_text : Entry → List ℕ
key_text entry = codes " " ++ signed_decimal entry.key

-- the keys in their order, or that there are none
abbrev pub keys_text : List Entry → List ℕ
keys_text [] = codes " empty"
keys_text (entry ∷ entries) = flat_map key_text (entry ∷ entries)

-- `mirror NAME` and the keys
abbrev pub mirror_text : List ℕ → List Entry → List ℕ
mirror_text name entries = codes "mirror " ++ (name ++ keys_text entries)
