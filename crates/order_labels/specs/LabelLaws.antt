-- How labels are spread, and how many insertions lie between two relabellings.
use Rattle.std.specs.Prelude.{◌≡◌, ℕ, ◌+◌, ◌*◌, ◌/◌, ◌^◌, ◌<◌, ◌≤◌, Some, None, List, [], ◌∷◌, length, slice_get}
use Rattle.std.specs.List.{remove}
use Rattle.retro_base.specs.Limits.{most_rows}
use Rattle.order_labels.specs.Labels.{LabelRule, label_limit, exponent, gap_of, least_gap, spread, inserted_by}

-- the greatest power of two that is at most n
pub record IsGreatestPower (n power : ℕ) : Type 0 where
  pub is_power : (k : ℕ) × (power ≡ 2 ^ k)
  pub within : power ≤ n
  pub greatest : n < 2 * power

-- of so many rows, the one at each index gets as many gaps as there are rows up to it
pub record IsSpreadEvenly (count : ℕ) : Type 0 where
  pub all : length (spread count) ≡ count
  pub each : (index : ℕ) → index < count → slice_get (spread count) index ≡ Some ((index + 1) * gap_of count)
  pub gap : IsGreatestPower (label_limit / (count + 1)) (gap_of count)

-- labels of a full timeline lie least far apart
abbrev pub GapsAreWide : Type 0
GapsAreWide = (count : ℕ) → count ≤ most_rows → least_gap ≤ gap_of count

-- an insertion or a removal, at a place
pub data LabelEdit : Type 0 where
  Insert : ℕ → LabelEdit
  Remove : ℕ → LabelEdit

-- the labels after an edit, where rows get theirs by a rule
abbrev pub edited : LabelRule → List ℕ → LabelEdit → List ℕ
edited rule labels (Insert place) = inserted_by rule labels place
edited rule labels (Remove place) = remove labels place

-- its place is there, and so is the room for another row
abbrev pub IsAccepted : List ℕ → LabelEdit → Type 0
IsAccepted labels (Insert place) = (place ≤ length labels) × (length labels < most_rows)
IsAccepted labels (Remove place) = place < length labels

-- the edit is an insertion for which all rows are relabelled
abbrev pub Relabels : LabelRule → List ℕ → LabelEdit → Type 0
Relabels rule labels (Insert place) = rule labels place ≡ None
Relabels rule labels (Remove place) = ⊥

-- the edit is made, and every other label stays
abbrev pub KeepsLabels : LabelRule → List ℕ → LabelEdit → Type 0
KeepsLabels rule labels edit = IsAccepted labels edit × (Relabels rule labels edit → ⊥)

-- these edits are made one after another and relabel nothing, and then comes one that relabels
abbrev pub EndInRelabelling : LabelRule → List ℕ → List LabelEdit → LabelEdit → Type 0
EndInRelabelling rule labels [] last = IsAccepted labels last × Relabels rule labels last
EndInRelabelling rule labels (edit ∷ edits) last = KeepsLabels rule labels edit × EndInRelabelling rule (edited rule labels edit) edits last

-- how many of the edits are insertions
abbrev pub insertions : List LabelEdit → ℕ
insertions [] = 0
insertions (Insert place ∷ edits) = 1 + insertions edits
insertions (Remove place ∷ edits) = insertions edits

-- so many insertions at least lie between two relabellings: as often can the widest gap of a full timeline be halved
abbrev pub least_insertions : ℕ
least_insertions = exponent (label_limit / (most_rows + 1))

-- by a rule, at least so many insertions come between labels that are spread and the next relabelling
abbrev pub RelabellingIsRare : LabelRule → Type 0
RelabellingIsRare rule = (count : ℕ) (edits : List LabelEdit) (last : LabelEdit) → count ≤ most_rows → EndInRelabelling rule (spread count) edits last → least_insertions ≤ insertions edits
