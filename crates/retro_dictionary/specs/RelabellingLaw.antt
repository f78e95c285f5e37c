-- How many insertions lie between two relabellings, where a rule of labels knows how many came since the last one.
use Rattle.std.specs.Prelude.{ℕ, ◌+◌, ◌≤◌, min, map, List, [], ◌∷◌}
use Rattle.std.specs.Option.{option_map_or}
use Rattle.order_labels.specs.LabelLaws.{LabelEdit, IsAccepted, KeepsLabels, Relabels, edited, insertions, least_insertions}
use Rattle.order_labels.specs.LabelLaws.LabelEdit.{Insert, Remove}
use Rattle.order_labels.specs.Labels.{LabelRule, spread}
use Rattle.retro_base.specs.Limits.{most_rows}
use Rattle.retro_dictionary.specs.declared.recent.RecentNeighbour.{RecentNeighbour}
use Rattle.retro_dictionary.specs.declared.recent.RecentNeighbour.TheVariants.{Neither}

-- for each number of insertions a rule
abbrev pub CountingRule : Type 0
CountingRule = ℕ → LabelRule

-- one insertion more, counted up to as many as there have to be
abbrev pub one_more : ℕ → ℕ
one_more so_far = min (so_far + 1) least_insertions

-- the number once a place has got a label by a rule: none where all are relabelled
abbrev pub counted_by : CountingRule → ℕ → List ℕ → ℕ → ℕ
counted_by rule so_far labels place = option_map_or (λ label. one_more so_far) (rule so_far labels place) 0

-- and after an edit
abbrev pub counted : CountingRule → ℕ → List ℕ → LabelEdit → ℕ
counted rule so_far labels (Insert place) = counted_by rule so_far labels place
counted rule so_far labels (Remove place) = so_far

-- an insertion, with what came in lately beside its place, or a removal
pub data RowEdit : Type 0 where
  PutIn : RecentNeighbour → ℕ → RowEdit
  TakeOut : ℕ → RowEdit

-- the edit of the labels
abbrev pub label_edit : RowEdit → LabelEdit
label_edit (PutIn recent place) = Insert place
label_edit (TakeOut place) = Remove place

-- and the rule for it
abbrev pub rule_for : (RecentNeighbour → CountingRule) → RowEdit → CountingRule
rule_for rule (PutIn recent place) = rule recent
rule_for rule (TakeOut place) = rule Neither

-- these edits are made one after another and relabel nothing, and then comes one that relabels
abbrev pub EndInRelabelling : (RecentNeighbour → CountingRule) → ℕ → List ℕ → List RowEdit → RowEdit → Type 0
EndInRelabelling rule so_far labels [] last = IsAccepted labels (label_edit last) × Relabels (rule_for rule last so_far) labels (label_edit last)
EndInRelabelling rule so_far labels (edit ∷ edits) last =
    KeepsLabels (rule_for rule edit so_far) labels (label_edit edit)
    × EndInRelabelling rule (counted (rule_for rule edit) so_far labels (label_edit edit)) (edited (rule_for rule edit so_far) labels (label_edit edit)) edits last

-- at least so many insertions come between labels that are spread and the next relabelling, whatever came in lately where
abbrev pub RelabellingIsRare : (RecentNeighbour → CountingRule) → Type 0
RelabellingIsRare rule =
    (count : ℕ) (edits : List RowEdit) (last : RowEdit) → count ≤ most_rows → EndInRelabelling rule 0 (spread count) edits last
    → least_insertions ≤ insertions (map label_edit edits)
