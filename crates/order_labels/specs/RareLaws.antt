-- A rule by which each insertion takes one step of those that are left relabels rarely.
use Rattle.std.proofs.Common.{◌≡◌, ℕ, zero, suc, ◌+◌, ◌/◌, ◌<◌, ◌≤◌, Option, Some, None, List, [], ◌∷◌, length, arith}
use Rattle.std.specs.List.{insert, remove}
use Rattle.retro_base.specs.Limits.{most_rows}
use Rattle.order_labels.specs.Labels.{LabelRule, label_limit}
use Rattle.order_labels.specs.LabelLaws.{LabelEdit, EndInRelabelling, insertions, least_insertions}
use Rattle.order_labels.specs.LabelLaws.LabelEdit.{Insert, Remove}
use Rattle.order_labels.specs.PowerLaws.{exponent-is}

-- labels that last for so many insertions and one more have a label for each place, and with it they last for so many
pub record Lasting (rule : LabelRule) (LastFor : ℕ → List ℕ → Type 0) : Type 0 where
  pub with_row : (k : ℕ) (labels : List ℕ) (place : ℕ) → place ≤ length labels → LastFor (suc k) labels → (label : ℕ) × (rule labels place ≡ Some label) × LastFor k (insert labels place label)
  pub without_row : (k : ℕ) (labels : List ℕ) (place : ℕ) → place < length labels → LastFor k labels → LastFor k (remove labels place)

pub not_both : {label : ℕ} {found : Option ℕ} → found ≡ Some label → found ≡ None → ⊥
not_both some none = cc

-- the number of the width and of the bound on rows
pub least-number : least_insertions ≡ 22
least-number = exponent-is (label_limit / (most_rows + 1)) 22 (omega arith) (omega arith) (omega arith)

-- so many insertions come before one that relabels
pub rare_by : (rule : LabelRule) (LastFor : ℕ → List ℕ → Type 0) → Lasting rule LastFor
    → (k : ℕ) (labels : List ℕ) (edits : List LabelEdit) (last : LabelEdit) → LastFor k labels → EndInRelabelling rule labels edits last → k ≤ insertions edits
rare_by rule LastFor lasting k labels [] (Remove place) enough ends = absurd ends.1
rare_by rule LastFor lasting zero labels [] (Insert place) enough ends = omega arith
rare_by rule LastFor lasting (suc k) labels [] (Insert place) enough ends = absurd (not_both (lasting.with_row k labels place ends.0.0 enough).1 ends.1)
rare_by rule LastFor lasting k labels (Remove place ∷ edits) last enough ends = rare_by rule LastFor lasting k (remove labels place) edits last (lasting.without_row k labels place ends.0.0 enough) ends.1
rare_by rule LastFor lasting zero labels (Insert place ∷ edits) last enough ends = omega arith
rare_by rule LastFor lasting (suc k) labels (Insert place ∷ edits) last enough ends =
    let with = lasting.with_row k labels place ends.0.0.0 enough in
    let after : EndInRelabelling rule (insert labels place with.0) edits last = rw with.1 at ends.1 in
    omega (arith, rare_by rule LastFor lasting k (insert labels place with.0) edits last with.2 after)
