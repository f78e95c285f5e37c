-- The labels beside a place.
use Rattle.std.specs.Prelude.{◌≡◌, ℕ, ◌+◌, ◌-◌, List}
use Rattle.order_labels.specs.declared.labels_beside.LabelsBeside.{LabelsBeside}
use Rattle.order_labels.specs.Labels.{label_before, label_after, label_limit}

-- the last two before it, and the first two from it on
pub record IsBeside (labels : List ℕ) (place : ℕ) (beside : LabelsBeside) : Type 0 where
  pub former : beside.former ≡ label_before 0 labels (place - 1)
  pub before : beside.before ≡ label_before 0 labels place
  pub after_it : beside.after ≡ label_after label_limit labels place
  pub later : beside.later ≡ label_after label_limit labels (place + 1)
