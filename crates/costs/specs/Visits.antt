-- How many nodes a call may visit, and what opens the counter of visits.
use Rattle.std.specs.Prelude.{◌≡◌, ℕ, ◌+◌, ◌*◌, ◌<◌, ◌≤◌}
use Rattle.costs.specs.Digits.{digits}

-- at most `factor` visits for each digit of one more than the length
pub record VisitsWithin (factor length before after : ℕ) : Type 0 where
  pub none_lost : before ≤ after
  pub few : after ≤ before + factor * digits (length + 1)

-- a blank ledger opens a counter: it has the name of the counter, and all of its parts
abbrev pub OpensCounter : {N : Type 0} → N → N → ℕ → ℕ → Type 0
OpensCounter name own_name parts own_parts = (name ≡ own_name) × (parts ≡ own_parts) × (0 < parts)
