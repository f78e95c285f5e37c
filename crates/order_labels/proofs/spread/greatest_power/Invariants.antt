use Rattle.std.proofs.Common.{◌≡◌, ℕ, ◌-◌, ◌^◌, ◌≤◌}
use Rattle.order_labels.proofs.spread.greatest_power.Given as goal

abbrev pub invariant-loop-power : goal.invariant-loop-power
invariant-loop-power l = ((k : ℕ) × (l.power ≡ 2 ^ k)) × (l.power ≤ l.n)

abbrev pub decreases-loop-power : goal.decreases-loop-power
decreases-loop-power l = l.n - l.power
