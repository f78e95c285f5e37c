use Rattle.std.proofs.Common.{◌≡◌, int_le}
use Rattle.std.specs.List.{find}
use Rattle.retro_base.proofs.pairs.least_from.Given as goal

abbrev pub invariant-loop-other : goal.invariant-loop-other
invariant-loop-other l = find (λ pair. int_le l.key pair.0) l.other-iterator ≡ find (λ pair. int_le l.key pair.0) l.held.entries
