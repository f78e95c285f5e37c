use Rattle.std.proofs.Common.{◌≡◌, int_le, reverse}
use Rattle.std.specs.List.{find}
use Rattle.std.specs.Option.{option_or}
use Rattle.retro_base.proofs.pairs.greatest_up_to.Given as goal

abbrev pub invariant-loop-other : goal.invariant-loop-other
invariant-loop-other l = option_or (find (λ pair. int_le pair.0 l.key) (reverse l.other-iterator)) l.greatest ≡ find (λ pair. int_le pair.0 l.key) (reverse l.held.entries)
