use Rattle.std.proofs.Common.{◌≡◌, ◌<◌, ◌^◌, drop}
use Rattle.script_grammar.specs.Numbers.{natural_after}
use Rattle.script_grammar.proofs.numbers.read_natural.Given as goal

abbrev pub invariant-loop-digit : goal.invariant-loop-digit
invariant-loop-digit l = (natural_after l.value (drop l.digit-index l.digits) ≡ natural_after 0 l.digits) × (l.value < 2 ^ 64)
