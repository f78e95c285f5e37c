use Rattle.std.proofs.Common.{◌≡◌, ◌+◌, length}
use Rattle.retro_base.specs.Answers.{pairs_between}
use Rattle.retro_base.proofs.pairs.count_between.Given as goal

abbrev pub invariant-loop-key : goal.invariant-loop-key
invariant-loop-key l = l.count + length (pairs_between l.low l.high l.key-iterator) ≡ length (pairs_between l.low l.high l.held.entries)
