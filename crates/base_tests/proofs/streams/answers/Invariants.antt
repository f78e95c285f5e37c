use Rattle.std.proofs.Common.{◌≡◌, false}
use Rattle.retro_io.specs.LineReader.{has_failed}
use Rattle.base_tests.proofs.streams.answers.Given as goal

abbrev pub invariant-loop : goal.invariant-loop
invariant-loop g l = has_failed l.reader ≡ false
