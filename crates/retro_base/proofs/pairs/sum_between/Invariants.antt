use Rattle.std.proofs.Common.{◌≡◌, ◌+◌, ◌*◌, ◌^◌, length, fold, pos, neg_ℤ, ◌+ℤ◌, ◌≤ℤ◌}
use Rattle.retro_base.specs.Answers.{pairs_between, sum_of_values}
use Rattle.retro_base.proofs.pairs.sum_between.Given as goal

abbrev pub invariant-loop-key : goal.invariant-loop-key
invariant-loop-key l = record {
  exact : fold (λ sum pair. sum +ℤ pair.1) l.sum (pairs_between l.low l.high l.key-iterator) ≡ sum_of_values (pairs_between l.low l.high l.held.entries);
  above : neg_ℤ (pos (2 ^ 63 * length l.yielded)) ≤ℤ l.sum;
  below : l.sum ≤ℤ pos (2 ^ 63 * length l.yielded);
  place : length l.yielded + length l.key-iterator ≡ length l.held.entries;
}
