use Rattle.std.proofs.Common.{◌≡◌}
use Rattle.key_index.proofs.Moved.{partly}
use Rattle.key_index.proofs.tree.relabel.Given as goal

abbrev pub invariant-loop-place : goal.invariant-loop-place
invariant-loop-place l = l.by_key ≡ partly l.former l.fresh l.place l.initial.by_key
