use Rattle.std.proofs.Common.{◌≡◌, drop}
use Rattle.key_index.specs.KeyRows.{op_at}
use Rattle.key_index.proofs.tree.op_of.Given as goal

abbrev pub invariant-loop-place : goal.invariant-loop-place
invariant-loop-place l = op_at l.label (drop l.place l.by_key) ≡ op_at l.label l.by_key
