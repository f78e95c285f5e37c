use Rattle.std.proofs.Common.{◌≡◌, take}
use Rattle.retro_dictionary.proofs.relabel.labels_before.Given as goal

abbrev pub invariant-loop-place : goal.invariant-loop-place
invariant-loop-place l = l.former ≡ take l.place l.labels
