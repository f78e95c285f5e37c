use Rattle.std.proofs.Common.{◌≡◌, take}
use Rattle.timelines.proofs.questions.rows_of.Given as goal

abbrev pub invariant-loop-place : goal.invariant-loop-place
invariant-loop-place l = l.rows ≡ take l.place l.timeline
