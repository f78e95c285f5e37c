use Rattle.std.proofs.Common.{◌≡◌, ◌≤◌, ◌++◌, vec_len, vec_capacity}
use Rattle.evidence_check.proofs.splice.split.Given as goal

abbrev pub invariant-loop-moved : goal.invariant-loop-moved
invariant-loop-moved g l = (l.parts.items ++ l.rest.items ≡ l.initial.parts.items) × (vec_len l.rest ≡ l.moved) × (l.count ≤ vec_capacity l.rest)
