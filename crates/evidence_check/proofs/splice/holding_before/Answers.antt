use Rattle.std.proofs.Common.{refl, arith}
use Rattle.evidence_check.proofs.Held.{some_first}
use Rattle.evidence_check.proofs.splice.holding_before.Goals as goal

pub returns-then-place-eq0 : goal.returns-then-place-eq0
returns-then-place-eq0 g c =
    let first = some_first c.args.parts.now c.requires.some in
    record { part = first.0; there = first.1; before = refl; from = omega arith; to = omega arith }
