use Rattle.std.proofs.Common.{◌≡◌, true, false, cond, Some, ◌+◌, drop, sym, ap, ◌∙◌, arith}
use Rattle.std.specs.Prelude.{◌==◌}
use Rattle.std.proofs.lemmas.Bool.Decides.{nat_tests}
use Rattle.key_index.specs.KeyRows.{op_at}
use Rattle.key_index.proofs.Scanned.{looked_at}
use Rattle.key_index.proofs.tree.op_of.Goals as goal

pub returns-then-label : goal.returns-then-label
returns-then-label c =
    let row = c.get-row.result in
    let has : (row.0 == c.args.label) ≡ true = grind (arith, nat_tests, c.label.ensures, c.if-label.true) in
    ap Some c.op.ensures
    ∙ sym (ap (λ b. cond b (Some row.1) (op_at c.args.label (drop (c.loop-place.place + 1) c.args.by_key.now))) has)
    ∙ sym (looked_at c.args.label c.args.by_key.now c.loop-place.place row c.get-row.ensures.item)
    ∙ c.loop-place.invariant

pub loop-place-preserved : goal.loop-place-preserved
loop-place-preserved c =
    let row = c.get-row.result in
    let other : (row.0 == c.args.label) ≡ false = grind (arith, nat_tests, c.label.ensures, c.if-label.false) in
    sym (ap (λ b. cond b (Some row.1) (op_at c.args.label (drop (c.loop-place.place + 1) c.args.by_key.now))) other)
    ∙ sym (looked_at c.args.label c.args.by_key.now c.loop-place.place row c.get-row.ensures.item)
    ∙ c.loop-place.invariant
