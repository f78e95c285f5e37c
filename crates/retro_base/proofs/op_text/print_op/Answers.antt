use Rattle.std.proofs.Common.{rules, w64, SFits, codes}
use Rattle.std.proofs.lemmas.Int.{to_z-of_z}
use Rattle.retro_base.specs.OpText.{op_text, value_text, with_value}
use Rattle.retro_base.specs.Text.{AppendsPrefix}
use Rattle.retro_base.specs.TextLaws.{prefix_of_longer}
use Rattle.retro_base.proofs.op_text.print_op.Goals as goal

pub returns-in_err-print_with_value-in-Put-clause-err : goal.returns-in_err-print_with_value-in-Put-clause-err
returns-in_err-print_with_value-in-Put-clause-err c =
    let fits : SFits w64 c.in-Put.key = search rules in
    let stopped : AppendsPrefix c.args.out.now c.print_with_value-in-Put.new.out (with_value (codes "put") c.in-Put.key) =
    simp to_z-of_z at c.in_err-print_with_value-in-Put.ensures.err in
    let prefix : AppendsPrefix c.args.out.now c.print_with_value-in-Put.new.out (op_text c.args.op) =
    rw c.in-Put.is (prefix_of_longer _ _ _ (value_text c.in-Put.value) stopped) in
    search rules
