use Rattle.std.proofs.Common.{rules, [], ◌∷◌}
use Rattle.retro_base.specs.Text.{AppendsPrefix}
use Rattle.retro_base.specs.TextLaws.{prefix_of_longer}
use Rattle.timeline_file.specs.Saved.{row_text, with_feed}
use Rattle.timeline_file.proofs.print.print_row_line.Goals as goal

pub returns-in_err-print_row-clause-err : goal.returns-in_err-print_row-clause-err
returns-in_err-print_row-clause-err c =
    let prefix : AppendsPrefix c.args.out.now c.print_row.new.out (with_feed (row_text c.args.row)) =
    prefix_of_longer _ _ (row_text c.args.row) (10 ∷ []) c.in_err-print_row.ensures.err in
    search rules
