use Rattle.std.proofs.Common.{rules, [], ◌∷◌}
use Rattle.retro_base.specs.Text.{AppendsPrefix}
use Rattle.retro_base.specs.TextLaws.{prefix_of_longer}
use Rattle.timeline_file.specs.Saved.{header_text, with_feed}
use Rattle.timeline_file.proofs.print.print_header_line.Goals as goal

pub returns-in_err-print_header-clause-err : goal.returns-in_err-print_header-clause-err
returns-in_err-print_header-clause-err c =
    let prefix : AppendsPrefix c.args.out.now c.print_header.new.out (with_feed (header_text c.args.name.now c.args.kind c.args.next c.args.count)) =
    prefix_of_longer _ _ (header_text c.args.name.now c.args.kind c.args.next c.args.count) (10 ∷ []) c.in_err-print_header.ensures.err in
    search rules
