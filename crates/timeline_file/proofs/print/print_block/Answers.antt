use Rattle.std.proofs.Common.{rules, ◌++◌, length}
use Rattle.retro_base.specs.Text.{AppendsPrefix}
use Rattle.retro_base.specs.TextLaws.{prefix_of_longer, prefix_after}
use Rattle.timeline_file.specs.Saved.{header_text, end_text, row_lines, saved, with_feed}
use Rattle.timeline_file.proofs.print.print_block.Goals as goal

pub returns-in_err-print_header_line-clause-err : goal.returns-in_err-print_header_line-clause-err
unfolding saved
returns-in_err-print_header_line-clause-err c =
    let prefix : AppendsPrefix c.args.out.now c.print_header_line.new.out (saved c.args.name.now c.args.kind c.args.next c.args.timeline.now) =
    prefix_of_longer _ _ (with_feed (header_text c.args.name.now c.args.kind c.args.next (length c.args.timeline.now))) (row_lines c.args.timeline.now ++ with_feed end_text)
    (rw c.len.ensures at c.in_err-print_header_line.ensures.err) in
    search rules

pub returns-in_err-print_row_lines-clause-err : goal.returns-in_err-print_row_lines-clause-err
unfolding saved
returns-in_err-print_row_lines-clause-err c =
    let prefix : AppendsPrefix c.args.out.now c.print_row_lines.new.out (saved c.args.name.now c.args.kind c.args.next c.args.timeline.now) =
    prefix_after _ c.print_header_line.new.out _ (with_feed (header_text c.args.name.now c.args.kind c.args.next (length c.args.timeline.now))) (row_lines c.args.timeline.now ++ with_feed end_text)
    (rw c.len.ensures at c.in_ok-print_header_line.ensures.ok) (prefix_of_longer _ _ (row_lines c.args.timeline.now) (with_feed end_text) c.in_err-print_row_lines.ensures.err) in
    search rules
