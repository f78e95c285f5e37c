use Rattle.std.proofs.Common.{rules}
use Rattle.retro_base.specs.Text.{AppendsPrefix}
use Rattle.retro_base.specs.TextLaws.{one_more, stopped}
use Rattle.timeline_file.specs.Saved.{row_line_text, row_lines}
use Rattle.timeline_file.proofs.print.print_row_lines.Goals as goal

pub returns-in_err-print_row_line-clause-err : goal.returns-in_err-print_row_line-clause-err
returns-in_err-print_row_line-clause-err c =
    let prefix : AppendsPrefix c.args.out.now c.print_row_line.new.out (row_lines c.args.rows.now) =
    stopped row_line_text _ c.loop-index.out _ _ c.loop-index.index c.row.result c.loop-index.invariant c.row.ensures c.in_err-print_row_line.ensures.err in
    search rules

pub loop-index-preserved : goal.loop-index-preserved
loop-index-preserved c =
    one_more row_line_text _ c.loop-index.out _ _ c.loop-index.index c.row.result c.loop-index.invariant c.row.ensures c.in_ok-print_row_line.ensures.ok
