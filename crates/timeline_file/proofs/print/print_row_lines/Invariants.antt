use Rattle.std.proofs.Common.{◌≡◌, ◌++◌, take}
use Rattle.timeline_file.specs.Saved.{row_lines}
use Rattle.timeline_file.proofs.print.print_row_lines.Given as goal

abbrev pub invariant-loop-index : goal.invariant-loop-index
invariant-loop-index l = l.out ≡ l.fn.out ++ row_lines (take l.index l.rows)
