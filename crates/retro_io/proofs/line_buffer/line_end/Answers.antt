-- The last byte decides.
use Rattle.retro_io.proofs.LineLemmas.{range-cut, range-kept, range-empty}
use Rattle.retro_io.proofs.line_buffer.line_end.Goals as goal
use Rattle.retro_io.proofs.line_buffer.line_end.Goals.{else-start-end-via-then-start-end+else-bytes-end-eq13, else-start-end-via-else-start-end}

pub returns-then-bytes-end-eq13-clause-line : goal.returns-then-bytes-end-eq13-clause-line
returns-then-bytes-end-eq13-clause-line c =
    range-cut c.args.bytes.now c.args.start c.args.end c.if-start-end.true c.requires.within c.if-bytes-end-eq13.true

pub returns-else-start-end-clause-line : goal.returns-else-start-end-clause-line
returns-else-start-end-clause-line c =
    elim c.else-start-end.branch [
      | else-start-end-via-then-start-end+else-bytes-end-eq13 w ↦
          range-kept c.args.bytes.now c.args.start c.args.end w.if-start-end.true c.requires.within w.if-bytes-end-eq13.false
      | else-start-end-via-else-start-end w ↦ range-empty c.args.bytes.now c.args.start c.args.end w.if-start-end.false
    ]
