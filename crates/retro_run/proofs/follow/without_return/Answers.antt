-- The last byte decides.
use Rattle.std.proofs.Common.{rules}
use Rattle.retro_run.proofs.AnswerLines.{no_return, with_return}
use Rattle.retro_run.proofs.follow.without_return.Goals as goal
use Rattle.retro_run.proofs.follow.without_return.Goals.{else-size-gt0-via-then-size-gt0+else-line-size-eq13, else-size-gt0-via-else-size-gt0}

pub returns-then-line-size-eq13 : goal.returns-then-line-size-eq13
returns-then-line-size-eq13 c = with_return c.args.line.now 0 c.if-size-gt0.true c.if-line-size-eq13.true

pub returns-else-size-gt0 : goal.returns-else-size-gt0
returns-else-size-gt0 c =
    no_return c.args.line.now 0
    (elim c.else-size-gt0.branch [
      | else-size-gt0-via-then-size-gt0+else-line-size-eq13 w ↦ λ some. w.if-line-size-eq13.false
      | else-size-gt0-via-else-size-gt0 w ↦ λ some. absurd (search (rules, some))
    ])
