use Rattle.std.proofs.Common.{arith}
use Rattle.order_timeline.proofs.Totals.{last_takes}
use Rattle.order_timeline.proofs.runs.run_for.Goals as goal

pub returns-then-place-rows : goal.returns-then-place-rows
returns-then-place-rows c = rw c.len.ensures (last_takes c.args.runs.now c.args.place c.requires.some (omega (arith, c.if-place-rows.true, c.requires.told)))
