use Rattle.std.proofs.Common.{rules}
use Rattle.order_labels.specs.CountLaws.{count_found}
use Rattle.order_timeline.proofs.find.rows_up_to.Goals as goal

pub returns-clause-place : goal.returns-clause-place
returns-clause-place c = count_found (λ row. row.time) c.args.time _ _ c.args.rows.now _ c.partition_point.ensures.partition (λ row answer call. search rules) c.requires.order c.partition_point.ensures.within
