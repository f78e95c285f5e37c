use Rattle.std.proofs.Common.{drop, arith, rules}
use Rattle.std.proofs.lemmas.List.{length-drop}
use Rattle.order_timeline.proofs.Rows.{read_is}
use Rattle.order_timeline.proofs.find.read_from.Goals as goal

pub returns-clause-rows : goal.returns-clause-rows
returns-clause-rows c = read_is (drop c.args.from c.args.rows.now) c.args.copies.now c.read.new.items c.read.result
    (omega (arith, length-drop c.args.from c.args.rows.now)) (c.read.ensures.items (λ row. row) (λ row answer call. search rules))
