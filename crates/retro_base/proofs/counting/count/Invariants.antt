use Rattle.std.proofs.Common.{◌+◌, ◌≤◌}
use Rattle.retro_base.specs.Counting.{quantity_after, counted}
use Rattle.retro_base.specs.lemmas.Folds.{ComesTo}
use Rattle.retro_base.proofs.counting.count.Given as goal

abbrev pub invariant-loop-index : goal.invariant-loop-index
invariant-loop-index l = ComesTo (λ row n. quantity_after l.quantity row.op n) l.rows (counted l.quantity l.rows l.fn.size) l.index l.size × (l.size ≤ l.fn.size + l.index)
