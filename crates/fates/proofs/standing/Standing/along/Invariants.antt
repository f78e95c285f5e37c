-- The rows that are left take it on from here.
use Rattle.std.proofs.Common.{◌+◌}
use Rattle.fates.specs.Standings.{IsUpTo, after_row}
use Rattle.fates.proofs.standing.Standing.along.Given as goal
use Rattle.retro_base.specs.Limits.{most_rows}
use Rattle.retro_base.specs.Replay.{fold_rows}
use Rattle.retro_base.specs.lemmas.Folds.{ComesTo}

abbrev pub invariant-loop-index : goal.invariant-loop-index
invariant-loop-index l = record {
  comes : ComesTo (λ row standing. after_row standing row) l.rows (fold_rows (λ row standing. after_row standing row) l.rows l.fn.self) l.index l.standing;
  few : IsUpTo l.standing (most_rows + l.index);
}
