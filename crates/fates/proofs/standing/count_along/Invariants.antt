-- The rows that are left are counted from here.
use Rattle.std.proofs.Common.{◌≡◌, ◌+◌, ◌≤◌, drop}
use Rattle.std.specs.List.{fold}
use Rattle.fates.specs.Standings.{count_after}
use Rattle.fates.proofs.standing.count_along.Given as goal

abbrev pub invariant-loop-row : goal.invariant-loop-row
invariant-loop-row l = record {
  rest : fold (count_after l.fn.own) l.fn.count l.rows ≡ fold (count_after l.fn.own) l.count (drop l.row-index l.rows);
  few : l.count ≤ l.fn.count + l.row-index;
}
