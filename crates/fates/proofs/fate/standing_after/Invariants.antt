-- The rows before its own were counted up to here.
use Rattle.std.proofs.Common.{◌≤◌, ◌-◌}
use Rattle.retro_base.specs.Kind.{kind_of}
use Rattle.retro_base.specs.Holders.{holders}
use Rattle.fates.proofs.Steps.{Ready}
use Rattle.fates.proofs.fate.standing_after.Given as goal

abbrev pub invariant-loop-from : goal.invariant-loop-from
invariant-loop-from l = record {
  within : l.from ≤ l.place;
  ready : Ready l.fn.own l.count (holders (kind_of l.fn.own.op) l.rows l.from);
  few : l.count ≤ l.from;
}

abbrev pub decreases-loop-from : goal.decreases-loop-from
decreases-loop-from l = l.place - l.from
