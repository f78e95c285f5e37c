-- What the row put in is there after each row so far.
use Rattle.std.specs.Prelude.{◌≡◌, ◌-◌, ◌<◌, ◌≤◌, length, slice_get, Some}
use Rattle.retro_base.specs.declared.row.Row.{Row}
use Rattle.fates.proofs.Windows.{IsWalked}
use Rattle.fates.proofs.fate.fate_of.Given as goal

abbrev pub invariant-loop-from : goal.invariant-loop-from
invariant-loop-from l = record {
  later : l.fn.place < l.from;
  within : l.from ≤ length l.rows;
  walked : (own : Row) → slice_get l.rows l.fn.place ≡ Some own → IsWalked l.rows l.fn.place own l.from l.standing;
}

abbrev pub decreases-loop-from : goal.decreases-loop-from
decreases-loop-from l = length l.rows - l.from
