use Rattle.std.proofs.Common.{◌≤◌, ◌*◌, ◌-◌, arith}
use Rattle.retro_dictionary.proofs.RareRows.{beside-within}
use Rattle.retro_dictionary.proofs.free_label.label_beside.Goals as goal
use Rattle.retro_dictionary.proofs.free_label.label_beside.Goals.{After-unit_beside-unit}

-- it lies no further than half the way
within : (c : After-unit_beside-unit) → 2 * c.unit_beside-unit.result ≤ c.args.after - c.args.before
within c = omega (arith, c.unit_beside-unit.ensures, beside-within c.args.recent c.args.so_far c.args.left (c.args.after - c.args.before) c.args.right (omega arith))

pub overflow_add-result : goal.overflow_add-result
overflow_add-result c = omega (arith, within (goal.at.overflow_add-result c).After-unit_beside-unit)

pub overflow_sub-result : goal.overflow_sub-result
overflow_sub-result c = omega (arith, within (goal.at.overflow_sub-result c).After-unit_beside-unit)
