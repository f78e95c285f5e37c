use Rattle.std.proofs.Common.{◌-◌, arith}
use Rattle.order_labels.specs.Labels.{label_limit}
use Rattle.retro_dictionary.proofs.RareRows.{unit-within}
use Rattle.retro_dictionary.proofs.free_label.label_after.Goals as goal

pub overflow_add-result : goal.overflow_add-result
overflow_add-result c =
    omega (arith, c.requires.room, c.next_multiple_of.ensures.upper_bound, c.unit_after-unit.ensures, unit-within (c.args.last - c.args.former) (label_limit - c.args.last) (omega arith))
