use Rattle.std.proofs.Common.{arith}
use Rattle.order_labels.specs.RareLaws.{least-number}
use Rattle.retro_dictionary.proofs.free_label.one_more.Goals as goal

pub returns : goal.returns
returns c = omega (arith, least-number, c.min.ensures)
