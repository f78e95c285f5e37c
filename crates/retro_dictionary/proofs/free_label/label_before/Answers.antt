use Rattle.std.proofs.Common.{arith}
use Rattle.retro_dictionary.proofs.LabelledRows.{before-is}
use Rattle.retro_dictionary.proofs.free_label.label_before.Goals as goal

pub returns : goal.returns
returns c = before-is c.args.labels.now c.args.place c.label_at.result (omega arith) c.label_at.ensures
