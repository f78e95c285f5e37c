use Rattle.std.proofs.Common.{rules}
use Rattle.order_labels.proofs.ReadBeside.{beside_read}
use Rattle.order_labels.proofs.labels_beside.labels_beside.Goals as goal

pub returns : goal.returns
returns c =
    beside_read c.args.rows.now c.args.place c.min-count.result c.read.result c.read.new.items c.requires c.min-count.ensures c.read.ensures.count
    (c.read.ensures.items (λ label. label) (λ row answer call. search rules))
