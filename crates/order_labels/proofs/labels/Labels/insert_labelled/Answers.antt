use Rattle.std.specs.List.{insert}
use Rattle.order_labels.proofs.Rule.{labels_labelled, labels_kept}
use Rattle.order_labels.proofs.labels.Labels.insert_labelled.Goals as goal

pub invariant_of-self : goal.invariant_of-self
invariant_of-self c =
    labels_kept c.self.inside.rows (insert c.self.inside.rows c.args.place c.new.result) c.insert.new.tree c.insert.result c.self.invariant
    (rw c.new.ensures (labels_labelled c.self.inside.rows c.args.place c.args.label (rw (← c.self.view_is) at c.requires.within) (rw (← c.self.view_is) at c.requires.room)
    (rw (← c.self.view_is) at c.requires.above) (rw (← c.self.view_is) at c.requires.below) c.self.invariant))
    c.insert.ensures.ok c.insert.ensures.err
