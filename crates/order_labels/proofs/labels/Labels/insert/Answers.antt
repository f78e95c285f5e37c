use Rattle.order_labels.specs.Labels.{inserted}
use Rattle.order_labels.proofs.Rule.{labels_with, labels_kept}
use Rattle.order_labels.proofs.labels.Labels.insert.Goals as goal

pub invariant_of-self : goal.invariant_of-self
invariant_of-self c =
    labels_kept c.self.inside.rows (inserted c.self.inside.rows c.args.place) c.insert_label.new.rows c.insert_label.result c.self.invariant
    (labels_with c.self.inside.rows c.args.place (rw (← c.self.view_is) at c.requires.within) (rw (← c.self.view_is) at c.requires.room) c.self.invariant)
    c.insert_label.ensures.labels c.insert_label.ensures.err
