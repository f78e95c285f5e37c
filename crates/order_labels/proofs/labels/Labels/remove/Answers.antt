use Rattle.order_labels.proofs.Rule.{labels_without}
use Rattle.order_labels.proofs.labels.Labels.remove.Goals as goal

pub invariant_of-self : goal.invariant_of-self
invariant_of-self c = rw c.remove.ensures.items (labels_without c.self.inside.rows c.args.place (rw (← c.self.view_is) at c.requires) c.self.invariant)
