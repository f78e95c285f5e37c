use Rattle.std.proofs.Common.{◌<◌, length, refl, sym, subst}
use Rattle.order_timeline.proofs.Filed.{filed_is, filed_without}
use Rattle.order_timeline.proofs.names.Names.remove.Goals as goal

pub invariant_of-self : goal.invariant_of-self
invariant_of-self c =
    filed_is _ _ _ c.remove.new.tree c.remove-2.new.self c.self.inside.table
    (filed_without c.self.inside.names c.self.inside.labels c.self.inside.table c.args.place c.self.invariant
    (subst (λ names. c.args.place < length names) (sym c.self.view_is) c.requires))
    c.remove.ensures.items c.remove-2.ensures refl
