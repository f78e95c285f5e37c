use Rattle.std.proofs.Common.{◌<◌, length, Some, ap, ◌∙◌, inr, arith}
use Rattle.std.proofs.lemmas.List.{length-set}
use Rattle.order_timeline.proofs.Pages.{has_name, full_where}
use Rattle.order_timeline.proofs.page.Page.set.Goals as goal

pub invariant_of-self : goal.invariant_of-self
invariant_of-self c =
    let within : c.args.place < length c.self.inside.names.items = omega (arith, ap length c.self.view_is, c.requires) in
    rw c.of.ensures (inr (
      length-set c.self.inside.names.items c.args.place (Some c.args.name) ∙ full_where c.self.inside.names.cap c.self.inside.names.items c.args.place c.self.invariant within,
      has_name c.self.inside.names.items c.args.place c.args.name within,
    ))
