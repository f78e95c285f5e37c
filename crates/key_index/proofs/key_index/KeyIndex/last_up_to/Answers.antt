use Rattle.std.proofs.Common.{w64, ◌∙◌, ap}
use Rattle.std.proofs.lemmas.Int.{to_z-of_z}
use Rattle.key_index.specs.RowsBeside.{last_up_to}
use Rattle.key_index.specs.Ordered.{by_label}
use Rattle.key_index.proofs.Neighbours.{same_up_to}
use Rattle.key_index.proofs.key_index.KeyIndex.last_up_to.Goals as goal

pub returns : goal.returns
returns c =
    (rw (to_z-of_z w64 c.args.key c.ranges.key) at c.last_up_to.ensures)
    ∙ same_up_to c.args.key (by_label c.self.inside.by_key) c.self.inside.by_key (c.self.invariant.same c.args.key) c.args.label
    ∙ ap (last_up_to c.args.key c.args.label) c.self.view_is
