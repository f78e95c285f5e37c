use Rattle.std.proofs.Common.{w64, ◌∙◌, ap}
use Rattle.std.proofs.lemmas.Int.{to_z-of_z}
use Rattle.key_index.specs.KeyRows.{first_after}
use Rattle.key_index.specs.Ordered.{by_label}
use Rattle.key_index.proofs.Neighbours.{same_after}
use Rattle.key_index.proofs.key_index.KeyIndex.after.Goals as goal

pub returns : goal.returns
returns c =
    (rw (to_z-of_z w64 c.args.key c.ranges.key) at c.first_above.ensures)
    ∙ same_after c.args.key (by_label c.self.inside.by_key) c.self.inside.by_key (c.self.invariant.same c.args.key) c.args.label
    ∙ ap (first_after c.args.key c.args.label) c.self.view_is
