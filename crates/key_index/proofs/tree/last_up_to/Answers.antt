use Rattle.std.proofs.Common.{w64, ◌∙◌}
use Rattle.std.proofs.lemmas.Int.{to_z-of_z}
use Rattle.key_index.proofs.Neighbours.{last_is}
use Rattle.key_index.proofs.tree.last_up_to.Goals as goal

pub returns : goal.returns
returns c =
    let key_is = to_z-of_z w64 c.args.key c.ranges.key in
    (rw key_is at c.last_on.ensures) ∙ last_is c.args.key c.args.label c.args.by_key.now c.count_up_to-count.result c.requires.ordered (rw key_is at c.count_up_to-count.ensures.front)
