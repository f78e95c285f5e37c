use Rattle.std.proofs.Common.{w64, sym, ap, ◌∙◌, arith}
use Rattle.std.specs.Option.{option_and_then}
use Rattle.std.proofs.lemmas.Int.{to_z-of_z}
use Rattle.key_index.specs.Ordered.{if_on}
use Rattle.key_index.proofs.Lists.{last_at}
use Rattle.key_index.proofs.tree.last_on.Goals as goal

pub returns : goal.returns
returns c =
    (rw (to_z-of_z w64 c.args.key c.ranges.key) at c.on_key.ensures)
    ∙ ap (option_and_then (if_on c.args.key)) (sym (last_at c.args.by_key.now c.args.count c.get.result (omega arith) c.get.ensures.item))
