use Rattle.std.proofs.Common.{◌∷◌, ap, arith, length, length-append}
use Rattle.std.proofs.lemmas.List.Edits.{length-insert}
use Rattle.weighted_tree.proofs.subtree.Subtree.divide_leaf.Goals as goal

pub of_items-requires : goal.of_items-requires
of_items-requires g c =
    let node = c.in-Ok.node.value in
    let items = c.in-Some.ensures.taken.0 in
    record {
      few = omega (
        arith,
        ap length c.in-Ok.ensures.ok,
        length-append c.divide.new.items.items (node.item ∷ node.right.items),
        length-insert c.in-Some.items.items c.args.place c.args.item (omega (arith, ap length items)),
        ap length items,
        c.in-Some.ensures.few,
      );
    }
