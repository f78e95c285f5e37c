use Rattle.std.proofs.Common.{ap, arith, length}
use Rattle.std.proofs.lemmas.List.Edits.{length-insert}
use Rattle.weighted_tree.specs.Tails.{tail_items}
use Rattle.weighted_tree.proofs.tail.Tail.take_node.Goals as goal

pub of_items-requires : goal.of_items-requires
of_items-requires g c =
    let size = ap length c.in-Some-take_leaf.ensures.taken.0 in
    let opened = ap (λ part. length part.items) c.deref_mut.ensures.value in
    let leaf = ap (λ leaf. length (tail_items leaf)) c.in-Some.is in
    let all = ap length c.self.view_is in
    record {
      few = omega (
        arith,
        ap length c.shift_in.ensures,
        length-insert c.in-Some-take_leaf.items.items c.args.place c.args.item (omega arith),
        c.take_leaf.ensures.few,
      );
    }

pub invariant_of-self-2 : goal.invariant_of-self-2
invariant_of-self-2 g c = ap (λ part. part.nodes) c.take_leaf.ensures.rest
