use Rattle.std.proofs.Common.{rules, sym, ◌∙◌, arith}
use Rattle.weighted_tree.proofs.Leaves.{turn_above, turn_below}
use Rattle.weighted_tree.proofs.leaf.partition_in.Goals as goal

pub halve-preserved-then-passes : goal.halve-preserved-then-passes
halve-preserved-then-passes g c = record {
  turn = λ holds tells parted. turn_above holds c.args.items.now c.halve.low c.halve.high _ c.index-items-middle.result parted
      (c.halve.invariant.turn holds tells parted) (omega arith) (search rules) (sym (tells c.index-items-middle.result _ c.passes.ensures) ∙ c.if-passes.true);
  order = omega arith;
  within = omega arith;
}

pub halve-preserved : goal.halve-preserved
halve-preserved g c = record {
  turn = λ holds tells parted. turn_below holds c.args.items.now c.halve.low c.halve.high _ c.index-items-middle.result parted
      (c.halve.invariant.turn holds tells parted) (omega arith) (search rules) (sym (tells c.index-items-middle.result _ c.passes.ensures) ∙ c.if-passes.false);
  order = omega arith;
  within = omega arith;
}

pub returns-clause-partition : goal.returns-clause-partition
returns-clause-partition g c = λ holds tells parted.
    let turn = c.halve.invariant.turn holds tells parted in
    (λ k d from to. turn.below k d to, λ k d from to. turn.above k d (omega arith) to)
