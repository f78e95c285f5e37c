use Rattle.std.proofs.Common.{◌∙◌, ◌∷◌, ◌++◌, append_assoc, ap, sym, subst, arith}
use Rattle.weighted_tree.specs.Nodes.{part_of, IsSound}
use Rattle.weighted_tree.proofs.InPlace.{root_of}
use Rattle.weighted_tree.proofs.Levels.{level_right}
use Rattle.weighted_tree.proofs.subtree.Subtree.+append_below.Goals as goal

pub returns-clause-items : goal.returns-clause-items
returns-clause-items g t c =
    let node = c.in-Full.closed.node.value in
    let opened = c.deref_mut-root.ensures.value ∙ ap (λ b. b.value) c.open_mut.ensures.node in
    let whole = sym (ap part_of c.in-Full.is) ∙ c.self.view_is in
    c.settle.ensures.items
    ∙ ap (λ xs. c.deref_mut-root.result.now.left.items ++ c.deref_mut-root.result.now.item ∷ xs) c.append_below.ensures.items
    ∙ ap (λ n. n.left.items ++ n.item ∷ (n.right.items ++ c.args.node.value.item ∷ c.args.node.value.right.items)) opened
    ∙ sym (append_assoc node.left.items (node.item ∷ node.right.items) (c.args.node.value.item ∷ c.args.node.value.right.items))
    ∙ ap (λ part. part.items ++ c.args.node.value.item ∷ c.args.node.value.right.items) whole

pub returns-clause-few : goal.returns-clause-few
returns-clause-few g t c =
    let sound = subst (IsSound g.T.Measure.Monoid.unit_value g.T.Measure.Monoid.joined g.T.Measured.measured) c.in-Full.is c.self.invariant in
    let root = root_of sound (sym (ap part_of c.in-Full.is) ∙ c.self.view_is) in
    root.few

pub returns-clause-visits : goal.returns-clause-visits
returns-clause-visits g t c =
    let node = c.in-Full.closed.node.value in
    let opened = c.deref_mut-root.ensures.value ∙ ap (λ b. b.value) c.open_mut.ensures.node in
    let sound = subst (IsSound g.T.Measure.Monoid.unit_value g.T.Measure.Monoid.joined g.T.Measured.measured) c.in-Full.is c.self.invariant in
    let root = root_of sound (sym (ap part_of c.in-Full.is) ∙ c.self.view_is) in
    level_right _ node _ _ _ _ root c.open_mut.ensures.visit (rw opened at c.append_below.ensures.visits) (omega arith)
