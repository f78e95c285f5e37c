use Rattle.std.proofs.Common.{◌<◌, ◌-◌, Some, None, ◌∷◌, refl, sym, subst, ap, ◌∙◌, rules}
use Rattle.std.specs.Prelude.{IfSome}
use Rattle.lifetime_segments.specs.Ordered.{in_order}
use Rattle.lifetime_segments.specs.Tries.{Changes, Holds, IsBare, IsOf, IsOfNode, Lies, with}
use Rattle.lifetime_segments.proofs.FewLives.{few_of, few_ordered, few_there, few_without}
use Rattle.lifetime_segments.proofs.Nodes.{bare_nothing, divided_of, leads_by, left_holds, node_changes, node_holds, node_is_in, node_of, node_ordered, node_without_whole, right_holds, some_where}
use Rattle.lifetime_segments.proofs.Spans.{whole-none}
use Rattle.lifetime_segments.proofs.taking.+take.Goals as goal

pub take-take_life-requires-clause-ordered : goal.take-take_life-requires-clause-ordered
take-take_life-requires-clause-ordered g t c =
    let all = c.args.life ∷ c.requires.holds.others in
    few_ordered g.met.O.Order.order all c.in-Few.few (few_of g.O.Order.stands_before c.args.level all c.in-Few.few c.args.trie.now c.in-Few.is c.requires.holds.is_of).1

pub take-take_life-requires-clause-there : goal.take-take_life-requires-clause-there
take-take_life-requires-clause-there g t c =
    let others = c.requires.holds.others in
    few_there g.met.O.Order.order c.args.life others c.in-Few.few (few_of g.O.Order.stands_before c.args.level (c.args.life ∷ others) c.in-Few.few c.args.trie.now c.in-Few.is c.requires.holds.is_of).1

pub take-returns-in-Few : goal.take-returns-in-Few
take-returns-in-Few g t c lives is_of =
    let before = g.O.Order.stands_before in
    let kept = few_of before c.args.level (c.args.life ∷ lives) c.in-Few.few c.args.trie.now c.in-Few.is is_of in
    (kept.0.1, c.take_life.ensures ∙ few_without g.met.O.Order.order c.args.life lives c.in-Few.few kept.1)

pub take-take_from_node-requires : goal.take-take_from_node-requires
take-take_from_node-requires g t c κs within =
    let before = g.O.Order.stands_before in
    let holds : Holds (IsOfNode before c.args.level c.deref_mut.result.now) (Some c.args.life) = node_holds before c.args.level (Some c.args.life) _ _ (leads_by c.in-Full.is c.deref_mut.ensures.value (refl, refl, refl)) c.requires.holds in
    search rules

pub take-returns-then-is_bare : goal.take-returns-then-is_bare
take-returns-then-is_bare g t c lives is_of =
    let before = g.O.Order.stands_before in
    bare_nothing before c.args.level lives c.take_from_node.new.node (subst IsBare c.deref.ensures (c.is_bare.ensures.bare c.if-is_bare.true))
    (c.take_from_node.ensures lives (node_of before c.args.level (c.args.life ∷ lives) c.args.trie.now c.deref_mut.result.now (leads_by c.in-Full.is c.deref_mut.ensures.value (refl, refl, refl)) is_of).1) c.clear.new.self c.clear.ensures

pub take-returns-else-is_bare : goal.take-returns-else-is_bare
take-returns-else-is_bare g t c lives is_of =
    let before = g.O.Order.stands_before in
    let after = c.take_from_node.ensures lives (node_of before c.args.level (c.args.life ∷ lives) c.args.trie.now c.deref_mut.result.now (leads_by c.in-Full.is c.deref_mut.ensures.value (refl, refl, refl)) is_of).1 in
    let some = some_where before c.args.level lives c.take_from_node.new.node (λ bare. c.is_bare.ensures.some c.if-is_bare.false (subst IsBare (sym c.deref.ensures) bare)) after in
    divided_of before c.args.level c.take_from_node.new.node lives some after

pub take_from_node-remove_ordered-requires-clause-ordered : goal.take_from_node-remove_ordered-requires-clause-ordered
take_from_node-remove_ordered-requires-clause-ordered g t c = node_ordered g.met.O.Order.order c.args.level (c.args.life ∷ c.requires.holds.others) c.args.node.now c.requires.holds.is_of

pub take_from_node-remove_ordered-requires-clause-there : goal.take_from_node-remove_ordered-requires-clause-there
take_from_node-remove_ordered-requires-clause-there g t c =
    node_is_in g.met.O.Order.order c.args.level c.args.life c.requires.holds.others c.args.node.now (sym c.is_whole.ensures ∙ c.if-is_whole.true) c.requires.holds.is_of

pub take_from_node-returns-then-is_whole : goal.take_from_node-returns-then-is_whole
take_from_node-returns-then-is_whole g t c =
    node_without_whole g.met.O.Order.order c.args.level c.args.life c.args.node.now _ (sym c.is_whole.ensures ∙ c.if-is_whole.true) c.remove_ordered.ensures refl refl

pub take_from_node-take_in_half-requires : goal.take_from_node-take_in_half-requires
take_from_node-take_in_half-requires g t c κs within =
    let before = g.O.Order.stands_before in
    let holds : Holds (IsOf before (c.args.level - 1) c.args.node.now.left) c.in_first-first.result =
    subst (Holds (IsOf before (c.args.level - 1) c.args.node.now.left)) (sym c.in_first-first.ensures.clipped) (left_holds before c.args.level c.args.node.now (Some c.args.life) c.requires.holds) in
    let deep : 0 < c.args.level = c.in_first-first.ensures.deep in
    search rules

pub take_from_node-take_in_half-requires-2 : goal.take_from_node-take_in_half-requires-2
take_from_node-take_in_half-requires-2 g t c κs within =
    let before = g.O.Order.stands_before in
    let holds : Holds (IsOf before (c.args.level - 1) c.args.node.now.right) c.in_second.result =
    subst (Holds (IsOf before (c.args.level - 1) c.args.node.now.right)) (sym c.in_second.ensures.clipped) (right_holds before c.args.level c.args.node.now (Some c.args.life) c.requires.holds) in
    let deep : 0 < c.args.level = c.in_first-first.ensures.deep in
    search rules

pub take_from_node-returns : goal.take_from_node-returns
take_from_node-returns g t c =
    let before = g.O.Order.stands_before in
    let below = c.args.level - 1 in
    node_changes before c.args.level (Some c.args.life) None c.args.node.now _ tt
    (λ others is. is ∙ ap (λ o. in_order before (with o others)) (whole-none c.args.level c.args.life (sym c.is_whole.ensures ∙ c.if-is_whole.false)))
    (subst (λ o. Changes o None (IsOf before below c.args.node.now.left) (IsOf before below c.take_in_half.new.half)) c.in_first-first.ensures.clipped c.take_in_half.ensures)
    (subst (λ o. Changes o None (IsOf before below c.args.node.now.right) (IsOf before below c.take_in_half-2.new.half)) c.in_second.ensures.clipped c.take_in_half-2.ensures)

pub take_in_half-take-requires : goal.take_in_half-take-requires
take_in_half-take-requires g t c κs within =
    let before = g.O.Order.stands_before in
    let lies : Lies c.args.level c.in-Some.life = subst (λ o. IfSome o (Lies c.args.level)) c.in-Some.is c.requires.lies in
    let holds : Holds (IsOf before c.args.level c.args.half.now) (Some c.in-Some.life) = subst (Holds (IsOf before c.args.level c.args.half.now)) c.in-Some.is c.requires.holds in
    search rules

pub take_in_half-returns-in-Some : goal.take_in_half-returns-in-Some
take_in_half-returns-in-Some g t c =
    let before = g.O.Order.stands_before in
    subst (λ o. Changes o None (IsOf before c.args.level c.args.half.now) (IsOf before c.args.level c.take.new.trie)) (sym c.in-Some.is) c.take.ensures

pub take_in_half-returns-in-None : goal.take_in_half-returns-in-None
take_in_half-returns-in-None g t c =
    let before = g.O.Order.stands_before in
    subst (λ o. Changes o None (IsOf before c.args.level c.args.half.now) (IsOf before c.args.level c.args.half.now)) (sym c.in-None.is) (λ lives is_of. is_of)
