use Rattle.std.proofs.Common.{◌≡◌, ◌<◌, ◌-◌, ◌^◌, ◌++◌, None, [], refl, sym, ap, ◌∙◌, arith, rules}
use Rattle.std.proofs.lemmas.List.{nil_from_length}
use Rattle.lifetime_segments.specs.Lifetimes.{items_at}
use Rattle.lifetime_segments.specs.Ordered.{in_order}
use Rattle.lifetime_segments.specs.OrderedLaws.{in_order-kept, in_order-ordered}
use Rattle.lifetime_segments.specs.Tries.{Has, IsOf, IsOfNode, in_first, items_below, in_second, taken}
use Rattle.lifetime_segments.proofs.Nodes.{leads_by, left_has, node_at, node_at_zero, node_few, node_has, node_lawful, node_of, node_ordered, right_has}
use Rattle.lifetime_segments.proofs.Spans.{double, items_below-first, items_below-second}
use Rattle.lifetime_segments.proofs.Taken.{length-taken}
use Rattle.lifetime_segments.proofs.FewLives.{few_of, few_length, few_ordered}
use Rattle.lifetime_segments.proofs.Moved.{few_items}
use Rattle.lifetime_segments.proofs.search.+ask.Goals as goal

pub ask-ask_few-requires : goal.ask-ask_few-requires
ask-ask_few-requires g t c =
    let lives = c.requires.has.holds.others in
    let kept = (few_of g.D.Decomposable.stands_before c.args.level lives c.in-Few.few c.args.trie.now c.in-Few.is c.requires.has.holds.is_of).1 in
    record {
      few = omega (arith, few_length g.D.Decomposable.stands_before lives c.in-Few.few kept, c.requires.has.few);
      ordered = few_ordered g.met.D.Decomposable.order lives c.in-Few.few kept;
    }

pub ask-returns-in-Few : goal.ask-returns-in-Few
ask-returns-in-Few g t c lives is_of few =
    c.ask_few.ensures
    ∙ ap (λ items. g.D.Decomposable.answer items c.args.query)
    (few_items g.met.D.Decomposable.order c.args.label lives c.in-Few.few (few_of g.D.Decomposable.stands_before c.args.level lives c.in-Few.few c.args.trie.now c.in-Few.is is_of).1)

pub ask-ask_node-requires : goal.ask-ask_node-requires
ask-ask_node-requires g t c κs within =
    let before = g.D.Decomposable.stands_before in
    let has : Has (IsOfNode before c.args.level c.deref.result.now) None = node_has before c.args.level None _ _ (leads_by c.in-Full.is c.deref.ensures (refl, refl, refl)) c.requires.has in
    search rules

pub ask-returns-in-Full : goal.ask-returns-in-Full
ask-returns-in-Full g t c lives is_of few =
    c.ask_node.ensures lives
    (node_of g.D.Decomposable.stands_before c.args.level lives c.args.trie.now c.deref.result.now (leads_by c.in-Full.is c.deref.ensures (refl, refl, refl)) is_of).1 few

pub ask_node-ask-requires : goal.ask_node-ask-requires
ask_node-ask-requires g t c =
    let has = c.requires.has.holds in
    record {
      lawful = record {
        ordered = node_ordered g.met.D.Decomposable.order c.args.level has.others c.args.node.now has.is_of;
        few = omega (arith, node_few g.met.D.Decomposable.order c.args.level has.others c.args.node.now has.is_of, c.requires.has.few);
      };
    }

pub ask_node-returns-then-level-eq0 : goal.ask_node-returns-then-level-eq0
ask_node-returns-then-level-eq0 g t c lives is_of few =
    c.ask.ensures
    ∙ ap (λ items. g.D.Decomposable.answer items c.args.query)
    (node_at_zero g.met.D.Decomposable.order c.args.level c.args.label lives c.args.node.now c.requires.within is_of c.if-level-eq0.true)

pub ask_node-returns-then-len-eq0 : goal.ask_node-returns-then-len-eq0
ask_node-returns-then-len-eq0 g t c lives is_of few =
    let before = g.D.Decomposable.stands_before in
    let items = items_below c.args.level c.args.label lives in
    let none : c.args.node.now.items ≡ [] = nil_from_length c.args.node.now.items (omega (arith, c.len.ensures, c.if-len-eq0.true)) in
    c.ask_half.ensures lives is_of few
    ∙ ap (λ all. g.D.Decomposable.answer all c.args.query)
    (sym (in_order-kept g.met.D.Decomposable.order (in_order before items) (in_order-ordered g.met.D.Decomposable.order items))
    ∙ ap (λ own. in_order before (own ++ in_order before items)) (sym none)
    ∙ node_at g.met.D.Decomposable.order c.args.level c.args.label lives c.args.node.now c.requires.within is_of)

pub ask_with_own-with_own-requires : goal.ask_with_own-with_own-requires
ask_with_own-with_own-requires g t c =
    let has = c.requires.has.holds in
    record {
      lawful = record {
        ordered = node_ordered g.met.D.Decomposable.order c.args.level has.others c.args.node.now has.is_of;
        few = omega (arith, node_few g.met.D.Decomposable.order c.args.level has.others c.args.node.now has.is_of, c.requires.has.few);
      };
      together = record {
        query = c.args.query;
        first_items = c.args.node.now.items;
        second_items = in_order g.D.Decomposable.stands_before (items_below c.args.level c.args.label has.others);
        lawful = node_lawful g.met.D.Decomposable.order c.args.level c.args.label has.others c.args.node.now c.requires.within has.is_of c.requires.has.few;
        first_is = refl;
        second_is = c.ask_half-below.ensures has.others has.is_of c.requires.has.few;
      };
    }

pub ask_with_own-returns : goal.ask_with_own-returns
ask_with_own-returns g t c lives is_of few =
    let before = g.D.Decomposable.stands_before in
    let items = items_below c.args.level c.args.label lives in
    c.with_own.ensures
    ∙ ap (g.D.Decomposable.combined (g.D.Decomposable.answer c.args.node.now.items c.args.query)) (c.ask_half-below.ensures lives is_of few)
    ∙ sym (g.met.D.Decomposable.laws.together c.args.node.now.items (in_order before items) c.args.query
    (node_lawful g.met.D.Decomposable.order c.args.level c.args.label lives c.args.node.now c.requires.within is_of few))
    ∙ ap (λ all. g.D.Decomposable.answer all c.args.query) (node_at g.met.D.Decomposable.order c.args.level c.args.label lives c.args.node.now c.requires.within is_of)

pub ask_half-ask-requires : goal.ask_half-ask-requires
ask_half-ask-requires g t c κs within =
    let before = g.D.Decomposable.stands_before in
    let has : Has (IsOf before (c.args.level - 1) c.args.node.now.left) None = left_has before c.args.level c.args.node.now None c.requires.has in
    search rules

pub ask_half-ask-requires-else-label-half : goal.ask_half-ask-requires-else-label-half
ask_half-ask-requires-else-label-half g t c κs within =
    let before = g.D.Decomposable.stands_before in
    let has : Has (IsOf before (c.args.level - 1) c.args.node.now.right) None = right_has before c.args.level c.args.node.now None c.requires.has in
    let near : c.args.label - c.labels-half.result < 2 ^ (c.args.level - 1) = omega (arith, double c.args.level c.requires.deep) in
    search rules

pub ask_half-returns-then-label-half : goal.ask_half-returns-then-label-half
ask_half-returns-then-label-half g t c lives is_of few =
    let before = g.D.Decomposable.stands_before in
    c.ask.ensures (taken (in_first c.args.level) lives) is_of.left (omega (arith, length-taken (in_first c.args.level) lives))
    ∙ ap (λ items. g.D.Decomposable.answer (in_order before items) c.args.query) (items_below-first c.args.level c.args.label lives (omega arith))

pub ask_half-returns-else-label-half : goal.ask_half-returns-else-label-half
ask_half-returns-else-label-half g t c lives is_of few =
    let before = g.D.Decomposable.stands_before in
    let seconds = taken (in_second c.args.level) lives in
    c.ask-else-label-half.ensures seconds is_of.right (omega (arith, length-taken (in_second c.args.level) lives))
    ∙ ap (λ items. g.D.Decomposable.answer (in_order before items) c.args.query)
    (ap (λ half. items_at (c.args.label - half) seconds) c.labels-half.ensures ∙ items_below-second c.args.level c.args.label lives (omega arith))
