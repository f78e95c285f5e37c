use Rattle.std.proofs.Common.{◌-◌, ◌++◌, refl, sym, subst, ap, ◌∙◌, arith}
use Rattle.lifetime_segments.specs.Lifetimes.{items_at}
use Rattle.lifetime_segments.specs.Tries.{Collects, IsOf, LeadsTo}
use Rattle.lifetime_segments.proofs.Nodes.{leads_by, node_of}
use Rattle.lifetime_segments.proofs.Collected.{collects_few, collects_zero, collects_more, collects_first, collects_second}
use Rattle.lifetime_segments.proofs.Results.{ok_weaker}
use Rattle.lifetime_segments.proofs.collect.+collect.Goals as goal

pub collect-returns-in-Few : goal.collect-returns-in-Few
collect-returns-in-Few g t c =
    ok_weaker c.append_few.result
    (collects_few g.met.O.Order.order c.args.level c.args.label c.in-Few.few c.args.trie.now c.args.items.now.items c.append_few.new.items.items c.in-Few.is)
    c.append_few.ensures

pub collect-returns-then-level-eq0 : goal.collect-returns-then-level-eq0
collect-returns-then-level-eq0 g t c lives is_of =
    let leads : LeadsTo c.args.trie.now c.deref.result.now = leads_by c.in-Full.is c.deref.ensures (refl, refl, refl) in
    collects_zero g.met.O.Order.order c.args.level c.args.label c.deref.result.now c.args.items.now.items c.append.new.items.items c.if-level-eq0.true c.requires.within c.in_ok-append.ensures lives
    (node_of g.O.Order.stands_before c.args.level lives c.args.trie.now c.deref.result.now leads is_of).1

pub collect-returns : goal.collect-returns
collect-returns g t c = ok_weaker c.collect_half.result (λ below lives is_of.
    let leads : LeadsTo c.args.trie.now c.deref-2.result.now = leads_by c.in-Full.is c.deref-2.ensures (refl, refl, refl) in
    collects_more g.met.O.Order.order c.args.level c.args.label c.deref-2.result.now c.args.items.now.items c.collect_half.new.items.items c.append.new.items.items c.requires.within
    (c.in_ok-append.ensures ∙ ap (λ node. c.args.items.now.items ++ node.items) (c.deref.ensures ∙ sym c.deref-2.ensures)) below lives
    (node_of g.O.Order.stands_before c.args.level lives c.args.trie.now c.deref-2.result.now leads is_of).1) c.collect_half.ensures

pub collect_half-returns-then-label-half : goal.collect_half-returns-then-label-half
collect_half-returns-then-label-half g t c =
    ok_weaker c.collect.result (collects_first g.met.O.Order.order c.args.level c.args.label c.args.node.now c.args.items.now.items c.collect.new.items.items (omega arith)) c.collect.ensures

pub collect_half-returns-else-label-half : goal.collect_half-returns-else-label-half
collect_half-returns-else-label-half g t c =
    let before = g.O.Order.stands_before in
    let items = c.collect-else-label-half.new.items.items in
    ok_weaker c.collect-else-label-half.result (λ right. collects_second g.met.O.Order.order c.args.level c.args.label c.args.node.now c.args.items.now.items items (omega arith)
    (subst (λ half. Collects before (items_at (c.args.label - half)) (IsOf before (c.args.level - 1) c.args.node.now.right) c.args.items.now.items items) c.labels-half.ensures right))
    c.collect-else-label-half.ensures
