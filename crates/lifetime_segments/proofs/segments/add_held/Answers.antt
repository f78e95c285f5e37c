use Rattle.std.proofs.Common.{subst, sym, ap, ◌∙◌}
use Rattle.lifetime_segments.specs.Lifetimes.{stands_earlier}
use Rattle.lifetime_segments.specs.LifetimeLaws.{earlier_order}
use Rattle.lifetime_segments.specs.Ordered.{AreInOrder, is_in}
use Rattle.lifetime_segments.specs.OrderedLaws.{insert_by-ordered, is_in-insert_by}
use Rattle.lifetime_segments.specs.Tries.{AreHeld}
use Rattle.lifetime_segments.proofs.Held.{held_back, held_has, held_with, taken_back}
use Rattle.lifetime_segments.proofs.segments.add_held.Goals as goal

pub add-requires-clause-has : goal.add-requires-clause-has
add-requires-clause-has g c = held_has g.O.Order.stands_before c.args.held.now c.args.root.now c.requires.held

pub remove_ordered-requires-clause-ordered : goal.remove_ordered-requires-clause-ordered
remove_ordered-requires-clause-ordered g c =
    subst (AreInOrder (stands_earlier g.O.Order.stands_before)) (sym c.in_ok-put.ensures.ok) (insert_by-ordered (earlier_order g.met.O.Order.order) c.args.life c.args.held.now c.requires.held.ordered)

pub remove_ordered-requires-clause-there : goal.remove_ordered-requires-clause-there
remove_ordered-requires-clause-there g c =
    ap (is_in (stands_earlier g.O.Order.stands_before) c.args.life) c.in_ok-put.ensures.ok
    ∙ is_in-insert_by (earlier_order g.met.O.Order.order) c.args.life c.args.held.now

pub returns-in-Err-clause-held : goal.returns-in-Err-clause-held
returns-in-Err-clause-held g c =
    held_back g.met.O.Order.order c.args.life c.args.held.now c.put.new.items c.remove_ordered.new.items c.args.root.now c.add.new.trie c.in_ok-put.ensures.ok c.remove_ordered.ensures c.requires.held c.in-Err.ensures.1

pub returns-in-Err-clause-err : goal.returns-in-Err-clause-err
returns-in-Err-clause-err g c = taken_back g.met.O.Order.order c.args.life c.args.held.now c.put.new.items c.remove_ordered.new.items c.in_ok-put.ensures.ok c.remove_ordered.ensures

pub returns-clause-held : goal.returns-clause-held
returns-clause-held g c =
    subst (λ held. AreHeld g.O.Order.stands_before held c.add.new.trie) (sym c.in_ok-put.ensures.ok)
    (held_with g.met.O.Order.order c.args.life c.args.held.now c.args.root.now c.add.new.trie c.requires.room c.requires.held c.in_default.ensures.0)
