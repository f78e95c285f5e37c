use Rattle.std.proofs.Common.{subst, sym, ap, ◌∙◌}
use Rattle.lifetime_segments.specs.Lifetimes.{stands_earlier}
use Rattle.lifetime_segments.specs.LifetimeLaws.{earlier_order}
use Rattle.lifetime_segments.specs.Ordered.{AreInOrder, insert_by, is_in, without}
use Rattle.lifetime_segments.specs.OrderedLaws.{insert_by-ordered, is_in-insert_by}
use Rattle.lifetime_segments.specs.Tries.{AreHeld, ending}
use Rattle.lifetime_segments.proofs.Held.{held_back, held_one, held_lies, held_moved, replaced_at, still_in, taken_back}
use Rattle.lifetime_segments.proofs.Places.{position-some, position-within}
use Rattle.lifetime_segments.proofs.segments.move_held.Goals as goal

pub move_end-requires-clause-lies : goal.move_end-requires-clause-lies
move_end-requires-clause-lies g c =
    let some = position-some (stands_earlier g.O.Order.stands_before) c.args.life c.args.held.now c.args.place c.requires.place in
    held_lies g.met.O.Order.order c.args.life c.args.held.now c.args.root.now c.requires.held some.0

pub move_end-requires-clause-has : goal.move_end-requires-clause-has
move_end-requires-clause-has g c =
    let some = position-some (stands_earlier g.O.Order.stands_before) c.args.life c.args.held.now c.args.place c.requires.place in
    held_one g.met.O.Order.order c.args.life c.args.held.now c.args.root.now c.requires.held some.0

pub replace-requires : goal.replace-requires
replace-requires g c = record { within = position-within (stands_earlier g.O.Order.stands_before) c.args.life c.args.held.now c.args.place c.requires.place }

pub returns-then-is_beside-clause-ok : goal.returns-then-is_beside-clause-ok
returns-then-is_beside-clause-ok g c =
    let earlier = stands_earlier g.O.Order.stands_before in
    let some = position-some earlier c.args.life c.args.held.now c.args.place c.requires.place in
    c.replace.ensures.items
    ∙ replaced_at (earlier_order g.met.O.Order.order) c.args.life c.ending-moved.result c.args.held.now c.args.place c.place_of-moved_place.result c.requires.held.ordered some.0
    (sym some.1) c.place_of-moved_place.ensures (c.is_beside.ensures.before c.if-is_beside.true) (c.is_beside.ensures.after c.if-is_beside.true)
    ∙ ap (λ moved. without earlier c.args.life (insert_by earlier moved c.args.held.now)) c.ending-moved.ensures

pub returns-then-is_beside-clause-held : goal.returns-then-is_beside-clause-held
returns-then-is_beside-clause-held g c =
    let order = g.met.O.Order.order in
    let some = position-some (stands_earlier g.O.Order.stands_before) c.args.life c.args.held.now c.args.place c.requires.place in
    subst (λ held. AreHeld g.O.Order.stands_before held c.move_end.new.trie) (sym (returns-then-is_beside-clause-ok g c))
    (held_moved order c.args.life (ending c.args.next c.args.life) c.args.held.now c.args.root.now c.move_end.new.trie c.requires.room some.0 c.requires.held c.in_ok-move_end.ensures.0)

pub move_end-requires-2-clause-lies : goal.move_end-requires-2-clause-lies
move_end-requires-2-clause-lies g c = held_lies g.met.O.Order.order c.args.life c.args.held.now c.args.root.now c.requires.held (position-some (stands_earlier g.O.Order.stands_before) c.args.life c.args.held.now c.args.place c.requires.place).0

pub move_end-requires-2-clause-has : goal.move_end-requires-2-clause-has
move_end-requires-2-clause-has g c = held_one g.met.O.Order.order c.args.life c.args.held.now c.args.root.now c.requires.held (position-some (stands_earlier g.O.Order.stands_before) c.args.life c.args.held.now c.args.place c.requires.place).0

pub remove_ordered-requires-clause-ordered : goal.remove_ordered-requires-clause-ordered
remove_ordered-requires-clause-ordered g c =
    subst (AreInOrder (stands_earlier g.O.Order.stands_before)) (sym c.in_ok-put.ensures.ok)
    (insert_by-ordered (earlier_order g.met.O.Order.order) c.ending-moved.result c.args.held.now c.requires.held.ordered)

pub remove_ordered-requires-clause-there : goal.remove_ordered-requires-clause-there
remove_ordered-requires-clause-there g c =
    ap (is_in (stands_earlier g.O.Order.stands_before) c.ending-moved.result) c.in_ok-put.ensures.ok ∙ is_in-insert_by (earlier_order g.met.O.Order.order) c.ending-moved.result c.args.held.now

pub returns-in-Err-clause-held : goal.returns-in-Err-clause-held
returns-in-Err-clause-held g c =
    held_back g.met.O.Order.order c.ending-moved.result c.args.held.now c.put.new.items c.remove_ordered.new.items c.args.root.now c.move_end-2.new.trie c.in_ok-put.ensures.ok c.remove_ordered.ensures c.requires.held c.in-Err.ensures.1

pub returns-in-Err-clause-err : goal.returns-in-Err-clause-err
returns-in-Err-clause-err g c = taken_back g.met.O.Order.order c.ending-moved.result c.args.held.now c.put.new.items c.remove_ordered.new.items c.in_ok-put.ensures.ok c.remove_ordered.ensures

pub remove_ordered-requires-2-clause-ordered : goal.remove_ordered-requires-2-clause-ordered
remove_ordered-requires-2-clause-ordered g c =
    subst (AreInOrder (stands_earlier g.O.Order.stands_before)) (sym c.in_ok-put.ensures.ok)
    (insert_by-ordered (earlier_order g.met.O.Order.order) c.ending-moved.result c.args.held.now c.requires.held.ordered)

pub remove_ordered-requires-2-clause-there : goal.remove_ordered-requires-2-clause-there
remove_ordered-requires-2-clause-there g c =
    ap (is_in (stands_earlier g.O.Order.stands_before) c.args.life) c.in_ok-put.ensures.ok
    ∙ still_in (earlier_order g.met.O.Order.order) c.args.life c.ending-moved.result c.args.held.now c.requires.held.ordered (position-some (stands_earlier g.O.Order.stands_before) c.args.life c.args.held.now c.args.place c.requires.place).0

pub returns-clause-ok : goal.returns-clause-ok
returns-clause-ok g c =
    let earlier = stands_earlier g.O.Order.stands_before in
    c.remove_ordered-2.ensures ∙ ap (without earlier c.args.life) (c.in_ok-put.ensures.ok ∙ ap (λ life. insert_by earlier life c.args.held.now) c.ending-moved.ensures)

pub returns-clause-held : goal.returns-clause-held
returns-clause-held g c =
    subst (λ held. AreHeld g.O.Order.stands_before held c.move_end-2.new.trie) (sym (returns-clause-ok g c))
    (held_moved g.met.O.Order.order c.args.life (ending c.args.next c.args.life) c.args.held.now c.args.root.now c.move_end-2.new.trie c.requires.room (position-some (stands_earlier g.O.Order.stands_before) c.args.life c.args.held.now c.args.place c.requires.place).0 c.requires.held c.in_default.ensures.0)
