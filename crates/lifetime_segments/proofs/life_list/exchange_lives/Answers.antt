use Rattle.std.proofs.Common.{subst, sym, ap, ◌∙◌, arith}
use Rattle.lifetime_segments.specs.Lifetimes.{stands_by_item}
use Rattle.lifetime_segments.specs.LifetimeLaws.{by_item_order}
use Rattle.lifetime_segments.specs.Ordered.{AreInOrder, is_in}
use Rattle.lifetime_segments.specs.OrderedLaws.{insert_by-ordered}
use Rattle.lifetime_segments.proofs.Held.{replaced_at, still_in}
use Rattle.lifetime_segments.proofs.Places.{place-there}
use Rattle.lifetime_segments.proofs.life_list.exchange_lives.Goals as goal

pub replace-requires : goal.replace-requires
replace-requires g c =
    let within = place-there (stands_by_item g.O.Order.stands_before) c.args.life c.args.few.now c.requires.there in
    record { within = omega arith }

pub returns-then-is_beside-clause-ok : goal.returns-then-is_beside-clause-ok
returns-then-is_beside-clause-ok g c =
    c.replace.ensures
    ∙ replaced_at (by_item_order g.met.O.Order.order) c.args.life c.args.other c.args.few.now c.life_place-place.result c.life_place-next.result c.requires.ordered c.requires.there
    c.life_place-place.ensures c.life_place-next.ensures (c.is_beside.ensures.before c.if-is_beside.true) (c.is_beside.ensures.after c.if-is_beside.true)

pub take_life-requires-clause-ordered : goal.take_life-requires-clause-ordered
take_life-requires-clause-ordered g c =
    subst (AreInOrder (stands_by_item g.O.Order.stands_before)) (sym c.in_ok-put_life.ensures.ok)
    (insert_by-ordered (by_item_order g.met.O.Order.order) c.args.other c.args.few.now c.requires.ordered)

pub take_life-requires-clause-there : goal.take_life-requires-clause-there
take_life-requires-clause-there g c =
    ap (is_in (stands_by_item g.O.Order.stands_before) c.args.life) c.in_ok-put_life.ensures.ok
    ∙ still_in (by_item_order g.met.O.Order.order) c.args.life c.args.other c.args.few.now c.requires.ordered c.requires.there
