use Rattle.std.proofs.Common.{◌+◌, length, ap, arith, sym, subst}
use Rattle.retro_base.specs.EntriesInOrder.{AreInOrder}
use Rattle.pq_fusion.proofs.Bounded.{order_bound}
use Rattle.pq_fusion.proofs.Swapped.{has_bound}
use Rattle.pq_fusion.proofs.Turns.{bound_few, searches_joined}
use Rattle.pq_fusion.proofs.exchange.exchange.Goals as goal

pub take_bound-requires-clause-order : goal.take_bound-requires-clause-order
take_bound-requires-clause-order g c = subst AreInOrder (sym c.put_bound.ensures.items) (order_bound c.args.put c.args.list.now.items c.requires.order)

pub take_bound-requires-clause-there : goal.take_bound-requires-clause-there
take_bound-requires-clause-there g c = has_bound c.args.put c.args.take c.args.list.now.items c.requires.there.0 _ c.requires.there.1 c.put_bound.ensures.items

pub returns-clause-visits : goal.returns-clause-visits
returns-clause-visits g c =
    let old = c.args.list.now.items in
    let between = c.put_bound.new.list.items in
    searches_joined 1 1 (length old) (length between) (length old + 1) c.args.steps.now c.put_bound.new.steps c.take_bound.new.steps (omega arith)
    (omega (arith, ap length c.put_bound.ensures.items, bound_few c.args.put old)) c.put_bound.ensures.visits c.take_bound.ensures.visits
