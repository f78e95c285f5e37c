use Rattle.std.proofs.Common.{◌+◌, length, ap, arith, sym, subst}
use Rattle.retro_base.specs.EntriesInOrder.{AreInOrder}
use Rattle.pq_fusion.specs.Chunks.{entries_of}
use Rattle.pq_fusion.proofs.Bounded.{order_bound}
use Rattle.pq_fusion.proofs.Chunked.{exchanged_in}
use Rattle.pq_fusion.proofs.Swapped.{has_bound}
use Rattle.pq_fusion.proofs.Turns.{bound_few, searches_joined}
use Rattle.pq_fusion.proofs.chunk_edits.exchange_among.Goals as goal

pub take_bound_among-requires-clause-order : goal.take_bound_among-requires-clause-order
take_bound_among-requires-clause-order g c = subst AreInOrder (sym c.put_bound_among.ensures.items) (order_bound c.args.put (entries_of c.args.chunks.now.items) c.requires.order)

pub take_bound_among-requires-clause-there : goal.take_bound_among-requires-clause-there
take_bound_among-requires-clause-there g c =
    has_bound c.args.put c.args.take (entries_of c.args.chunks.now.items) c.requires.there.0 _ c.requires.there.1 c.put_bound_among.ensures.items

pub returns-clause-items : goal.returns-clause-items
returns-clause-items g c =
    exchanged_in c.args.put c.args.take (entries_of c.args.chunks.now.items) (entries_of c.put_bound_among.new.chunks.items) (entries_of c.take_bound_among.new.chunks.items) c.requires.order
    c.put_bound_among.ensures.items c.take_bound_among.ensures.items

pub returns-clause-visits : goal.returns-clause-visits
returns-clause-visits g c =
    let old = entries_of c.args.chunks.now.items in
    let between = entries_of c.put_bound_among.new.chunks.items in
    searches_joined 2 2 (length old) (length between) (length old + 1) c.args.steps.now c.put_bound_among.new.steps c.take_bound_among.new.steps (omega arith)
    (omega (arith, ap length c.put_bound_among.ensures.items, bound_few c.args.put old)) c.put_bound_among.ensures.visits c.take_bound_among.ensures.visits
