use Rattle.pq_fusion.proofs.Exchanged.{exchanged_few}
use Rattle.pq_fusion.proofs.entry_list.exchanged.Goals as goal

pub invariant_of-result : goal.invariant_of-result
invariant_of-result g c =
    (c.exchange.ensures.items.order, exchanged_few c.args.put c.args.take c.args.entries.items c.requires.there.0 c.exchange.new.list.items c.exchange.ensures.items c.requires.there.1.0 c.requires.there.1.1)
