use Rattle.std.proofs.Common.{rules}
use Rattle.bridge_pq.proofs.EntryPlaces.{place_found}
use Rattle.bridge_pq.proofs.entry_tree.place_of.Goals as goal

pub returns-clause-before : goal.returns-clause-before
returns-clause-before g c = (place_found c.args.entry c.args.entries.now _ _ _ c.partition_point.ensures.partition (λ other answer call. search rules) c.requires c.partition_point.ensures.within).before

pub returns-clause-after : goal.returns-clause-after
returns-clause-after g c = (place_found c.args.entry c.args.entries.now _ _ _ c.partition_point.ensures.partition (λ other answer call. search rules) c.requires c.partition_point.ensures.within).after
