use Rattle.std.proofs.Common.{rules}
use Rattle.std.proofs.lemmas.List.Sorted.{IsPartitionPoint-from_clause}
use Rattle.retro_base.specs.State.{comes_before}
use Rattle.retro_base.specs.lemmas.EntrySteps.{partitioned}
use Rattle.retro_base.proofs.entries.Entries.place_of.Goals as goal

pub returns-clause-before : goal.returns-clause-before
returns-clause-before c = rw (← c.self.view_is)
    (IsPartitionPoint-from_clause (λ y. comes_before y c.args.entry) _ _ c.partition_point.ensures.partitioned (partitioned _ _ c.self.invariant) (λ a r q k. search rules)).0

pub returns-clause-after : goal.returns-clause-after
returns-clause-after c = rw (← c.self.view_is)
    (IsPartitionPoint-from_clause (λ y. comes_before y c.args.entry) _ _ c.partition_point.ensures.partitioned (partitioned _ _ c.self.invariant) (λ a r q k. search rules)).1
