use Rattle.std.proofs.Common.{◌∙◌}
use Rattle.bridge_pq.specs.Gathered.{with_all}
use Rattle.bridge_pq.proofs.EntryPlaces.{rise_in_order}
use Rattle.bridge_pq.specs.MarkedEntries.{entries_in, present_in}
use Rattle.bridge_pq.proofs.GatheredEntries.{held_from, present_in_order, taken_front}
use Rattle.bridge_pq.proofs.held.Held.new.Goals as goal

pub invariant_of-result : goal.invariant_of-result
invariant_of-result g c =
    held_from (present_in c.args.entries.now) c.new-left.result.entries c.take-first.new.self.entries c.take-first.result
    (present_in_order c.args.entries.now (rise_in_order (entries_in c.args.entries.now) c.requires)) c.new-left.ensures.entries c.take-first.ensures.taken

pub returns-clause-entries : goal.returns-clause-entries
unfolding with_all
returns-clause-entries g c =
    rw c.new.ensures (taken_front c.new-left.result.entries c.take-first.new.self.entries c.take-first.result c.take-first.ensures.taken ∙ c.new-left.ensures.entries)
