use Rattle.std.proofs.Common.{subst}
use Rattle.bridge_pq.specs.Bridged.{AreAdded}
use Rattle.bridge_pq.specs.MarkedEntries.{entries_in}
use Rattle.bridge_pq.proofs.Present.{all-added}
use Rattle.bridge_pq.proofs.bridge_queue.BridgeQueue.added.Goals as goal

pub returns : goal.returns
returns c = subst (λ rows. AreAdded rows (entries_in c.self.inside.entries)) c.self.view_is (all-added c.self.inside.rows c.self.inside.entries c.self.invariant)
