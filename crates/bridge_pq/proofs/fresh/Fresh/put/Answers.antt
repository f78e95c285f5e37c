use Rattle.std.proofs.Common.{refl}
use Rattle.std.specs.BinaryHeap.{heap_items}
use Rattle.bridge_pq.proofs.HeapEntries.{pushed_in}
use Rattle.bridge_pq.proofs.fresh.Fresh.put.Goals as goal

pub returns-clause-ok : goal.returns-clause-ok
returns-clause-ok c = rw (← c.self.view_is) (pushed_in c.args.entry (heap_items c.self.inside.heap) (heap_items c.push.new.self) _ refl c.in_ok-push.ensures.permutation)
