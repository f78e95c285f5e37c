use Rattle.std.specs.BinaryHeap.{heap_items}
use Rattle.bridge_pq.proofs.HeapEntries.{empty_heap}
use Rattle.bridge_pq.proofs.fresh.Fresh.new.Goals as goal

pub returns : goal.returns
returns c = empty_heap (heap_items c.new.result) c.new.ensures.items
