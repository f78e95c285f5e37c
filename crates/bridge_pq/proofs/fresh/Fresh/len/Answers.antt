use Rattle.std.proofs.Common.{List, length, ap, sym, ◌∙◌}
use Rattle.std.specs.BinaryHeap.{heap_items}
use Rattle.std.specs.declared.cmp.Reverse.{Reverse}
use Rattle.retro_base.specs.declared.row.Entry.{Entry}
use Rattle.bridge_pq.proofs.HeapEntries.{heap_length}
use Rattle.bridge_pq.proofs.fresh.Fresh.len.Goals as goal

pub returns : goal.returns
returns c = rw (← c.self.view_is) (ap (λ (items : List (Reverse Entry)). length items) c.as_slice.ensures.value ∙ sym (heap_length (heap_items c.self.inside.heap)))
