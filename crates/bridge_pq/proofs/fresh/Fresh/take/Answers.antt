use Rattle.std.proofs.Common.{◌≡◌, length, rules}
use Rattle.std.specs.BinaryHeap.{heap_items}
use Rattle.bridge_pq.proofs.HeapEntries.{none_taken, top_taken}
use Rattle.bridge_pq.proofs.fresh.Fresh.take.Goals as goal

pub returns-in_err-pop : goal.returns-in_err-pop
returns-in_err-pop c =
    let none : length (heap_items c.self.inside.heap) ≡ 0 = search rules in
    rw (← c.self.view_is, c.from_residual.ensures) (none_taken (heap_items c.self.inside.heap) (heap_items c.pop.new.self) none c.in_err-pop.ensures.unchanged.0)

pub returns : goal.returns
returns c =
    rw (← c.self.view_is) (top_taken (heap_items c.self.inside.heap) (heap_items c.pop.new.self) c.in_ok-pop.field-0 c.in_ok-pop.ensures.permutation (c.in_ok-pop.ensures.below_top c.self.invariant))
