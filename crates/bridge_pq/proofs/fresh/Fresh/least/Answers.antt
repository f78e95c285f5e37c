use Rattle.std.proofs.Common.{◌≡◌, ◌<◌, ◌∙◌, length, rules}
use Rattle.std.specs.BinaryHeap.{heap_items}
use Rattle.bridge_pq.proofs.HeapEntries.{heap_in_order, least_of, none_least}
use Rattle.bridge_pq.proofs.fresh.Fresh.least.Goals as goal

pub returns-in_err-peek-clause-least : goal.returns-in_err-peek-clause-least
returns-in_err-peek-clause-least c =
    let none : length (heap_items c.self.inside.heap) ≡ 0 = search rules in
    rw (← c.self.view_is) (c.from_residual.ensures ∙ none_least (heap_items c.self.inside.heap) none)

pub returns-in_err-peek-clause-order : goal.returns-in_err-peek-clause-order
returns-in_err-peek-clause-order c = rw (← c.self.view_is) (heap_in_order (heap_items c.self.inside.heap))

pub returns-clause-least : goal.returns-clause-least
returns-clause-least c =
    let some : 0 < length (heap_items c.self.inside.heap) = search rules in
    rw (← c.self.view_is) (least_of (heap_items c.self.inside.heap) c.in_ok-peek.field-0.now some c.in_ok-peek.ensures.lookup (c.in_ok-peek.ensures.greatest c.self.invariant))

pub returns-clause-order : goal.returns-clause-order
returns-clause-order c = rw (← c.self.view_is) (heap_in_order (heap_items c.self.inside.heap))
