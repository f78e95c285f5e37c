-- A heap of entries with the least on top, in their order.
use Rattle.std.specs.Prelude.{List, [], map}
use Rattle.std.specs.declared.cmp.Ordering.{Ordering}
use Rattle.std.specs.declared.cmp.Reverse.{Reverse}
use Rattle.retro_base.specs.declared.row.Entry.{Entry}
use Rattle.bridge_pq.specs.EntryOrder.{entry_order}
use Rattle.bridge_pq.specs.Gathered.{with_all}

-- the greater entry comes first
abbrev pub reverse_order : Reverse Entry → Reverse Entry → Ordering
reverse_order a b = entry_order b.0 a.0

-- the entries of a heap
abbrev pub in_heap : List (Reverse Entry) → List Entry
in_heap items = with_all (map (λ (r : Reverse Entry). r.0) items) []
