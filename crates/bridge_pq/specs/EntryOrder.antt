-- The derived order of entries is total: by the key, and then by the number.
use Rattle.std.specs.Cmp.{IsTotalOrder, int_cmp_total, nat_cmp_total, on_total, then_total}
use Rattle.std.specs.declared.cmp.Ordering.{Ordering}
use Rattle.retro_base.specs.contracts.row.EntryOrd.TheImpl.{cmp-value}
use Rattle.retro_base.specs.declared.row.Entry.{Entry}

abbrev pub entry_order : Entry → Entry → Ordering
entry_order = cmp-value.it

pub entry_total : IsTotalOrder entry_order
entry_total = then_total (on_total (λ (e : Entry). e.key) int_cmp_total) (on_total (λ (e : Entry). e.number) nat_cmp_total)
