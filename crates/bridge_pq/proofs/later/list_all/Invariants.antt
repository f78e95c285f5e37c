use Rattle.std.proofs.Common.{◌≡◌, ◌+◌, ◌++◌, length, map}
use Rattle.retro_base.specs.declared.question.Item.TheVariants.{Single}
use Rattle.bridge_pq.proofs.later.list_all.Given as goal

abbrev pub invariant-loop : goal.invariant-loop
invariant-loop g l = record {
  keys : l.listing ++ map (λ entry. Single entry.key) l.held.entries ≡ map (λ entry. Single entry.key) l.fn.held.entries;
  left : length l.held.entries + l.counter ≡ l.size;
  long : length l.listing ≡ l.counter;
}
