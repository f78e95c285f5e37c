use Rattle.std.proofs.Common.{◌≡◌, ◌++◌, length}
use Rattle.pq_fusion.specs.Chunks.{AreChunks, entries_of}
use Rattle.pq_fusion.proofs.chunks.divided.Given as goal

abbrev pub invariant-divide : goal.invariant-divide
invariant-divide l = record {
  joined : entries_of l.chunks.items ++ l.rest ≡ l.entries;
  filled : AreChunks l.chunks.items;
}

abbrev pub decreases-divide : goal.decreases-divide
decreases-divide l = length l.rest
