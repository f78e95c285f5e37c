use Rattle.std.proofs.Common.{◌≡◌, ◌++◌, drop}
use Rattle.pq_fusion.specs.Chunks.{entries_of}
use Rattle.pq_fusion.proofs.chunks.Chunks.append_to.Given as goal

abbrev pub invariant-loop-chunk : goal.invariant-loop-chunk
invariant-loop-chunk l = l.entries.items ++ entries_of (drop l.chunk-index l.chunk-items) ≡ l.fn.entries.items ++ entries_of l.chunk-items
