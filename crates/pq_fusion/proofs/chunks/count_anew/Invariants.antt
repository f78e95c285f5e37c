use Rattle.std.proofs.Common.{◌≡◌, ◌≤◌, length}
use Rattle.pq_fusion.proofs.Chunked.{IsCounting}
use Rattle.pq_fusion.proofs.chunks.count_anew.Given as goal

abbrev pub invariant-loop-chunk : goal.invariant-loop-chunk
invariant-loop-chunk l = record {
  counting : IsCounting l.chunks l.chunk-index l.before l.starts.items;
  length_is : l.starts.len ≡ l.chunk-index;
  room : length l.chunks ≤ l.starts.cap;
}
