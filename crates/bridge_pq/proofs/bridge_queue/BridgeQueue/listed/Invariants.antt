use Rattle.std.proofs.Common.{◌≡◌, ◌++◌, drop}
use Rattle.bridge_pq.proofs.Present.{keys_in}
use Rattle.bridge_pq.proofs.bridge_queue.BridgeQueue.listed.Given as goal

abbrev pub invariant-loop-place : goal.invariant-loop-place
invariant-loop-place g l = l.listing ++ keys_in (drop l.place l.self-inside.entries) ≡ keys_in l.self-inside.entries
