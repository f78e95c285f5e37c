use Rattle.std.proofs.Common.{length, ap, arith}
use Rattle.retro_base.specs.lemmas.CountedEntries.{with_length}
use Rattle.pq_fusion.proofs.chunk_edits.put_into.Goals as goal

pub returns-clause-chunk : goal.returns-clause-chunk
returns-clause-chunk g c =
    let made = ap length c.grow_into.ensures.items in
    let more = with_length c.args.entry c.args.chunk.now.items in
    let few = ap length c.as_slice.ensures.value in
    (omega (arith, made, more), omega (arith, made, more, few, c.if-as_slice-ge-FULL.false))
