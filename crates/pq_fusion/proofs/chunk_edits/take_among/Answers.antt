use Rattle.std.proofs.Common.{◌≡◌, ◌∙◌, length, ap, arith, subst}
use Rattle.retro_base.specs.State.{with_entry}
use Rattle.retro_base.specs.lemmas.CountedEntries.{with_length}
use Rattle.pq_fusion.specs.Chunks.{IsChunk, IsHome, entries_of}
use Rattle.pq_fusion.proofs.Begun.{chunks_few}
use Rattle.pq_fusion.proofs.Chunked.{home_few, home_order, home_has, home_chunk, taken_one, taken_whole, chunks_set, no_items}
use Rattle.pq_fusion.proofs.Turns.{searches_joined}
use Rattle.pq_fusion.proofs.chunk_edits.take_among.Goals as goal

pub take_entry-requires-clause-order : goal.take_entry-requires-clause-order
take_entry-requires-clause-order g c =
    let home = subst (λ xs. IsHome c.args.entry xs c.home-place.result) c.deref.ensures.value c.home-place.ensures.home in
    home_order c.args.entry c.args.chunks.now.items c.home-place.result c.index_mut-chunk.result.now home c.index_mut-chunk.ensures.value c.requires.order c.requires.chunks

pub take_entry-requires-clause-there : goal.take_entry-requires-clause-there
take_entry-requires-clause-there g c =
    let home = subst (λ xs. IsHome c.args.entry xs c.home-place.result) c.deref.ensures.value c.home-place.ensures.home in
    home_has c.args.entry c.args.chunks.now.items c.home-place.result c.index_mut-chunk.result.now home c.index_mut-chunk.ensures.value c.requires.order c.requires.chunks c.requires.there

pub returns-then-as_slice-eq0-clause-items : goal.returns-then-as_slice-eq0-clause-items
returns-then-as_slice-eq0-clause-items g c =
    let home = subst (λ xs. IsHome c.args.entry xs c.home-place.result) c.deref.ensures.value c.home-place.ensures.home in
    let none : length c.take_entry.new.list.items ≡ 0 = omega (arith, c.if-as_slice-eq0.true, ap length c.as_slice.ensures.value) in
    ap (λ l. with_entry c.args.entry (entries_of l)) c.remove.ensures.items
    ∙ taken_whole c.args.entry c.args.chunks.now.items c.home-place.result c.index_mut-chunk.result.now home c.index_mut-chunk.ensures.value c.requires.order c.requires.chunks
    c.take_entry.new.list c.requires.there c.take_entry.ensures.items (no_items c.take_entry.new.list.items none)

pub returns-else-as_slice-eq0-clause-items : goal.returns-else-as_slice-eq0-clause-items
returns-else-as_slice-eq0-clause-items g c =
    let home = subst (λ xs. IsHome c.args.entry xs c.home-place.result) c.deref.ensures.value c.home-place.ensures.home in
    taken_one c.args.entry c.args.chunks.now.items c.home-place.result c.index_mut-chunk.result.now home c.index_mut-chunk.ensures.value c.requires.order c.requires.chunks
    c.trim.new.chunk c.requires.there (ap (with_entry c.args.entry) c.trim.ensures ∙ c.take_entry.ensures.items)

pub returns-else-as_slice-eq0-clause-chunks : goal.returns-else-as_slice-eq0-clause-chunks
returns-else-as_slice-eq0-clause-chunks g c =
    let home = subst (λ xs. IsHome c.args.entry xs c.home-place.result) c.deref.ensures.value c.home-place.ensures.home in
    let own = home_chunk c.args.entry c.args.chunks.now.items c.home-place.result c.index_mut-chunk.result.now home c.index_mut-chunk.ensures.value c.requires.order c.requires.chunks in
    let trimmed = ap length c.trim.ensures in
    chunks_set IsChunk c.args.chunks.now.items c.home-place.result c.trim.new.chunk c.requires.chunks (
      omega (arith, trimmed, c.if-as_slice-eq0.false, ap length c.as_slice.ensures.value),
      omega (arith, trimmed, ap length c.take_entry.ensures.items, with_length c.args.entry c.take_entry.new.list.items, own.1),
    )

pub returns-then-as_slice-eq0-clause-visits : goal.returns-then-as_slice-eq0-clause-visits
returns-then-as_slice-eq0-clause-visits g c =
    let home = subst (λ xs. IsHome c.args.entry xs c.home-place.result) c.deref.ensures.value c.home-place.ensures.home in
    searches_joined 1 1 (length c.deref.result.now) (length c.index_mut-chunk.result.now.items) _ c.args.steps.now c.home-place.new.steps c.take_entry.new.steps
    (omega (arith, ap length c.deref.ensures.value, chunks_few c.args.chunks.now.items c.requires.chunks))
    (home_few c.args.entry c.args.chunks.now.items c.home-place.result c.index_mut-chunk.result.now home c.index_mut-chunk.ensures.value c.requires.order c.requires.chunks)
    c.home-place.ensures.visits c.take_entry.ensures.visits

pub returns-else-as_slice-eq0-clause-visits : goal.returns-else-as_slice-eq0-clause-visits
returns-else-as_slice-eq0-clause-visits g c =
    let home = subst (λ xs. IsHome c.args.entry xs c.home-place.result) c.deref.ensures.value c.home-place.ensures.home in
    searches_joined 1 1 (length c.deref.result.now) (length c.index_mut-chunk.result.now.items) _ c.args.steps.now c.home-place.new.steps c.take_entry.new.steps
    (omega (arith, ap length c.deref.ensures.value, chunks_few c.args.chunks.now.items c.requires.chunks))
    (home_few c.args.entry c.args.chunks.now.items c.home-place.result c.index_mut-chunk.result.now home c.index_mut-chunk.ensures.value c.requires.order c.requires.chunks)
    c.home-place.ensures.visits c.take_entry.ensures.visits
