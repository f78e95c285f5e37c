use Rattle.std.proofs.Common.{rules, ◌≡◌, ◌+◌, ◌∙◌, length, ap, arith, refl, set, subst}
use Rattle.std.specs.Prelude.{insert}
use Rattle.pq_fusion.specs.Chunks.{IsHome, entries_of}
use Rattle.pq_fusion.proofs.Begun.{chunks_few}
use Rattle.pq_fusion.proofs.Chunked.{home_few, home_order, put_one, put_two}
use Rattle.pq_fusion.proofs.Turns.{searches_joined}
use Rattle.pq_fusion.proofs.chunk_edits.put_among.Goals as goal

pub put_into-requires-clause-order : goal.put_into-requires-clause-order
put_into-requires-clause-order g c =
    let home = subst (λ xs. IsHome c.args.entry xs c.home-place.result) c.deref.ensures.value c.home-place.ensures.home in
    home_order c.args.entry c.args.chunks.now.items c.home-place.result c.index_mut-chunk.result.now home c.index_mut-chunk.ensures.value c.requires.order c.requires.chunks

pub returns-in_default-clause-items : goal.returns-in_default-clause-items
returns-in_default-clause-items g c =
    let home = subst (λ xs. IsHome c.args.entry xs c.home-place.result) c.deref.ensures.value c.home-place.ensures.home in
    put_one c.args.entry c.args.chunks.now.items c.home-place.result c.index_mut-chunk.result.now home c.index_mut-chunk.ensures.value c.requires.order c.requires.chunks
    c.put_into.new.chunk c.in_default.ensures.items

pub returns-clause-items : goal.returns-clause-items
returns-clause-items g c =
    let home = subst (λ xs. IsHome c.args.entry xs c.home-place.result) c.deref.ensures.value c.home-place.ensures.home in
    let put : c.insert.new.self.items ≡ insert (set c.args.chunks.now.items c.home-place.result c.put_into.new.chunk) (c.home-place.result + 1) c.in-Some.later = search rules in
    ap entries_of put
    ∙ put_two c.args.entry c.args.chunks.now.items c.home-place.result c.index_mut-chunk.result.now home c.index_mut-chunk.ensures.value c.requires.order c.requires.chunks
    c.put_into.new.chunk c.in-Some.later (c.home-place.result + 1) refl c.in-Some.ensures.items.0

pub returns-in_default-clause-visits : goal.returns-in_default-clause-visits
returns-in_default-clause-visits g c =
    let home = subst (λ xs. IsHome c.args.entry xs c.home-place.result) c.deref.ensures.value c.home-place.ensures.home in
    searches_joined 1 1 (length c.deref.result.now) (length c.index_mut-chunk.result.now.items) _ c.args.steps.now c.home-place.new.steps c.put_into.new.steps
    (omega (arith, ap length c.deref.ensures.value, chunks_few c.args.chunks.now.items c.requires.chunks))
    (home_few c.args.entry c.args.chunks.now.items c.home-place.result c.index_mut-chunk.result.now home c.index_mut-chunk.ensures.value c.requires.order c.requires.chunks)
    c.home-place.ensures.visits c.put_into.ensures.visits

pub returns-clause-visits : goal.returns-clause-visits
returns-clause-visits g c =
    let home = subst (λ xs. IsHome c.args.entry xs c.home-place.result) c.deref.ensures.value c.home-place.ensures.home in
    searches_joined 1 1 (length c.deref.result.now) (length c.index_mut-chunk.result.now.items) _ c.args.steps.now c.home-place.new.steps c.put_into.new.steps
    (omega (arith, ap length c.deref.ensures.value, chunks_few c.args.chunks.now.items c.requires.chunks))
    (home_few c.args.entry c.args.chunks.now.items c.home-place.result c.index_mut-chunk.result.now home c.index_mut-chunk.ensures.value c.requires.order c.requires.chunks)
    c.home-place.ensures.visits c.put_into.ensures.visits
