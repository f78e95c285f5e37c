use Rattle.std.proofs.Common.{◌≡◌, ◌∙◌, length, ap, arith, subst, get_or, None}
use Rattle.std.specs.Prelude.{slice_get}
use Rattle.pq_fusion.specs.Chunks.{HoldsRank}
use Rattle.pq_fusion.proofs.Begun.{chunks_few}
use Rattle.pq_fusion.proofs.Chunked.{first_start, held_get, none_held, starts_length}
use Rattle.pq_fusion.proofs.chunks.Chunks.entry.Goals as goal

pub returns-then-as_slice-eq0-clause-entry : goal.returns-then-as_slice-eq0-clause-entry
returns-then-as_slice-eq0-clause-entry g c =
    subst (λ xs. None ≡ slice_get xs c.args.rank) c.self.view_is
    (none_held c.self.inside.chunks.items c.args.rank (omega (arith, ap length c.self.invariant.counted, c.if-as_slice-eq0.true, ap length c.as_slice.ensures.value)))

pub holding-place-requires-clause-first : goal.holding-place-requires-clause-first
holding-place-requires-clause-first g c = ap (λ xs. get_or xs 0 0) (c.deref.ensures.value ∙ c.self.invariant.counted) ∙ first_start c.self.inside.chunks.items

pub index-requires : goal.index-requires
index-requires g c =
    omega (
      arith,
      c.holding-place.ensures.holds.within,
      ap length (c.deref.ensures.value ∙ c.self.invariant.counted),
      starts_length c.self.inside.chunks.items 0,
      c.self.inside.chunks.ok,
    )

pub returns-clause-entry : goal.returns-clause-entry
returns-clause-entry g c =
    subst (λ xs. c.entry_at.result ≡ slice_get xs c.args.rank) c.self.view_is
    (held_get c.self.inside.chunks.items c.self.inside.starts.items c.args.rank c.holding-place.result c.index-2.result.now c.index.result.now c.entry_at.result c.self.invariant.counted c.index.ensures
    c.index-2.ensures
    (subst (λ xs. HoldsRank xs c.args.rank c.holding-place.result) c.deref.ensures.value c.holding-place.ensures.holds) c.entry_at.ensures)

pub returns-clause-visits : goal.returns-clause-visits
returns-clause-visits g c = λ k small. c.holding-place.ensures.visits k (omega (
  arith,
  small,
  ap length (c.deref.ensures.value ∙ c.self.invariant.counted),
  starts_length c.self.inside.chunks.items 0,
  chunks_few c.self.inside.chunks.items c.self.invariant.filled,
  ap length c.self.view_is,
))
