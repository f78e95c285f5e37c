use Rattle.std.proofs.Common.{arith}
use Rattle.pq_fusion.proofs.Begun.{all_counted, last_counted, one_search, start_inside, two_searches}
use Rattle.pq_fusion.proofs.chunks.reaching_in_chunks.Goals as goal

pub returns-then-begun-eq0-clause-count : goal.returns-then-begun-eq0-clause-count
returns-then-begun-eq0-clause-count g c = all_counted c.args.bound c.list.inside.chunks.items c.deref.result.now c.list.inside.starts.items c.list.inside.count c.begun_before-begun.result c.args.list.now c.list.invariant c.list.view_is c.deref.ensures.value c.begun_before-begun.ensures.begun c.if-begun-eq0.true

pub returns-then-begun-eq0-clause-visits : goal.returns-then-begun-eq0-clause-visits
returns-then-begun-eq0-clause-visits g c = one_search c.args.bound c.list.inside.chunks.items c.deref.result.now c.list.inside.starts.items c.list.inside.count c.begun_before-begun.result c.args.list.now c.list.invariant c.list.view_is c.deref.ensures.value c.begun_before-begun.ensures.begun c.args.steps.now c.begun_before-begun.new.steps c.begun_before-begun.ensures.visits

pub index-requires-2 : goal.index-requires-2
index-requires-2 g c = omega (arith, c.list.inside.starts.ok, start_inside c.args.bound c.list.inside.chunks.items c.deref.result.now c.list.inside.starts.items c.list.inside.count c.begun_before-begun.result c.args.list.now c.list.invariant c.list.view_is c.deref.ensures.value c.begun_before-begun.ensures.begun (omega (arith, c.if-begun-eq0.false)))

pub overflow_sub-behind : goal.overflow_sub-behind
overflow_sub-behind g c =
    (last_counted c.args.bound c.list.inside.chunks.items c.deref.result.now c.list.inside.starts.items c.list.inside.count c.begun_before-begun.result c.args.list.now c.list.invariant c.list.view_is
    c.deref.ensures.value c.begun_before-begun.ensures.begun c.index.result.now c.as_slice-chunk.result.now c.index-2.result.now (omega (arith, c.if-begun-eq0.false)) c.index.ensures c.index-2.ensures
    c.as_slice-chunk.ensures.value).start_within

pub overflow_sub-behind-2 : goal.overflow_sub-behind-2
overflow_sub-behind-2 g c =
    (last_counted c.args.bound c.list.inside.chunks.items c.deref.result.now c.list.inside.starts.items c.list.inside.count c.begun_before-begun.result c.args.list.now c.list.invariant c.list.view_is
    c.deref.ensures.value c.begun_before-begun.ensures.begun c.index.result.now c.as_slice-chunk.result.now c.index-2.result.now (omega (arith, c.if-begun-eq0.false)) c.index.ensures c.index-2.ensures
    c.as_slice-chunk.ensures.value).own_within

pub reaching-requires-clause-order : goal.reaching-requires-clause-order
reaching-requires-clause-order g c =
    (last_counted c.args.bound c.list.inside.chunks.items c.deref.result.now c.list.inside.starts.items c.list.inside.count c.begun_before-begun.result c.args.list.now c.list.invariant c.list.view_is
    c.deref.ensures.value c.begun_before-begun.ensures.begun c.index.result.now c.as_slice-chunk.result.now c.index-2.result.now (omega (arith, c.if-begun-eq0.false)) c.index.ensures c.index-2.ensures
    c.as_slice-chunk.ensures.value).order

pub returns-clause-count : goal.returns-clause-count
returns-clause-count g c =
    omega (
      arith,
      c.reaching.ensures.count,
      (last_counted c.args.bound c.list.inside.chunks.items c.deref.result.now c.list.inside.starts.items c.list.inside.count c.begun_before-begun.result c.args.list.now c.list.invariant c.list.view_is
          c.deref.ensures.value c.begun_before-begun.ensures.begun c.index.result.now c.as_slice-chunk.result.now c.index-2.result.now (omega (arith, c.if-begun-eq0.false)) c.index.ensures c.index-2.ensures
          c.as_slice-chunk.ensures.value).counted,
    )

pub returns-clause-few : goal.returns-clause-few
returns-clause-few g c =
    omega (
      arith,
      c.reaching.ensures.count,
      (last_counted c.args.bound c.list.inside.chunks.items c.deref.result.now c.list.inside.starts.items c.list.inside.count c.begun_before-begun.result c.args.list.now c.list.invariant c.list.view_is
          c.deref.ensures.value c.begun_before-begun.ensures.begun c.index.result.now c.as_slice-chunk.result.now c.index-2.result.now (omega (arith, c.if-begun-eq0.false)) c.index.ensures c.index-2.ensures
          c.as_slice-chunk.ensures.value).within,
    )

pub returns-clause-visits : goal.returns-clause-visits
returns-clause-visits g c =
    let counted = last_counted c.args.bound c.list.inside.chunks.items c.deref.result.now c.list.inside.starts.items c.list.inside.count c.begun_before-begun.result c.args.list.now c.list.invariant c.list.view_is
    c.deref.ensures.value c.begun_before-begun.ensures.begun c.index.result.now c.as_slice-chunk.result.now c.index-2.result.now (omega (arith, c.if-begun-eq0.false)) c.index.ensures c.index-2.ensures
    c.as_slice-chunk.ensures.value in
    two_searches c.args.bound c.list.inside.chunks.items c.deref.result.now c.list.inside.starts.items c.list.inside.count c.begun_before-begun.result c.args.list.now c.list.invariant c.list.view_is
    c.deref.ensures.value c.begun_before-begun.ensures.begun c.as_slice-chunk.result.now c.args.steps.now c.begun_before-begun.new.steps c.reaching.new.steps counted.part counted.filled
    c.begun_before-begun.ensures.visits c.reaching.ensures.visits
