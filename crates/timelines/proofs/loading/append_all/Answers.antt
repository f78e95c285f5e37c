use Rattle.std.proofs.Common.{refl, sym, ap, ◌∙◌, take}
use Rattle.retro_base.specs.PrefixLaws.{take_more}
use Rattle.timeline_undo.specs.Session.{SessionState}
use Rattle.timelines.proofs.Loaded.{evidence_grows, loaded_none, put_in_after, timeline_begins, timeline_grows}
use Rattle.timelines.proofs.loading.append_all.Goals as goal

pub append-requires-clause-timeline : goal.append-requires-clause-timeline
append-requires-clause-timeline g c =
    rw c.loop-index.invariant.session
    (timeline_grows c.args.session.now.kind c.args.rows.now c.args.session.now.next c.loop-index.index c.row-row.result c.requires.timeline c.row-row.ensures
    c.loop-index.invariant.timeline)

pub append-requires-clause-history : goal.append-requires-clause-history
append-requires-clause-history g c = rw c.loop-index.invariant.session refl

pub loop-index-init : goal.loop-index-init
loop-index-init g c = record {
  session = c.requires.empty;
  timeline = timeline_begins c.args.session.now.kind c.args.rows.now c.args.session.now.next c.requires.timeline;
  evidence = rw c.requires.none (loaded_none c.args.name c.args.session.now.kind);
}

pub loop-index-preserved : goal.loop-index-preserved
loop-index-preserved g c =
    let session = c.args.session.now in
    let rows = c.args.rows.now in
    let index = c.loop-index.index in
    let row = c.row-row.result in
    let kept = c.loop-index.invariant.session in
    let made = put_in_after c.kind-kind.result _ rows _ index row _ c.row-row.ensures
    (ap (λ (s : SessionState). s.kind) kept ∙ sym c.kind-kind.ensures) (ap (λ (s : SessionState). s.rows) kept) c.in_ok-change.ensures.made in
    record {
      session = rw (c.in_ok-change.ensures.session, kept) (rw (take_more rows index row c.row-row.ensures) refl);
      timeline = rw (take_more rows index row c.row-row.ensures)
          (timeline_grows session.kind rows session.next index row c.requires.timeline c.row-row.ensures c.loop-index.invariant.timeline);
      evidence = evidence_grows c.args.name session.kind rows index row _ _ c.row-row.ensures c.loop-index.invariant.evidence
          (rw c.kind-kind.ensures at (c.in_ok-note.ensures (take index rows) made));
    }
