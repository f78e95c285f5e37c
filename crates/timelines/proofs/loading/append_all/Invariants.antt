use Rattle.std.proofs.Common.{◌≡◌, take}
use Rattle.retro_base.specs.Timeline.{IsTimeline}
use Rattle.timeline_undo.specs.Session.{SessionState}
use Rattle.timelines.specs.Kept.{loaded_session}
use Rattle.reactions.specs.Reported.{loaded_evidence}
use Rattle.timelines.proofs.loading.append_all.Given as goal

abbrev pub invariant-loop-index : goal.invariant-loop-index
invariant-loop-index g l = record {
  session : ◌≡◌ {A = SessionState} l.session (loaded_session l.fn.session.kind l.fn.session.next (take l.index l.rows));
  timeline : IsTimeline l.fn.session.kind (take l.index l.rows) l.fn.session.next;
  evidence : l.evidence ≡ loaded_evidence l.name l.fn.session.kind (take l.index l.rows);
}
