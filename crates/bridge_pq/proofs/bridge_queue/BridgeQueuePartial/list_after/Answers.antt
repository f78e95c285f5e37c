use Rattle.std.proofs.Common.{◌≡◌, ◌∙◌, ap, sym}
use Rattle.retro_base.specs.declared.kind.Kind.TheVariants.{Pq}
use Rattle.retro_base.specs.Answers.{content}
use Rattle.retro_base.specs.Replay.{state_at}
use Rattle.bridge_pq.specs.MarkedRows.{rows_of}
use Rattle.bridge_pq.proofs.EarlierRows.{held_state, is_earlier}
use Rattle.bridge_pq.proofs.Moved.{if_ok}
use Rattle.bridge_pq.proofs.bridge_queue.BridgeQueuePartial.list_after.Goals as goal

pub list_held-requires : goal.list_held-requires
list_held-requires g c = record {
  earlier = is_earlier c.self.inside.rows c.later.inside.rows c.self.inside.entries c.later.inside.entries c.self.invariant c.later.invariant c.args.self.now c.args.later.now c.self.view_is c.later.view_is c.requires.first c.len.result c.args.place c.len.ensures.length c.requires.earlier c.requires.within;
}

pub returns : goal.returns
returns g c = record {
  content = if_ok _ (λ listing. listing ≡ content (state_at Pq c.args.later.now c.args.place)) c.list_held.result
      (λ listing is. is ∙ ap content (sym (held_state (rows_of c.later.inside.rows) c.args.place c.later.invariant.replayable)) ∙ ap (λ rows. content (state_at Pq rows c.args.place)) c.later.view_is)
      c.list_held.ensures.content;
}
