use Rattle.retro_base.specs.lemmas.Replayable.{replayable_seen_without}
use Rattle.retro_base.proofs.plain_list.PlainListRetro.remove.Goals as goal

pub invariant_of-self-2 : goal.invariant_of-self-2
invariant_of-self-2 c = record {
  replayable = rw c.in_ok-row.ensures.rows (replayable_seen_without _ _ _ _ c.self.view_is c.self.invariant.replayable c.requires.replays);
  kept = rw c.in_ok-row.ensures.rows c.in_ok-row.ensures.kept;
}

pub returns-clause-replayable : goal.returns-clause-replayable
returns-clause-replayable c = rw c.in_ok-row.ensures.rows (replayable_seen_without _ _ _ _ c.self.view_is c.self.invariant.replayable c.requires.replays)
