use Rattle.std.proofs.Common.{sym, subst}
use Rattle.std.specs.List.{insert}
use Rattle.retro_base.specs.Timeline.{IsReplayable, Structure}
use Rattle.retro_base.proofs.plain_list.PlainListRetro.insert.Goals as goal

pub invariant_of-self-2 : goal.invariant_of-self-2
invariant_of-self-2 c = record {
  replayable = rw c.in_ok-put_in.ensures.rows (subst (λ (now : Structure). IsReplayable now.kind (insert now.rows c.args.place c.args.row)) (sym c.self.view_is) c.requires.replayable);
  kept = rw c.in_ok-put_in.ensures.rows c.in_ok-put_in.ensures.kept;
}
