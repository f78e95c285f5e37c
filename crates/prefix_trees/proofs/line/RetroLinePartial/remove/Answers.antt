use Rattle.std.proofs.Common.{◌≡◌, sym, rules, subst}
use Rattle.std.specs.List.{remove}
use Rattle.retro_base.specs.Timeline.{IsReplayable}
use Rattle.retro_base.specs.ReplayableLaws.{replayable_without}
use Rattle.prefix_trees.proofs.line.RetroLinePartial.remove.Goals as goal

pub invariant_of-self : goal.invariant_of-self
invariant_of-self g c =
    let taken : c.remove.new.self ≡ remove c.args.self.now c.args.place = search rules in
    subst (IsReplayable g.S.Sequence.kind) (sym taken)
    (replayable_without g.S.Sequence.kind c.args.self.now c.args.place (subst (IsReplayable g.S.Sequence.kind) c.self.view_is c.self.invariant) c.requires.replays)

pub returns-clause-replayable : goal.returns-clause-replayable
returns-clause-replayable g c = invariant_of-self g c
