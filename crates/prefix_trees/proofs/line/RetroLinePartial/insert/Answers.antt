use Rattle.std.proofs.Common.{◌≡◌, sym, rules, subst}
use Rattle.std.specs.List.{insert}
use Rattle.retro_base.specs.Timeline.{IsReplayable}
use Rattle.prefix_trees.proofs.line.RetroLinePartial.insert.Goals as goal

pub invariant_of-self-2 : goal.invariant_of-self-2
invariant_of-self-2 g c =
    let placed : c.insert.new.self ≡ insert c.args.self.now c.args.place c.args.row = search rules in
    subst (IsReplayable g.S.Sequence.kind) (sym placed) c.requires.replayable
