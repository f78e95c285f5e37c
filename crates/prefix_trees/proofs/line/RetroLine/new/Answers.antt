use Rattle.std.proofs.Common.{sym, subst}
use Rattle.retro_base.specs.Timeline.{IsReplayable}
use Rattle.prefix_trees.specs.SizeLaws.{replayable-none}
use Rattle.prefix_trees.proofs.line.RetroLine.new.Goals as goal

pub invariant_of-result : goal.invariant_of-result
invariant_of-result g c = subst (IsReplayable g.S.Sequence.kind) (sym c.new.ensures) (replayable-none g.S.Sequence.kind)
