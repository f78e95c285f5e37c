use Rattle.std.proofs.Common.{sym}
use Rattle.retro_base.specs.PrefixLaws.{take_more}
use Rattle.timelines.proofs.questions.rows_of.Goals as goal

pub loop-place-preserved : goal.loop-place-preserved
loop-place-preserved c = rw (c.in_ok-push.ensures.ok, c.loop-place.invariant) (sym (take_more _ _ _ c.row_at.ensures))
