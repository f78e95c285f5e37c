use Rattle.std.proofs.Common.{sym}
use Rattle.timeline_file.proofs.GoodRows.{timeline_read}
use Rattle.timeline_file.proofs.block.BlockReader.finish.Goals as goal

pub returns-clause-timeline : goal.returns-clause-timeline
returns-clause-timeline c =
    rw c.into_rows-rows.ensures.rows
    (timeline_read _ _ _ _ _ _ _ _ c.self.view_is c.self.invariant c.into_rows-rows.ensures.replayable
    (sym (rw (c.as_slice.ensures, c.into_rows-rows.ensures.rows) at c.if-not-are_below.ensures)))
