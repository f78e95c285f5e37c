use Rattle.std.proofs.Common.{sym, ◌∙◌}
use Rattle.timeline_undo.proofs.replacement.Replacement.make.Goals as goal

pub put_then_cut-requires-clause-ready : goal.put_then_cut-requires-clause-ready
put_then_cut-requires-clause-ready g c = rw (sym c.adds.ensures ∙ c.if-adds.true) at c.requires.ready

pub returns-then-adds-clause-rows : goal.returns-then-adds-clause-rows
returns-then-adds-clause-rows g c = rw (sym c.adds.ensures ∙ c.if-adds.true) c.put_then_cut.ensures.rows

pub returns-then-adds-clause-reported : goal.returns-then-adds-clause-reported
returns-then-adds-clause-reported g c = rw (sym c.adds.ensures ∙ c.if-adds.true) c.put_then_cut.ensures.reported

pub returns-then-adds-clause-err : goal.returns-then-adds-clause-err
returns-then-adds-clause-err g c = rw (sym c.adds.ensures ∙ c.if-adds.true) c.put_then_cut.ensures.err

pub cut_then_put-requires-clause-ready : goal.cut_then_put-requires-clause-ready
cut_then_put-requires-clause-ready g c = rw (sym c.adds.ensures ∙ c.if-adds.false) at c.requires.ready

pub returns-else-adds-clause-rows : goal.returns-else-adds-clause-rows
returns-else-adds-clause-rows g c = rw (sym c.adds.ensures ∙ c.if-adds.false) c.cut_then_put.ensures.rows

pub returns-else-adds-clause-reported : goal.returns-else-adds-clause-reported
returns-else-adds-clause-reported g c = rw (sym c.adds.ensures ∙ c.if-adds.false) c.cut_then_put.ensures.reported

pub returns-else-adds-clause-err : goal.returns-else-adds-clause-err
returns-else-adds-clause-err g c = rw (sym c.adds.ensures ∙ c.if-adds.false) c.cut_then_put.ensures.err
