use Rattle.std.proofs.Common.{sym, ◌∙◌, ◌+◌, ◌-◌, ◌*◌, ◌^◌, suc, arith}
use Rattle.retro_base.specs.Limits.{most_rows}
use Rattle.timeline_undo.proofs.Walked.{along_end, along_next, along_stops, one_row_up_to, up_to_more}
use Rattle.timeline_undo.proofs.walk_count.WalkCount.along.Goals as goal

pub after-requires : goal.after-requires
after-requires c = up_to_more c.loop-row.count (2 * most_rows + c.loop-row.row-index) (2 ^ 32 - 2) (omega arith) c.loop-row.invariant.up_to

pub returns-in-None : goal.returns-in-None
returns-in-None c = sym (c.loop-row.invariant.rest ∙ along_stops c.args.rows.now c.loop-row.row-index c.loop-row.count (omega arith) (sym c.after.ensures ∙ c.in-None.is))

pub loop-row-preserved : goal.loop-row-preserved
loop-row-preserved c = record {
  rest = c.loop-row.invariant.rest ∙ along_next c.args.rows.now c.loop-row.row-index c.loop-row.count _ (omega arith) (sym c.after.ensures ∙ c.in-Some.is);
  up_to = up_to_more _ (suc (2 * most_rows + c.loop-row.row-index)) (2 * most_rows + (c.loop-row.row-index + 1)) (omega arith)
      (one_row_up_to c.loop-row.count _ _ _ c.loop-row.invariant.up_to (sym c.after.ensures ∙ c.in-Some.is));
}

pub returns : goal.returns
returns c = sym (c.loop-row.invariant.rest ∙ along_end c.args.rows.now c.loop-row.row-index c.loop-row.count (omega arith))
