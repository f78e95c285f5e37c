use Rattle.std.proofs.Common.{◌+◌, ap, drop, sym, ◌∙◌, arith}
use Rattle.timeline_undo.specs.WalkCounts.{walked}
use Rattle.timeline_undo.proofs.Walked.{read_up_to, up_to_more, walk_ends, walk_goes, walk_stops}
use Rattle.timeline_undo.proofs.scan.walk.Goals as goal
use Rattle.retro_base.specs.Facts.{window_reads}

pub along-requires-clause-room : goal.along-requires-clause-room
along-requires-clause-room c =
    up_to_more c.loop-place.count (c.loop-place.place + 1) 262144 (omega arith) c.loop-place.invariant.up_to

pub returns-in-Err : goal.returns-in-Err
returns-in-Err c =
    let read = window_reads c.args.timeline.now c.loop-place.window c.read_rows-read.new.rows c.loop-place.place c.read_rows-read.result c.min-rows.result
    c.read_rows-read.ensures.rows (omega arith) (omega arith) in
    sym (c.loop-place.invariant.rest ∙ walk_stops c.args.timeline.now c.loop-place.place c.min-rows.result c.args.to c.loop-place.count c.in-Err.failing (omega arith)
    (ap (λ rows. walked rows c.loop-place.count) (sym read) ∙ sym c.along.ensures ∙ c.in-Err.is))

pub loop-place-preserved : goal.loop-place-preserved
loop-place-preserved c =
    let read = window_reads c.args.timeline.now c.loop-place.window c.read_rows-read.new.rows c.loop-place.place c.read_rows-read.result c.min-rows.result
    c.read_rows-read.ensures.rows (omega arith) (omega arith) in
    let goes = ap (λ rows. walked rows c.loop-place.count) (sym read) ∙ sym c.along.ensures ∙ c.in-Ok.is in record {
      begun = omega arith;
      within = omega arith;
      rest = c.loop-place.invariant.rest ∙ walk_goes c.args.timeline.now c.loop-place.place c.min-rows.result c.args.to c.loop-place.count c.in-Ok.next (omega arith) goes;
      up_to = up_to_more c.in-Ok.next (c.loop-place.place + 1 + c.min-rows.result) (c.loop-place.place + c.min-rows.result + 1) (omega arith)
          (read_up_to (drop c.loop-place.place c.args.timeline.now) c.min-rows.result (c.loop-place.place + 1) c.loop-place.count c.in-Ok.next c.loop-place.invariant.up_to goes);
    }

pub returns : goal.returns
returns c = sym (c.loop-place.invariant.rest ∙ walk_ends c.args.timeline.now c.loop-place.place c.args.to c.loop-place.count (omega arith))
