use Rattle.std.proofs.Common.{Some, sym, ap, ◌∙◌, arith}
use Rattle.order_timeline.proofs.Filed.{file_more, first_all}
use Rattle.order_timeline.proofs.names.file_all.Goals as goal

pub loop-place-preserved : goal.loop-place-preserved
loop-place-preserved c =
    file_more c.loop-place.place c.args.names.now c.args.labels.now c.loop-place.table c.set.new.self c.value-name.result c.label_at.result c.requires.distinct
    (c.get.ensures.item ∙ ap Some (sym c.value-name.ensures)) c.label_at.ensures c.loop-place.invariant c.set.ensures

pub returns : goal.returns
returns c = record {
  each = c.requires.each;
  distinct = c.requires.distinct;
  filed = first_all c.loop-place.place c.args.names.now c.args.labels.now c.loop-place.table (omega arith) c.loop-place.invariant.0;
}
