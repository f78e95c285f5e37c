use Rattle.std.proofs.Common.{Some, sym, ap, ◌∙◌, arith}
use Rattle.order_timeline.proofs.Maps.{number_there, written_more}
use Rattle.order_timeline.proofs.numbers.write_run.Goals as goal

pub write-requires : goal.write-requires
write-requires c =
    let some = c.requires.some in
    rw c.number-number.ensures
    (number_there c.loop-place.place c.args.rows.now _ c.loop-place.numbers c.value.result c.requires.own (c.loop-place.invariant some.0 some.1)
    (c.get.ensures.item ∙ ap Some (sym c.value.ensures)))

pub loop-place-preserved : goal.loop-place-preserved
loop-place-preserved c = λ names named.
    written_more c.args.rows.now names c.loop-place.numbers c.write.new.numbers c.args.from c.loop-place.place c.args.name c.value.result c.requires.own (omega arith)
    (c.get.ensures.item ∙ ap Some (sym c.value.ensures)) (c.loop-place.invariant names named) named.as_many (rw c.number-number.ensures at c.write.ensures)
