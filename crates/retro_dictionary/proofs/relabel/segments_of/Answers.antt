use Rattle.std.proofs.Common.{◌≡◌, ◌-◌, Some, length, slice_get, sym, ap, ◌∙◌, arith}
use Rattle.order_labels.specs.Labels.{spread}
use Rattle.order_labels.specs.SpreadLaws.{spread-rises}
use Rattle.retro_dictionary.proofs.MadeLifetimes.{none-made, can-begin, one-made}
use Rattle.retro_dictionary.proofs.Relabelling.{label-there, length-spread}
use Rattle.retro_dictionary.proofs.relabel.segments_of.Goals as goal
use Rattle.retro_dictionary.proofs.relabel.segments_of.Goals.{After-label_of}

pub loop-place-init : goal.loop-place-init
loop-place-init c = c.new-segments.ensures ∙ sym (none-made (spread (length c.args.rows.now)) c.args.rows.now c.len-count.result (omega (arith, length-spread (length c.args.rows.now), c.len-count.ensures)))

-- the label of the row that comes next
next-label : (c : After-label_of) → slice_get (spread (length c.args.rows.now)) (c.loop-place.place - 1) ≡ Some c.label_of.result
next-label c =
    label-there (length c.args.rows.now) c.len-count.result c.gap_of-gap.result
    (c.loop-place.place - 1) c.label_of.result c.len-count.ensures c.gap_of-gap.ensures.value c.label_of.ensures
    (omega (arith, c.loop-place.auto.place, c.len-count.ensures))

pub begin-requires : goal.begin-requires
begin-requires c = rw c.op-op.ensures (record {
  can = can-begin (spread (length c.args.rows.now)) c.args.rows.now c.args.index.now (length-spread (length c.args.rows.now))
      (spread-rises (length c.args.rows.now) (omega (arith, c.requires.few))) c.requires.few c.requires.indexed
      (c.loop-place.place - 1) c.label_of.result c.value.result (next-label (goal.at.begin-requires c).After-label_of) (c.get.ensures.item ∙ ap Some (sym c.value.ensures))
      c.loop-place.place c.loop-place.segments (omega arith) c.loop-place.invariant;
})

pub loop-place-preserved : goal.loop-place-preserved
loop-place-preserved c =
    (rw c.op-op.ensures at c.in_ok-begin.ensures.ok)
    ∙ one-made (spread (length c.args.rows.now)) c.args.rows.now c.args.index.now (length-spread (length c.args.rows.now))
    (spread-rises (length c.args.rows.now) (omega (arith, c.requires.few))) c.requires.few c.requires.indexed
    (c.loop-place.place - 1) c.label_of.result c.value.result (next-label (goal.at.loop-place-preserved c).After-label_of) (c.get.ensures.item ∙ ap Some (sym c.value.ensures))
    c.loop-place.place c.loop-place.segments (omega arith) c.loop-place.invariant
