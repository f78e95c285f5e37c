use Rattle.std.proofs.Common.{◌+◌, ◌*◌, ◌++◌, drop, length, slice_set, ap, ◌∙◌, arith}
use Rattle.order_labels.specs.Labels.{multiples}
use Rattle.order_labels.proofs.Spreading.{more_multiples, length-partly}
use Rattle.order_labels.proofs.spread.spread.Goals as goal

pub replace-requires : goal.replace-requires
replace-requires c =
    let rows = c.args.rows.now in
    let place = c.loop-place.place in
    record { within = omega (arith, ap length c.loop-place.invariant, length-partly c.gap_of-gap.result place rows (omega arith)) }

pub loop-place-preserved : goal.loop-place-preserved
loop-place-preserved c =
    let rows = c.args.rows.now in
    let place = c.loop-place.place in
    let gap = c.gap_of-gap.result in
    c.replace.ensures.items
    ∙ ap (λ labels. slice_set labels place c.new.result) c.loop-place.invariant
    ∙ ap (λ label. slice_set (multiples gap place ++ drop place rows) place label) (c.new.ensures ∙ ap (λ n. (n + 1) * gap) c.from.ensures)
    ∙ more_multiples gap place rows (omega arith)
