use Rattle.std.proofs.Common.{◌+◌, ◌++◌, length, drop, ap, ◌∙◌, arith}
use Rattle.order_labels.specs.Labels.{multiples}
use Rattle.retro_dictionary.proofs.Relabelling.{length-more, others-are}
use Rattle.retro_dictionary.proofs.relabel.labels_after.Goals as goal

pub push_labels-requires-2-clause-room : goal.push_labels-requires-2-clause-room
push_labels-requires-2-clause-room c = omega (arith, ap length c.in_ok-push_labels.ensures, ap length c.new-fresh.ensures, length-more c.new-fresh.result c.gap_of-gap.result 0 c.args.place)

pub returns : goal.returns
returns c =
    let count = c.args.count in
    let place = c.args.place in
    let gap = c.gap_of-gap.result in
    c.in_ok-push_labels-2.ensures
    ∙ ap (λ xs. xs ++ drop (place + 1) (multiples gap (count + 1))) (c.in_ok-push_labels.ensures ∙ ap (λ xs. xs ++ drop 0 (multiples gap place)) c.new-fresh.ensures)
    ∙ ap (λ n. multiples n place ++ drop (place + 1) (multiples n (count + 1))) c.gap_of-gap.ensures.value
    ∙ others-are count place c.requires.within
