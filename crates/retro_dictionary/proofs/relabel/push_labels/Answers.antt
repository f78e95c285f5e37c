use Rattle.std.proofs.Common.{◌++◌, ◌∷◌, [], drop, length, ap, ◌∙◌, arith}
use Rattle.order_labels.specs.Labels.{multiples}
use Rattle.retro_dictionary.proofs.Relabelling.{none-yet, one-more, length-more}
use Rattle.retro_dictionary.proofs.relabel.push_labels.Goals as goal

pub loop-place-init : goal.loop-place-init
loop-place-init c = none-yet c.args.list.now c.args.gap c.args.from

pub push-requires : goal.push-requires
push-requires c = record { room = omega (arith, ap length c.loop-place.invariant, length-more c.args.list.now c.args.gap c.args.from c.loop-place.place) }

pub loop-place-preserved : goal.loop-place-preserved
loop-place-preserved c =
    let former = c.args.list.now ++ drop c.args.from (multiples c.args.gap c.loop-place.place) in
    c.in_ok-push.ensures.ok
    ∙ ap (λ list. list ++ c.label_of.result ∷ []) c.loop-place.invariant
    ∙ ap (λ label. former ++ label ∷ []) c.label_of.ensures
    ∙ one-more c.args.list.now c.args.gap c.args.from c.loop-place.place (omega arith)
