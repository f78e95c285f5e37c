use Rattle.std.proofs.Common.{sym, ◌∙◌}
use Rattle.order_timeline.proofs.Filed.{nowhere_in_table, nowhere_by_label, found_there, nowhere_else}
use Rattle.order_timeline.proofs.names.find.Goals as goal

pub returns-in_err-label-clause-place : goal.returns-in_err-label-clause-place
returns-in_err-label-clause-place c =
    c.from_residual.ensures ∙ sym (nowhere_in_table c.args.names.now c.args.labels.now c.args.table.now c.args.name c.requires (sym c.get.ensures ∙ c.in_err-label.was))

pub returns-in_err-place-clause-place : goal.returns-in_err-place-clause-place
returns-in_err-place-clause-place c =
    c.from_residual-in_err-place.ensures ∙ sym (nowhere_by_label c.args.names.now c.args.labels.now c.args.table.now c.args.name c.requires c.in_ok-label.label
    (sym c.get.ensures ∙ c.in_ok-label.was) (sym c.place_of_label.ensures.place ∙ c.in_err-place.was))

pub returns-then-number-clause-place : goal.returns-then-number-clause-place
returns-then-number-clause-place c =
    sym (found_there c.args.names.now c.args.labels.now c.args.table.now c.args.name c.requires c.in_ok-label.label c.in_ok-place.place c.get-2.result
    (sym c.get.ensures ∙ c.in_ok-label.was) (sym c.place_of_label.ensures.place ∙ c.in_ok-place.was)
    c.get-2.ensures.item (sym c.value.ensures ∙ sym c.number.ensures ∙ c.if-number.true ∙ c.number-2.ensures))

pub returns-else-number-clause-place : goal.returns-else-number-clause-place
returns-else-number-clause-place c =
    sym (nowhere_else c.args.names.now c.args.labels.now c.args.table.now c.args.name c.requires c.in_ok-label.label c.in_ok-place.place c.get-2.result
    c.place_of_label.ensures.labels (sym c.get.ensures ∙ c.in_ok-label.was) (sym c.place_of_label.ensures.place ∙ c.in_ok-place.was)
    c.get-2.ensures.item (λ same. c.if-number.false (c.number.ensures ∙ c.value.ensures ∙ same ∙ sym c.number-2.ensures)))
