use Rattle.std.proofs.Common.{◌≡◌, suc, ◌-◌, sym, ◌∙◌, eq-eqb, arith, rules}
use Rattle.std.proofs.lemmas.Bool.{ne_eqb}
use Rattle.order_labels.specs.CountLaws.{count_found}
use Rattle.order_labels.specs.Labels.{label_limit}
use Rattle.order_labels.specs.Order.{count_up_to}
use Rattle.order_labels.proofs.Equal.{itself, never_fall, no_label, label_found, label_missing}
use Rattle.order_labels.proofs.labels.find.Goals as goal

pub returns-then-count-eq0-clause-place : goal.returns-then-count-eq0-clause-place
returns-then-count-eq0-clause-place c =
    let counted : c.partition_point-count.result ≡ count_up_to itself c.args.rows.now c.args.label =
    count_found itself c.args.label _ _ c.args.rows.now _ c.partition_point-count.ensures.partition (λ row answer call. search rules)
    (never_fall 0 label_limit c.args.rows.now c.requires.labels.rising) c.partition_point-count.ensures.within in
    sym (no_label c.args.label c.args.rows.now (sym counted ∙ c.if-count-eq0.true))

pub returns-then-value-label-clause-place : goal.returns-then-value-label-clause-place
returns-then-value-label-clause-place c =
    let counted : c.partition_point-count.result ≡ count_up_to itself c.args.rows.now c.args.label =
    count_found itself c.args.label _ _ c.args.rows.now _ c.partition_point-count.ensures.partition (λ row answer call. search rules)
    (never_fall 0 label_limit c.args.rows.now c.requires.labels.rising) c.partition_point-count.ensures.within in
    let last = c.partition_point-count.result - 1 in
    sym (label_found c.args.label 0 label_limit last c.get.result c.args.rows.now (omega arith) c.requires.labels.rising
    (let last_is : count_up_to itself c.args.rows.now c.args.label ≡ suc last = omega (arith, counted) in last_is)
    c.get.ensures.item (eq-eqb c.get.result c.args.label (sym c.value.ensures ∙ c.if-value-label.true)))

pub returns-else-value-label-clause-place : goal.returns-else-value-label-clause-place
returns-else-value-label-clause-place c =
    let counted : c.partition_point-count.result ≡ count_up_to itself c.args.rows.now c.args.label =
    count_found itself c.args.label _ _ c.args.rows.now _ c.partition_point-count.ensures.partition (λ row answer call. search rules)
    (never_fall 0 label_limit c.args.rows.now c.requires.labels.rising) c.partition_point-count.ensures.within in
    let last = c.partition_point-count.result - 1 in
    sym (label_missing c.args.label 0 label_limit last c.get.result c.args.rows.now c.requires.labels.rising
    (let last_is : count_up_to itself c.args.rows.now c.args.label ≡ suc last = omega (arith, counted) in last_is)
    c.get.ensures.item (ne_eqb c.get.result c.args.label (λ same. c.if-value-label.false (c.value.ensures ∙ same))))
