use Rattle.std.proofs.Common.{Some, length, slice_get, ap, sym, subst, ◌∙◌, arith}
use Rattle.order_labels.specs.Labels.{AreApart, label_limit, least_gap}
use Rattle.order_labels.specs.ApartLaws.{gap_at, after_within}
use Rattle.order_labels.specs.SpreadLaws.{spread-wide}
use Rattle.order_labels.proofs.Rule.{read_back, length-spread_with, length-with}
use Rattle.order_labels.proofs.labels.insert_label.Goals as goal

pub overflow_sub-after : goal.overflow_sub-after
overflow_sub-after c = omega (arith, gap_at 1 0 label_limit c.args.rows.now c.args.place c.requires.within c.requires.labels.rising, c.labels_beside-before.ensures.before, c.labels_beside-before.ensures.after_it)

pub overflow_add-label : goal.overflow_add-label
overflow_add-label c =
    omega (
      arith,
      gap_at 1 0 label_limit c.args.rows.now c.args.place c.requires.within c.requires.labels.rising,
      after_within 1 0 label_limit c.args.rows.now c.args.place c.requires.labels.rising,
      c.labels_beside-before.ensures.before,
      c.labels_beside-before.ensures.after_it,
    )

pub returns-then-after-before-ge2-clause-label : goal.returns-then-after-before-ge2-clause-label
returns-then-after-before-ge2-clause-label c =
    ap (λ rows. slice_get rows c.args.place) c.in_ok-insert.ensures.ok ∙ read_back c.args.rows.now c.args.place c.new.result c.requires.within ∙ ap Some c.new.ensures

pub get-requires : goal.get-requires
get-requires c = record {
  within = omega (arith, length-spread_with c.args.rows.now c.insert-2.new.tree c.spread.new.rows c.args.place c.new-2.result c.requires.within c.in_ok-insert-2.ensures.ok c.spread.ensures);
}

pub returns-clause-length : goal.returns-clause-length
returns-clause-length c = length-spread_with c.args.rows.now c.insert-2.new.tree c.spread.new.rows c.args.place c.new-2.result c.requires.within c.in_ok-insert-2.ensures.ok c.spread.ensures

pub returns-clause-apart : goal.returns-clause-apart
returns-clause-apart c relabelled =
    subst (AreApart least_gap 0 label_limit) (sym c.spread.ensures)
    (spread-wide (length c.insert-2.new.tree) (omega (arith, length-with c.args.rows.now c.insert-2.new.tree c.args.place c.new-2.result c.requires.within c.in_ok-insert-2.ensures.ok)))
