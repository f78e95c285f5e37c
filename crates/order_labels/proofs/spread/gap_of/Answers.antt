use Rattle.std.proofs.Common.{◌+◌, ◌*◌, ◌≤◌, ◌/◌, ◌^◌, ap, sym, subst, ◌∙◌, arith}
use Rattle.retro_base.specs.Limits.{most_rows}
use Rattle.order_labels.specs.Labels.{gap_of, exponent, label_limit, least_gap}
use Rattle.order_labels.specs.SpreadLaws.{gap-falls, gap-fits}
use Rattle.order_labels.proofs.spread.gap_of.Goals as goal

pub returns-clause-value : goal.returns-clause-value
unfolding gap_of
returns-clause-value c = c.greatest_power.ensures ∙ ap (λ n. 2 ^ exponent (label_limit / (n + 1))) c.from.ensures

pub returns-clause-fits : goal.returns-clause-fits
returns-clause-fits c = subst (λ gap. (c.args.count + 1) * gap ≤ label_limit) (sym (returns-clause-value c)) (gap-fits c.args.count (omega arith))

pub returns-clause-wide : goal.returns-clause-wide
returns-clause-wide c = subst (λ gap. least_gap ≤ gap) (sym (returns-clause-value c)) (gap-falls c.args.count most_rows (omega arith))
