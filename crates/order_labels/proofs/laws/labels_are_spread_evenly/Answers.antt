use Rattle.std.proofs.Common.{◌^◌, ap, arith}
use Rattle.retro_base.specs.Limits.{most_rows}
use Rattle.order_labels.specs.Labels.{gap_of}
use Rattle.order_labels.specs.RareLaws.{least-number}
use Rattle.order_labels.specs.SpreadLaws.{gap-falls, spread-evenly}
use Rattle.order_labels.proofs.laws.labels_are_spread_evenly.Goals as goal

pub returns-clause-even : goal.returns-clause-even
returns-clause-even c count few = spread-evenly count (omega arith)

pub returns-clause-wide : goal.returns-clause-wide
returns-clause-wide c count few = gap-falls count most_rows few

pub returns-clause-number : goal.returns-clause-number
unfolding gap_of
returns-clause-number c = ap (λ k. 2 ^ k) least-number
