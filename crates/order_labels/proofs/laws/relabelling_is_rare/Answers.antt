use Rattle.order_labels.specs.RareLaws.{least-number}
use Rattle.order_labels.proofs.Rare.{rare}
use Rattle.order_labels.proofs.laws.relabelling_is_rare.Goals as goal

pub returns-clause-rare : goal.returns-clause-rare
returns-clause-rare c = rare

pub returns-clause-number : goal.returns-clause-number
returns-clause-number c = least-number
