use Rattle.std.proofs.Common.{subst, sym}
use Rattle.key_index.specs.KeyRows.{Replays}
use Rattle.key_index.specs.Ordered.{by_label}
use Rattle.key_index.proofs.NamedRows.{nothing_replays}
use Rattle.key_index.proofs.key_index.KeyIndex.new.Goals as goal

pub returns-clause-replays : goal.returns-clause-replays
returns-clause-replays c = subst (λ rows. Replays (by_label rows)) (sym c.new.ensures) nothing_replays
