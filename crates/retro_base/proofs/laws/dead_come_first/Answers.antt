use Rattle.std.proofs.Common.{drop}
use Rattle.retro_base.specs.Bridges.{entries_at, survivors}
use Rattle.retro_base.specs.lemmas.bridges.Entries.{contains_in, in_contains}
use Rattle.retro_base.specs.lemmas.bridges.Histories.{moves_of, history_at}
use Rattle.retro_base.specs.lemmas.bridges.DeadFirst.{dead_first}
use Rattle.retro_base.proofs.laws.dead_come_first.Goals as goal

pub returns : goal.returns
returns c = λ rows place dead alive history there here died lives.
    let parts = history_at rows place history in
    dead_first (moves_of (drop place rows)) (entries_at rows place) (survivors rows) dead alive parts.ready parts.second
    (contains_in _ _ there) (contains_in _ _ here) (λ inside. died (in_contains _ _ inside)) (contains_in _ _ lives)
