use Rattle.timeline_file.proofs.GoodRows.{good_is_fresh, read_then}
use Rattle.timeline_file.proofs.block.BlockReader.append.Goals as goal

pub append-requires-clause-fresh : goal.append-requires-clause-fresh
append-requires-clause-fresh c = good_is_fresh _ _ _ (rw (← c.self.view_is) at c.requires.good)

pub invariant_of-self-2 : goal.invariant_of-self-2
invariant_of-self-2 c =
    rw c.in_default.ensures.rows
    (read_then _ _ _ _ _ _ c.self.invariant (rw (← c.self.view_is) at c.requires.good) c.requires.numbered c.in_ok-insert.ensures.updates)
