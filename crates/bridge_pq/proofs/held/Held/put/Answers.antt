use Rattle.std.proofs.Common.{List, length, ap, ◌∙◌, arith}
use Rattle.retro_base.specs.declared.row.Entry.{Entry}
use Rattle.retro_base.specs.lemmas.CountedEntries.{with_length}
use Rattle.bridge_pq.specs.Gathered.{in_front, with_all}
use Rattle.bridge_pq.proofs.GatheredEntries.{gathered_with}
use Rattle.bridge_pq.proofs.held.Held.put.Goals as goal

pub returns-clause-entries : goal.returns-clause-entries
returns-clause-entries c =
    rw (← c.self.view_is) (ap (λ fresh. with_all fresh (in_front c.self.inside.first c.self.inside.left.entries)) c.in_ok-put.ensures.ok
    ∙ gathered_with c.args.entry c.self.inside.fresh (in_front c.self.inside.first c.self.inside.left.entries))

pub returns-clause-fresh : goal.returns-clause-fresh
returns-clause-fresh c =
    rw (← c.self.view_is) (omega (arith, ap (λ (l : List Entry). length l) c.in_ok-put.ensures.ok, with_length c.args.entry c.self.inside.fresh))
