use Rattle.std.proofs.Common.{◌≡◌, ◌+◌, OnOk, rules, refl, subst, sym}
use Rattle.std.specs.List.{insert}
use Rattle.retro_base.specs.declared.kind.Kind.TheVariants.{Pq}
use Rattle.retro_base.specs.declared.row.Row.{Row}
use Rattle.structure_tests.proofs.Numbered.{AreBelow, below_with, replayable_next}
use Rattle.structure_tests.proofs.bridges.Bridges.put.Goals as goal

pub insert-requires-clause-replayable : goal.insert-requires-clause-replayable
insert-requires-clause-replayable g c =
    replayable_next Pq c.self.inside.queue c.args.place (record { number = c.self.inside.next; time = 0; op = c.args.op })
    c.kind-2.ensures.replayable c.self.invariant (search rules) (search rules) (search rules) (search rules)

pub invariant_of-self : goal.invariant_of-self
invariant_of-self g c =
    let row : Row = record { number = c.self.inside.next; time = 0; op = c.args.op } in
    let rows : c.insert.new.self ≡ insert c.self.inside.queue c.args.place row =
    subst (λ r. OnOk r (c.insert.new.self ≡ insert c.self.inside.queue c.args.place row)) c.expect-change.ensures c.insert.ensures.rows in
    subst (AreBelow (c.self.inside.next + 1)) (sym rows) (below_with c.self.inside.queue c.args.place c.self.inside.next row refl c.self.invariant)
