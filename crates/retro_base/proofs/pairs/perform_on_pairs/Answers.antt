use Rattle.std.proofs.Common.{rules, w64, SFits}
use Rattle.std.proofs.lemmas.Int.{to_z-of_z}
use Rattle.retro_base.specs.State.{perform}
use Rattle.retro_base.proofs.PairSteps.{deleted, no_operation_of_pairs}
use Rattle.retro_base.proofs.pairs.perform_on_pairs.Goals as goal

pub returns-in_ok-insert-in-Put-clause-ok : goal.returns-in_ok-insert-in-Put-clause-ok
unfolding perform
returns-in_ok-insert-in-Put-clause-ok c = rw c.in-Put.is (search (rules, to_z-of_z, c.in_ok-insert-in-Put.ensures.entries))

pub returns-in-Del-clause-ok : goal.returns-in-Del-clause-ok
unfolding perform
returns-in-Del-clause-ok c =
    let fits : SFits w64 c.in-Del.key = search rules in
    let without = simp to_z-of_z at c.remove.ensures.entries in
    rw c.in-Del.is (deleted c.in-Del.key c.args.held.now.entries _ (rw c.in-Del.is at c.requires) without)

pub unreachable-requires : goal.unreachable-requires
unfolding perform
unreachable-requires c = no_operation_of_pairs _ _ _ c.requires c.in_default.not-Put c.in_default.not-Del
