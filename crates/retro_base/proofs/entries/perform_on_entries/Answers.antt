use Rattle.std.proofs.Common.{rules}
use Rattle.std.proofs.lemmas.Int.{to_z-of_z}
use Rattle.retro_base.specs.State.{entries, perform}
use Rattle.retro_base.specs.lemmas.CountedSizes.{first_out}
use Rattle.retro_base.specs.lemmas.EntrySteps.{no_operation_of_entries}
use Rattle.retro_base.proofs.entries.perform_on_entries.Goals as goal

pub unreachable-requires : goal.unreachable-requires
unreachable-requires c = no_operation_of_entries _ _ _ c.requires c.in_default.not-Ins c.in_default.not-DelMin

pub returns-in_ok-insert-in-Ins-clause-ok : goal.returns-in_ok-insert-in-Ins-clause-ok
unfolding perform
returns-in_ok-insert-in-Ins-clause-ok c = rw c.in-Ins.is (search (rules, to_z-of_z, c.in_ok-insert-in-Ins.ensures.ok))

pub returns-in-DelMin-clause-ok : goal.returns-in-DelMin-clause-ok
unfolding perform
returns-in-DelMin-clause-ok c = rw c.in-DelMin.is (first_out entries _ _ (rw c.in-DelMin.is at c.requires) c.take_least.ensures.others)
