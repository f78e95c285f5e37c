use Rattle.std.proofs.Common.{rules, ap}
use Rattle.std.specs.Prelude.{not, ◌==◌}
use Rattle.retro_base.specs.State.{perform}
use Rattle.retro_base.specs.lemmas.EntrySteps.{delmin_possible, others_impossible_on_entries}
use Rattle.retro_base.proofs.performed_rows.can_perform_on_entries.Goals as goal

pub returns-in-Ins : goal.returns-in-Ins
unfolding perform
returns-in-Ins c = rw c.in-Ins.is (search rules)

pub returns-in-DelMin : goal.returns-in-DelMin
returns-in-DelMin c = rw (delmin_possible _ _ _ c.in-DelMin.is) (ap (λ n. not (n == 0)) c.len.ensures)

pub returns-in_default : goal.returns-in_default
returns-in_default c = others_impossible_on_entries _ _ _ c.in_default.not-Ins c.in_default.not-DelMin
