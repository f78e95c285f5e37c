use Rattle.std.proofs.Common.{rules, sym, ◌∙◌, w64, SFits}
use Rattle.std.proofs.lemmas.Int.{to_z-of_z}
use Rattle.retro_base.specs.State.{perform}
use Rattle.retro_base.proofs.PossibleSteps.{delete_possible, others_impossible_on_pairs}
use Rattle.retro_base.proofs.performed_rows.can_perform_on_pairs.Goals as goal

pub returns-in-Put : goal.returns-in-Put
unfolding perform
returns-in-Put c = rw c.in-Put.is (search rules)

pub returns-in-Del : goal.returns-in-Del
returns-in-Del c =
    let fits : SFits w64 c.in-Del.key = search rules in
    let found = simp to_z-of_z at c.contains_key.ensures in
    found ∙ sym (delete_possible _ _ _ _ c.in-Del.is)

pub returns-in_default : goal.returns-in_default
returns-in_default c = others_impossible_on_pairs _ _ _ c.in_default.not-Put c.in_default.not-Del
