use Rattle.std.proofs.Common.{sym, ap, ◌∙◌, Some}
use Rattle.std.specs.Prelude.{option_map}
use Rattle.retro_base.specs.MarkedChange.{lost}
use Rattle.retro_base.specs.declared.row.Change.TheVariants.{Lose}
use Rattle.evidence_check.specs.Marks.{rows_of}
use Rattle.evidence_check.proofs.Shown.{least_is}
use Rattle.evidence_check.proofs.changes.lost.Goals as goal

pub returns : goal.returns
returns g c =
    ap (option_map (λ entry. Lose (Some c.first_bridge-bridge.result) entry))
    (sym c.in_ok-entry.was ∙ c.best.ensures ∙ least_is c.args.rows.now c.requires.kept c.first_bridge-bridge.result)
    ∙ ap (lost (rows_of c.args.rows.now)) c.first_bridge-bridge.ensures.bridge

pub returns-in_err-entry : goal.returns-in_err-entry
returns-in_err-entry g c =
    c.from_residual.ensures ∙ ap (option_map (λ entry. Lose (Some c.first_bridge-bridge.result) entry))
    (sym c.in_err-entry.was ∙ c.best.ensures ∙ least_is c.args.rows.now c.requires.kept c.first_bridge-bridge.result)
    ∙ ap (lost (rows_of c.args.rows.now)) c.first_bridge-bridge.ensures.bridge
