use Rattle.std.proofs.Common.{sym, ap, ◌∙◌}
use Rattle.std.specs.Prelude.{option_map}
use Rattle.retro_base.specs.Better.{better_of}
use Rattle.retro_base.specs.MarkedChange.{gained}
use Rattle.retro_base.specs.State.{comes_before}
use Rattle.retro_base.specs.declared.row.Change.TheVariants.{Gain}
use Rattle.evidence_check.specs.Marks.{rows_of}
use Rattle.evidence_check.proofs.Shown.{greatest_is}
use Rattle.evidence_check.proofs.changes.gained.Goals as goal

pub returns : goal.returns
returns g c =
    ap (option_map (λ entry. Gain c.last_bridge-bridge.result entry))
    (sym c.in_ok-entry.was ∙ c.better_of.ensures ∙ ap (better_of comes_before c.args.new) (c.best.ensures ∙ greatest_is c.args.rows.now c.requires.kept c.last_bridge-bridge.result))
    ∙ ap (λ bridge. gained (rows_of c.args.rows.now) bridge c.args.new) c.last_bridge-bridge.ensures.bridge

pub returns-in_err-entry : goal.returns-in_err-entry
returns-in_err-entry g c =
    c.from_residual.ensures ∙ ap (option_map (λ entry. Gain c.last_bridge-bridge.result entry))
    (sym c.in_err-entry.was ∙ c.better_of.ensures ∙ ap (better_of comes_before c.args.new) (c.best.ensures ∙ greatest_is c.args.rows.now c.requires.kept c.last_bridge-bridge.result))
    ∙ ap (λ bridge. gained (rows_of c.args.rows.now) bridge c.args.new) c.last_bridge-bridge.ensures.bridge
