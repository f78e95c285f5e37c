use Rattle.std.proofs.Common.{◌≡◌, Some, sym, ap, ◌∙◌, inl, inr}
use Rattle.retro_base.specs.MarkedChange.{marked_change}
use Rattle.retro_base.specs.Weights.{added_as}
use Rattle.retro_base.specs.declared.row.Change.TheVariants.{Gain, Lose}
use Rattle.evidence_check.specs.Marks.{rows_of}
use Rattle.evidence_check.specs.Truth.{reported_edit, reported_row}
use Rattle.evidence_check.proofs.Reading.{change_reads, not_own}
use Rattle.evidence_check.proofs.Shown.{greatest_is, least_is}
use Rattle.evidence_check.proofs.edits.changed_place.Goals as goal

pub best_place-requires-clause-there : goal.best_place-requires-clause-there
best_place-requires-clause-there g c =
    let e = c.args.evidence.now in
    let read : marked_change (rows_of c.args.rows.now) (reported_edit e) ≡ Some (Gain c.in-Gain.bridge c.in-Gain.entry) = c.requires.read ∙ ap Some c.in-Gain.is in
    elim (change_reads (rows_of c.args.rows.now) e.added e.place (reported_row e) (Gain c.in-Gain.bridge c.in-Gain.entry) read) [
      | inl own ↦ absurd (not_own e.added (added_as e.op e.number) c.in-Gain.entry (sym c.is_own.ensures ∙ c.if-is_own.false) own.0 own.1)
      | inr dead ↦ greatest_is c.args.rows.now c.requires.kept c.in-Gain.bridge ∙ dead
    ]

pub best_place-requires-in-Lose-Some-default-clause-there : goal.best_place-requires-in-Lose-Some-default-clause-there
best_place-requires-in-Lose-Some-default-clause-there g c =
    let e = c.args.evidence.now in
    let there : c.in-Lose-Some-default.bridge' ≡ Some c.in-Lose-Some-default.bridge = rw c.in-Lose-Some-default.is at c.in-Lose-Some-default.bridge-is in
    let change : c.args.evidence.now.change ≡ Lose (Some c.in-Lose-Some-default.bridge) c.in-Lose-Some-default.entry =
    c.in-Lose-Some-default.is ∙ ap (λ bridge. Lose bridge c.in-Lose-Some-default.entry) there in
    let read : marked_change (rows_of c.args.rows.now) (reported_edit e) ≡ Some (Lose (Some c.in-Lose-Some-default.bridge) c.in-Lose-Some-default.entry) = c.requires.read ∙ ap Some change in
    least_is c.args.rows.now c.requires.kept c.in-Lose-Some-default.bridge
    ∙ change_reads (rows_of c.args.rows.now) e.added e.place (reported_row e) (Lose (Some c.in-Lose-Some-default.bridge) c.in-Lose-Some-default.entry) read
