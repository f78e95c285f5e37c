use Rattle.retro_base.specs.State.{step}
use Rattle.retro_base.specs.lemmas.Folds.{fold_rows-nil}
use Rattle.retro_base.specs.lemmas.Replayable.{empty_replayable}
use Rattle.retro_base.proofs.performed_rows.PerformedRows.new.Goals as goal

pub invariant_of-result : goal.invariant_of-result
invariant_of-result c = record {
  replayable = rw c.new.ensures (empty_replayable _);
  kept = rw (c.new.ensures, c.new-2.ensures) (fold_rows-nil step _);
}
