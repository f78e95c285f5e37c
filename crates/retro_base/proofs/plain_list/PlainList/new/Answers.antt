use Rattle.retro_base.specs.State.{step}
use Rattle.retro_base.specs.lemmas.Folds.{fold_rows-nil}
use Rattle.retro_base.specs.lemmas.Replayable.{empty_replayable}
use Rattle.retro_base.proofs.plain_list.PlainList.new.Goals as goal

pub invariant_of-result : goal.invariant_of-result
invariant_of-result c = record {
  replayable = rw c.new.ensures.items (empty_replayable _);
  kept = rw (c.new.ensures.items, c.new-2.ensures) (fold_rows-nil step _);
}
