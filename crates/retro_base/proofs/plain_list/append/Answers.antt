use Rattle.retro_base.specs.State.{step}
use Rattle.retro_base.specs.lemmas.Folds.{last_possible, fold_rows-last}
use Rattle.retro_base.proofs.plain_list.append.Goals as goal

pub perform-requires : goal.perform-requires
perform-requires c = last_possible step _ _ _ _ c.requires.kept c.requires.valid

pub returns-clause-kept : goal.returns-clause-kept
returns-clause-kept c = fold_rows-last step _ _ _ _ _ c.requires.kept c.in_ok-perform.ensures.ok
