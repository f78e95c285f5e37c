use Rattle.retro_base.specs.lemmas.GivingEdits.{adding_row_replays, taking_row_can_go}
use Rattle.retro_base.proofs.laws.giving_rows_replay.Goals as goal

pub returns-clause-adding : goal.returns-clause-adding
returns-clause-adding c = adding_row_replays

pub returns-clause-taking : goal.returns-clause-taking
returns-clause-taking c = taking_row_can_go
