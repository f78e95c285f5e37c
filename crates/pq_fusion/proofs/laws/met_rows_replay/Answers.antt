use Rattle.pq_fusion.proofs.Replays.{met_is_valid, left_is_present}
use Rattle.pq_fusion.proofs.laws.met_rows_replay.Goals as goal

pub returns-clause-valid : goal.returns-clause-valid
returns-clause-valid c = met_is_valid

pub returns-clause-present : goal.returns-clause-present
returns-clause-present c = left_is_present
