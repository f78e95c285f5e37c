use Rattle.script_laws.proofs.FusedLines.{fused_answers_alike}
use Rattle.script_laws.proofs.laws.fused_queues_answer_alike.Goals as goal

pub returns : goal.returns
returns c = fused_answers_alike
