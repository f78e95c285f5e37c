-- The name is one.
use Rattle.std.proofs.Common.{sym, ◌∙◌}
use Rattle.retro_base.specs.Facts.{some_is_not_none}
use Rattle.retro_run.specs.Summary.{generated_name}
use Rattle.retro_run.proofs.Summing.{generated_is_name}
use Rattle.retro_run.proofs.generated.count_rows.Goals as goal

pub returns-in-None : goal.returns-in-None
returns-in-None g c = absurd (some_is_not_none {x = generated_name} (sym generated_is_name ∙ sym c.read.ensures ∙ c.in-None.is))
