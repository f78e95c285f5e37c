use Rattle.std.proofs.Common.{arith}
use Rattle.retro_base.specs.lemmas.Folds.{no_row, comes_to_start, comes_to_next, comes_to_possible, comes_to_end}
use Rattle.retro_base.proofs.content.Content.perform_all.Goals as goal

pub perform-requires : goal.perform-requires
perform-requires c = comes_to_possible no_row c.loop-row.invariant (omega arith) c.requires

pub loop-row-init : goal.loop-row-init
loop-row-init c = comes_to_start _

pub loop-row-preserved : goal.loop-row-preserved
loop-row-preserved c = comes_to_next no_row c.loop-row.invariant (omega arith) c.in_ok-perform.ensures.ok

pub returns : goal.returns
returns c = comes_to_end c.loop-row.invariant (omega arith)
