use Rattle.std.proofs.Common.{◌∙◌, ap, sym, arith}
use Rattle.retro_base.specs.Bridges.{first_bridge}
use Rattle.evidence_check.specs.Marks.{rows_of}
use Rattle.evidence_check.proofs.Weighing.{first_at_start, first_is}
use Rattle.evidence_check.proofs.rows.first_bridge.Goals as goal

pub returns-then-place-eq0-clause-bridge : goal.returns-then-place-eq0-clause-bridge
returns-then-place-eq0-clause-bridge g c =
    first_at_start c.weights_count_the_dead.ensures.count c.args.rows.now c.requires.kept ∙ ap (first_bridge (rows_of c.args.rows.now)) (sym c.if-place-eq0.true)

pub returns-else-place-eq0-clause-bridge : goal.returns-else-place-eq0-clause-bridge
returns-else-place-eq0-clause-bridge g c =
    first_is c.weights_count_the_dead.ensures.count c.args.rows.now c.requires.kept c.args.place c.first_zero.result (omega arith) c.requires.within c.first_zero.ensures
