use Rattle.std.proofs.Common.{refl, sym, ◌∙◌}
use Rattle.retro_base.specs.lemmas.Folds.{no_row}
use Rattle.retro_base.proofs.bridges.Search.{next_held, holds_next, first_here, first_next}
use Rattle.retro_base.proofs.bridge_search.first_bridge.Goals as goal

pub returns-then-dead-eq0-clause-bridge : goal.returns-then-dead-eq0-clause-bridge
returns-then-dead-eq0-clause-bridge c =
    sym (c.loop-index.invariant.none c.if-place-index.true
    ∙ first_here c.args.rows.now c.requires.history c.loop-index.index c.loop-index.dead c.loop-index.invariant.held c.if-dead-eq0.true c.loop-index-test.true)

pub dead_after-dead-requires-clause-held : goal.dead_after-dead-requires-clause-held
dead_after-dead-requires-clause-held c =
    next_held c.args.rows.now c.requires.history c.args.alive.now c.loop-index.index c.loop-index.dead _ no_row c.requires.alive c.loop-index.invariant.held c.loop-index-test.true refl

pub loop-index-preserved : goal.loop-index-preserved
loop-index-preserved c = record {
  held = holds_next c.args.rows.now c.requires.history c.args.alive.now c.loop-index.index c.loop-index.dead _ no_row c.requires.alive c.loop-index.invariant.held c.loop-index-test.true refl
      c.dead_after-dead.result c.dead_after-dead.ensures.weighs c.dead_after-dead.ensures.few;
  none = first_next c.args.rows.now c.requires.history c.args.place c.loop-index.index c.loop-index.dead c.loop-index.invariant.held c.loop-index-test.true c.loop-index.invariant.none c.else-place-index.either;
}
