use Rattle.std.proofs.Common.{◌≡◌, ◌<◌, length, get_or, get_or-take, subst, sym, arith}
use Rattle.retro_base.specs.Bridges.{last_bridge}
use Rattle.retro_base.specs.lemmas.Folds.{no_row}
use Rattle.retro_base.proofs.bridges.Search.{next_held, holds_next, last_here, last_before, last_at_end}
use Rattle.retro_base.proofs.bridge_search.last_bridge.Goals as goal
use Rattle.retro_base.proofs.bridge_search.last_bridge.Goals.{then-dead-eq0, else-dead-eq0}

pub returns-then-place-rows-clause-bridge : goal.returns-then-place-rows-clause-bridge
returns-then-place-rows-clause-bridge c = subst (λ n. n ≡ last_bridge c.args.rows.now n) (sym c.if-place-rows.true) (sym (last_at_end c.args.rows.now))

pub dead_after-dead-requires-clause-held : goal.dead_after-dead-requires-clause-held
dead_after-dead-requires-clause-held c =
    let inside : c.loop-index.index < length c.args.rows.now = omega (arith, c.split_at.ensures.front_len) in
    let at : get_or c.split_at.result.0.now c.loop-index.index no_row ≡ get_or c.args.rows.now c.loop-index.index no_row =
    rw c.split_at.ensures.front (get_or-take c.args.place c.args.rows.now c.loop-index.index no_row (omega (arith, c.split_at.ensures.front_len))) in
    next_held c.args.rows.now c.requires.history c.args.alive.now c.loop-index.index c.loop-index.dead _ no_row c.requires.alive c.loop-index.invariant.held inside at

pub loop-index-preserved : goal.loop-index-preserved
loop-index-preserved c =
    let inside : c.loop-index.index < length c.args.rows.now = omega (arith, c.split_at.ensures.front_len) in
    let at : get_or c.split_at.result.0.now c.loop-index.index no_row ≡ get_or c.args.rows.now c.loop-index.index no_row =
    rw c.split_at.ensures.front (get_or-take c.args.place c.args.rows.now c.loop-index.index no_row (omega (arith, c.split_at.ensures.front_len))) in
    let held = holds_next c.args.rows.now c.requires.history c.args.alive.now c.loop-index.index c.loop-index.dead _ no_row c.requires.alive c.loop-index.invariant.held inside at
    c.dead_after-dead.result c.dead_after-dead.ensures.weighs c.dead_after-dead.ensures.few in
    elim c.if-dead-eq0.branch [
      | then-dead-eq0 w ↦ record {
        held = held;
        last = rw w.bridge-is (last_here c.args.rows.now c.requires.history c.loop-index.index c.dead_after-dead.result held w.if-dead-eq0.true);
        within = rw w.bridge-is (omega arith);
      }
      | else-dead-eq0 w ↦ record {
        held = held;
        last = rw w.bridge-is (last_before c.args.rows.now c.requires.history c.loop-index.index c.dead_after-dead.result c.loop-index.bridge held w.if-dead-eq0.false c.loop-index.invariant.last);
        within = rw w.bridge-is (omega (arith, c.loop-index.invariant.within));
      }
    ]
