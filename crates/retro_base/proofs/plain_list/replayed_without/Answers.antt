use Rattle.std.proofs.Common.{◌≡◌, suc, take, drop, add-one, Ok}
use Rattle.retro_base.specs.Content.{state_of}
use Rattle.retro_base.specs.State.{step, empty}
use Rattle.retro_base.specs.Replay.{run}
use Rattle.retro_base.specs.lemmas.Folds.{front_possible, after_possible, both_parts}
use Rattle.retro_base.proofs.plain_list.replayed_without.Goals as goal

pub perform_all-requires : goal.perform_all-requires
perform_all-requires c = rw (c.split_at.ensures.front, c.new-content.ensures) (front_possible step _ (drop (suc c.args.place) c.args.rows.now) _ c.requires.valid)

pub perform_all-requires-2 : goal.perform_all-requires-2
perform_all-requires-2 c =
    let e : run (take c.args.place c.args.rows.now) (empty c.args.kind) ≡ Ok (state_of c.perform_all.new.self) =
    rw (c.split_at.ensures.front, c.new-content.ensures) at c.in_ok-perform_all.ensures in
    rw (c.split_at-2.ensures.back, add-one) (after_possible step _ _ _ _ e c.requires.valid)

pub returns : goal.returns
returns c =
    let e : run (take c.args.place c.args.rows.now) (empty c.args.kind) ≡ Ok (state_of c.perform_all.new.self) =
    rw (c.split_at.ensures.front, c.new-content.ensures) at c.in_ok-perform_all.ensures in
    both_parts step _ _ _ _ _ e (rw (c.split_at-2.ensures.back, add-one) at c.in_ok-perform_all-2.ensures)
