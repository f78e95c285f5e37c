use Rattle.std.proofs.Common.{◌≡◌, ◌≤◌, length, take, Ok, arith, length-take}
use Rattle.retro_base.specs.Content.{state_of}
use Rattle.retro_base.specs.State.{empty}
use Rattle.retro_base.specs.Replay.{run}
use Rattle.retro_base.specs.Answers.{content}
use Rattle.retro_base.specs.Kind.{kind_of}
use Rattle.retro_base.specs.PrefixLaws.{valid_take}
use Rattle.retro_base.specs.lemmas.Replayable.{all_before}
use Rattle.retro_base.specs.lemmas.Counted.{content_few}
use Rattle.retro_base.proofs.plain_list.PlainListRetro.all.Goals as goal

pub replayed-requires : goal.replayed-requires
replayed-requires c = rw (c.split_at.ensures.front, c.as_slice.ensures.value) (valid_take _ _ c.args.place c.self.invariant.replayable.valid)

pub listing-requires-2 : goal.listing-requires-2
listing-requires-2 c =
    let e : run (take c.args.place c.self.inside.rows.items) (empty c.self.inside.kind) ≡ Ok (state_of c.in_ok-state.state) =
    rw (c.split_at.ensures.front, c.as_slice.ensures.value) at c.in_ok-state.ensures in
    let few : length (content (state_of c.in_ok-state.state)) ≤ length (take c.args.place c.self.inside.rows.items) =
    content_few _ _ _ (all_before (λ r. kind_of r.op ≡ c.self.inside.kind) _ c.args.place c.self.invariant.replayable.of_kind) e in
    omega (arith, few, length-take c.args.place c.self.inside.rows.items, c.self.invariant.replayable.few)

pub listing-requires : goal.listing-requires
listing-requires c =
    let few : length (content (state_of c.self.inside.present)) ≤ length c.self.inside.rows.items =
    content_few _ _ _ c.self.invariant.replayable.of_kind c.self.invariant.kept in
    omega (arith, few, c.self.invariant.replayable.few)
