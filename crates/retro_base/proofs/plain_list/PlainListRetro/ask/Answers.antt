use Rattle.retro_base.specs.PrefixLaws.{valid_take}
use Rattle.retro_base.proofs.plain_list.PlainListRetro.ask.Goals as goal

pub replayed-requires : goal.replayed-requires
replayed-requires c = rw (c.split_at.ensures.front, c.as_slice.ensures.value) (valid_take _ _ c.args.place c.self.invariant.replayable.valid)
