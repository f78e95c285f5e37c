use Rattle.std.proofs.Common.{rules}
use Rattle.retro_deque.specs.EndLaws.{found-by_ends}
use Rattle.retro_deque.proofs.deque.DequeSequence.written_by.Goals as goal

pub returns-clause-writer : goal.returns-clause-writer
returns-clause-writer g c =
    found-by_ends c.args.rows.now c.args.place c.args.index _ _ c.last_growing_at_either.result
    c.requires.replayable.of_kind c.requires.within c.requires.there (search rules) (search rules) c.last_growing_at_either.ensures.last
