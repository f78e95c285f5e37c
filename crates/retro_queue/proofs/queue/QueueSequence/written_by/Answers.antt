use Rattle.std.proofs.Common.{rules}
use Rattle.retro_queue.specs.FrontLaws.{found-by_counts}
use Rattle.retro_queue.proofs.queue.QueueSequence.written_by.Goals as goal

pub returns-clause-writer : goal.returns-clause-writer
returns-clause-writer g c =
    found-by_counts c.args.rows.now c.args.place c.args.index _ c.last_growing.result
    c.requires.replayable.of_kind c.requires.within c.requires.there (search rules) c.last_growing.ensures.last
