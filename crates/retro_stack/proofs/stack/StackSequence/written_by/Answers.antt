use Rattle.std.proofs.Common.{rules}
use Rattle.retro_stack.specs.TopLaws.{found-by_depth}
use Rattle.retro_stack.proofs.stack.StackSequence.written_by.Goals as goal

pub returns-clause-writer : goal.returns-clause-writer
returns-clause-writer g c =
    found-by_depth c.args.rows.now c.args.place c.args.index _ c.last_growing.result
    c.requires.replayable.of_kind c.requires.within c.requires.there (search rules) c.last_growing.ensures.last
