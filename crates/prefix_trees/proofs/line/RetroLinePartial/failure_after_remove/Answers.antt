use Rattle.prefix_trees.proofs.LineAnswers.{never, fails-without}
use Rattle.prefix_trees.proofs.line.RetroLinePartial.failure_after_remove.Goals as goal

pub failure_after_remove-requires-clause-never : goal.failure_after_remove-requires-clause-never
failure_after_remove-requires-clause-never g c = never g.S.Sequence.kind c.self.inside.rows g.met.S.Sequence.is_line c.self.invariant

pub returns-clause-first : goal.returns-clause-first
returns-clause-first g c = rw (← c.self.view_is) (
    fails-without g.S.Sequence.kind c.self.inside.rows g.met.S.Sequence.is_line c.self.invariant c.args.place c.failure_after_remove.result c.failure_after_remove.ensures.first)
