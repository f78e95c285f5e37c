use Rattle.std.proofs.Common.{ap, ◌∙◌}
use Rattle.retro_base.specs.Kind.{kind_of}
use Rattle.prefix_trees.proofs.LineAnswers.{never, fails-with}
use Rattle.prefix_trees.proofs.line.RetroLinePartial.failure_after_insert.Goals as goal

pub failure_after_insert-requires-clause-never : goal.failure_after_insert-requires-clause-never
failure_after_insert-requires-clause-never g c = never g.S.Sequence.kind c.self.inside.rows g.met.S.Sequence.is_line c.self.invariant

pub returns-clause-first : goal.returns-clause-first
returns-clause-first g c = rw (← c.self.view_is) (λ row same.
    fails-with g.S.Sequence.kind c.self.inside.rows g.met.S.Sequence.is_line c.self.invariant c.args.place row c.failure_after_insert.result
    (ap kind_of same ∙ c.requires.of_kind) (c.failure_after_insert.ensures.first row same))
