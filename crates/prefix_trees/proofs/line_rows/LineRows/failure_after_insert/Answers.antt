use Rattle.std.proofs.Common.{rules, w8, to_z, of_z}
use Rattle.prefix_trees.proofs.RowFailures.{with_none, with_row}
use Rattle.prefix_trees.proofs.line_rows.LineRows.failure_after_insert.Goals as goal

pub returns-clause-first : goal.returns-clause-first
returns-clause-first g c =
    with_row c.args.self.now c.requires.never c.args.place _ c.args.op c.first_at_most.result (search rules) c.requires.within c.first_at_most.ensures.first

pub returns-then-sign_of-ge0-clause-first : goal.returns-then-sign_of-ge0-clause-first
returns-then-sign_of-ge0-clause-first g c =
    with_none c.args.self.now c.args.place c.args.op (to_z w8 (of_z w8 c.sign_of.result)) c.requires.never c.requires.within (search rules) c.if-sign_of-ge0.true
