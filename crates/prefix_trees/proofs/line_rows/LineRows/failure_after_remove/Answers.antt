use Rattle.std.proofs.Common.{rules, w8, to_z, of_z}
use Rattle.prefix_trees.proofs.RowFailures.{without_none, without_nothing, without_some, two_on, within_rest}
use Rattle.prefix_trees.proofs.line_rows.LineRows.failure_after_remove.Goals as goal

pub returns-in_err-later-clause-first : goal.returns-in_err-later-clause-first
returns-in_err-later-clause-first g c =
    rw c.from_residual.ensures
    (without_none c.args.self.now c.requires.never c.args.place _ c.row_at-row.result (search rules) c.requires.within (search rules) c.in_err-later.ensures.first)

pub overflow_sub-result : goal.overflow_sub-result
overflow_sub-result g c =
    two_on c.args.self.now c.requires.never c.args.place _ c.row_at-row.result (search rules) c.requires.within (search rules) c.in_ok-later.later c.in_ok-later.ensures.first

pub returns-clause-first : goal.returns-clause-first
returns-clause-first g c =
    without_some c.args.self.now c.requires.never c.args.place _ c.row_at-row.result (search rules) c.requires.within (search rules) c.in_ok-later.later c.in_ok-later.ensures.first

pub returns-clause-index : goal.returns-clause-index
returns-clause-index g c =
    within_rest c.args.self.now c.requires.never c.args.place _ c.row_at-row.result (search rules) c.requires.within (search rules) c.in_ok-later.later c.in_ok-later.ensures.first

pub returns-then-sign_of-le0-clause-first : goal.returns-then-sign_of-le0-clause-first
returns-then-sign_of-le0-clause-first g c =
    without_nothing c.args.self.now c.args.place c.row_at-row.result (to_z w8 (of_z w8 c.sign_of.result)) c.requires.never (search rules) c.requires.within (search rules) c.if-sign_of-le0.true
