use Rattle.std.proofs.Common.{◌≡◌, ap, ◌∙◌, rules}
use Rattle.monoid_laws.specs.Walk.{end_of}
use Rattle.prefix_trees.specs.Growth.{grown, sign_of}
use Rattle.prefix_trees.proofs.MeasuredRows.{size-is}
use Rattle.prefix_trees.proofs.line_rows.LineRows.size_at.Goals as goal

pub returns-clause-size : goal.returns-clause-size
returns-clause-size g c =
    let rows = c.self.inside.rows in
    let size : c.growth.result ≡ grown sign_of rows c.args.place = c.growth.ensures ∙ ap (λ w. end_of w.0) c.measure.ensures.value ∙ size-is rows c.args.place in
    rw (← c.self.view_is) (search (rules, size))
