use Rattle.std.proofs.Common.{◌≡◌, ◌-ℤ◌, ◌∙◌, rules}
use Rattle.std.specs.List.{slice_range}
use Rattle.std.specs.Int.Signed.{le_z}
use Rattle.monoid_laws.specs.SuffixSumLaws.{keeps, keeps-falls}
use Rattle.monoid_laws.specs.Walk.{height_of}
use Rattle.prefix_trees.specs.Growth.{grown, growths, growth_at}
use Rattle.prefix_trees.specs.Walks.{walk_at}
use Rattle.prefix_trees.proofs.MeasuredRows.{walks_of}
use Rattle.prefix_trees.proofs.FoundPlaces.{finds-last, end-keeps}
use Rattle.prefix_trees.proofs.line_rows.LineRows.last_growing.Goals as goal

pub returns-clause-last : goal.returns-clause-last
returns-clause-last g c =
    let end = c.args.end in
    let rows = c.self.inside.rows in
    let to = c.args.to in
    let count = c.args.count in
    let sums = growths (growth_at end) rows in
    let value = grown (growth_at end) rows to -ℤ count in
    rw (← c.self.view_is) (finds-last (growth_at end) rows value to c.last_place.result (c.last_place.ensures.last (keeps sums to value)
    (λ place answer above within call.
    let reported : answer ≡ le_z count (height_of (walk_at end (walks_of (slice_range rows place to)))) = search rules in
    reported ∙ end-keeps end rows place to count)
    (λ place earlier order within holds. keeps-falls sums to value place earlier order within holds)))
