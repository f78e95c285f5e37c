use Rattle.std.proofs.Common.{◌≡◌, ◌-ℤ◌, ◌||◌, ◌∙◌, ap, rules}
use Rattle.std.specs.List.{slice_range}
use Rattle.std.specs.Int.Signed.{le_z}
use Rattle.monoid_laws.specs.Walk.{height_of}
use Rattle.prefix_trees.specs.declared.growth.End.TheVariants.{Left, Right}
use Rattle.monoid_laws.specs.SuffixSumLaws.{keeps}
use Rattle.prefix_trees.specs.Growth.{grown, growths, left_growth, right_growth}
use Rattle.prefix_trees.specs.Walks.{walk_at}
use Rattle.prefix_trees.proofs.MeasuredRows.{walks_of}
use Rattle.prefix_trees.proofs.FoundPlaces.{end-keeps, by_either, either-falls, finds-either}
use Rattle.prefix_trees.proofs.line_rows.LineRows.last_growing_at_either.Goals as goal

pub returns-clause-last : goal.returns-clause-last
returns-clause-last g c =
    let rows = c.self.inside.rows in
    let to = c.args.to in
    let left = grown left_growth rows to -ℤ c.args.at_left in
    let right = grown right_growth rows to -ℤ c.args.at_right in
    rw (← c.self.view_is) (finds-either rows to left right c.last_place.result (c.last_place.ensures.last (by_either rows to left right)
    (λ place answer above within call.
    let walks = walks_of (slice_range rows place to) in
    let reported : answer ≡ (le_z c.args.at_left (height_of (walk_at Left walks)) || le_z c.args.at_right (height_of (walk_at Right walks))) = search rules in
    reported
    ∙ ap (λ b. b || le_z c.args.at_right (height_of (walk_at Right walks))) (end-keeps Left rows place to c.args.at_left)
    ∙ ap (λ b. keeps (growths left_growth rows) to left place || b) (end-keeps Right rows place to c.args.at_right))
    (either-falls rows to left right)))
