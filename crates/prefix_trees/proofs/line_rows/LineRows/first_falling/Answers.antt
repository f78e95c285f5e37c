use Rattle.std.proofs.Common.{◌≡◌, ◌+ℤ◌, ◌∙◌, ap, sym, rules}
use Rattle.std.specs.List.{slice_range}
use Rattle.std.specs.Int.Signed.{le_z}
use Rattle.monoid_laws.specs.PrefixSumLaws.{reaches, reaches-rises}
use Rattle.monoid_laws.specs.Walk.{lowest_of}
use Rattle.prefix_trees.specs.Growth.{grown, growths, sign_of}
use Rattle.prefix_trees.proofs.MeasuredRows.{walks_of, range-whole}
use Rattle.prefix_trees.proofs.FoundPlaces.{finds-first}
use Rattle.prefix_trees.proofs.line_rows.LineRows.first_falling.Goals as goal

pub returns-clause-first : goal.returns-clause-first
returns-clause-first g c =
    let rows = c.self.inside.rows in
    let from = c.args.from in
    let value = c.args.value in
    let sums = growths sign_of rows in
    let start : c.args.start ≡ grown sign_of rows from = c.requires.start ∙ ap (λ xs. grown sign_of xs from) (sym c.self.view_is) in
    rw (← c.self.view_is) (finds-first sign_of rows value from c.first_place.result (c.first_place.ensures.first (reaches sums from value)
    (λ place answer above within call.
    let reported : answer ≡ le_z (c.args.start +ℤ lowest_of (walks_of (slice_range rows from place)).0) value = search rules in
    reported
    ∙ ap (λ s. le_z (s +ℤ lowest_of (walks_of (slice_range rows from place)).0) value) start
    ∙ ap (λ w. le_z (grown sign_of rows from +ℤ lowest_of w) value) (range-whole rows from place))
    (λ place later above order within holds. reaches-rises sums from value place later above order holds)))
