use Rattle.std.proofs.Common.{◌≡◌, ◌+ℤ◌, ◌∙◌, ap, sym, rules}
use Rattle.std.specs.List.{slice_range}
use Rattle.std.specs.Int.Signed.{le_z}
use Rattle.monoid_laws.specs.Walk.{lowest_of}
use Rattle.prefix_trees.specs.SignPrefixes.{signs_of, prefix}
use Rattle.prefix_trees.specs.SignWalks.{falls_to}
use Rattle.prefix_trees.proofs.MeasuredSigns.{walks_of, range-walk}
use Rattle.monoid_laws.specs.PrefixSumLaws.{reaches-rises}
use Rattle.prefix_trees.proofs.sign_tree.SignTree.first_falling.Goals as goal

pub returns-clause-first : goal.returns-clause-first
returns-clause-first g c =
    let items = c.self.inside.signs in
    let from = c.args.from in
    let value = c.args.value in
    let start : c.prefix.result ≡ prefix items from = c.prefix.ensures.sum ∙ ap (λ xs. prefix xs from) (sym c.self.view_is) in
    rw (← c.self.view_is) (c.first_place.ensures.first (falls_to items from value)
    (λ place answer above within call.
    let reported : answer ≡ le_z (c.prefix.result +ℤ lowest_of (walks_of (slice_range items from place)).0) value = search rules in
    reported
    ∙ ap (λ s. le_z (s +ℤ lowest_of (walks_of (slice_range items from place)).0) value) start
    ∙ ap (λ w. le_z (prefix items from +ℤ lowest_of w) value) (range-walk items from place))
    (λ place later above order within holds. reaches-rises (signs_of items) from value place later above order holds))
