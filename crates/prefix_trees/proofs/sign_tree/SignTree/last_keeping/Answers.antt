use Rattle.std.proofs.Common.{◌≡◌, ◌-ℤ◌, ◌∙◌, ap, sym, rules}
use Rattle.std.specs.List.{slice_range}
use Rattle.std.specs.Int.Signed.{le_z}
use Rattle.monoid_laws.specs.SuffixSumLaws.{keeps-falls}
use Rattle.monoid_laws.specs.Walk.{height_of}
use Rattle.prefix_trees.specs.SignPrefixes.{signs_of, prefix}
use Rattle.prefix_trees.specs.SignWalks.{keeps_at}
use Rattle.prefix_trees.proofs.MeasuredSigns.{walks_of, range-walk}
use Rattle.prefix_trees.proofs.sign_tree.SignTree.last_keeping.Goals as goal

pub returns-clause-last : goal.returns-clause-last
returns-clause-last g c =
    let items = c.self.inside.signs in
    let to = c.args.to in
    let value = c.args.value in
    let end : c.prefix.result ≡ prefix items to = c.prefix.ensures.sum ∙ ap (λ xs. prefix xs to) (sym c.self.view_is) in
    rw (← c.self.view_is) (c.last_place.ensures.last (keeps_at items to value)
    (λ place answer above within call.
    let reported : answer ≡ le_z (c.prefix.result -ℤ height_of (walks_of (slice_range items place to)).0) value = search rules in
    reported
    ∙ ap (λ s. le_z (s -ℤ height_of (walks_of (slice_range items place to)).0) value) end
    ∙ ap (λ w. le_z (prefix items to -ℤ height_of w) value) (range-walk items place to))
    (λ place earlier order within holds. keeps-falls (signs_of items) to value place earlier order within holds))
