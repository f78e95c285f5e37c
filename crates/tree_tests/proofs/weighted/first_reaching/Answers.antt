use Rattle.std.proofs.Common.{◌≡◌, pos, map, take, ap, ◌∙◌, length, rules}
use Rattle.std.specs.List.{slice_range}
use Rattle.std.specs.Int.Signed.{le_z}
use Rattle.monoid_laws.specs.Summed.{sum_of, no_sum, joined_sum, one_sum}
use Rattle.monoid_laws.specs.Measure.{measure_of}
use Rattle.tree_tests.proofs.PrefixSums.{sum-prefix, prefix-rises}
use Rattle.tree_tests.proofs.weighted.first_reaching.Goals as goal

pub returns : goal.returns
returns g c =
    let items = c.args.tree.now in
    c.first_place.ensures.first
    (λ place. le_z c.args.goal (sum_of (map (λ piece. pos piece.size) (take place items))))
    (λ place answer above within call.
    let told : answer ≡ le_z c.args.goal (measure_of no_sum joined_sum (λ piece. one_sum (pos piece.size)) (slice_range items 0 place)).sum = search rules in
    told ∙ ap (le_z c.args.goal) (sum-prefix (λ piece. piece.size) items place))
    (prefix-rises (λ piece. piece.size) c.args.goal items 0 (length items))
