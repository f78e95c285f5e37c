use Rattle.std.proofs.Common.{◌≡◌, ◌-◌, ◌≤◌, length, ap, ◌∙◌, arith, subst, rules}
use Rattle.std.specs.Prelude.{nat_le}
use Rattle.std.specs.List.{slice_range}
use Rattle.std.proofs.lemmas.List.{length-map}
use Rattle.weighted_tree.specs.Search.{IsLastOrNone}
use Rattle.bridge_pq.specs.Dips.{Dip, place_in, is_lowest_up_to}
use Rattle.bridge_pq.specs.EntryOrder.{entry_order}
use Rattle.bridge_pq.specs.MarkedRows.{weights_of}
use Rattle.bridge_pq.proofs.FoundBridges.{lowest-falls}
use Rattle.bridge_pq.proofs.LowestPlaces.{lowest-by-end}
use Rattle.bridge_pq.proofs.RowExtremes.{range-after}
use Rattle.bridge_pq.proofs.RowMeasures.{measures_of, dip-after}
use Rattle.bridge_pq.proofs.row_search.last_lowest.Goals as goal

pub returns-clause-last : goal.returns-clause-last
returns-clause-last g c =
    let items = c.args.rows.now in
    let to = c.args.to in
    let weights : length (weights_of items) ≡ length items = simp length-map in
    subst (λ end. IsLastOrNone (is_lowest_up_to (weights_of items) to) end c.last_place.result) c.len-2.ensures
    (c.last_place.ensures.last (is_lowest_up_to (weights_of items) to)
    (λ place answer above within call.
    let inside : place ≤ length items = omega (arith, within, c.len-2.ensures) in
    let reported : answer ≡ nat_le (c.len.result - to) ((measures_of entry_order (slice_range items place c.len-2.result)).0.items - place_in
    (measures_of entry_order (slice_range items place c.len-2.result)).0.low) = search rules in
    reported
    ∙ ap (λ n. nat_le (n - to) ((measures_of entry_order (slice_range items place c.len-2.result)).0.items - place_in
    (measures_of entry_order (slice_range items place c.len-2.result)).0.low)) (c.len.ensures ∙ simp length-map)
    ∙ ap (λ (d : Dip). nat_le (length (weights_of items) - to) (d.items - place_in d.low))
    (ap (λ end. (measures_of entry_order (slice_range items place end)).0) c.len-2.ensures ∙ ap (λ l. (measures_of entry_order l).0) (range-after items place inside) ∙ dip-after entry_order items place)
    ∙ lowest-by-end (weights_of items) to place (omega (arith, inside, weights)) (omega (arith, c.requires, weights)))
    (λ place earlier order within holds. lowest-falls (weights_of items) to place earlier order holds))
