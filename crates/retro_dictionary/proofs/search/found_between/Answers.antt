use Rattle.std.proofs.Common.{◌≡◌, ◌+◌, ◌-◌, ◌≤◌, suc, Some, SFits, length, slice_get, sym, ap, ◌∙◌, arith, rules}
use Rattle.std.specs.Int.{w128}
use Rattle.std.specs.List.{slice_range}
use Rattle.std.proofs.lemmas.Int.{to_z-of_z}
use Rattle.std.proofs.lemmas.Option.{slice_get_within}
use Rattle.retro_dictionary.specs.PairSearch.{found_of}
use Rattle.retro_dictionary.proofs.MeasuredPairs.{range_of_one, found, found_by_places}
use Rattle.retro_dictionary.proofs.search.found_between.Goals as goal

pub overflow_add-to : goal.overflow_add-to
overflow_add-to c = omega (arith, c.requires.lawful.few, slice_get_within c.args.items.now c.args.last.now.place c.args.last.now.pair c.requires.last)

pub returns-then-first-last : goal.returns-then-first-last
returns-then-first-last c =
    let same : c.args.first.now.place ≡ c.args.last.now.place = omega arith in
    c.found_of_one.ensures ∙ sym (ap found_of (ap (λ place. slice_range c.args.items.now c.args.first.now.place (suc place)) (sym same)
    ∙ range_of_one c.args.items.now c.args.first.now.place c.args.first.now.pair c.requires.first))

pub returns : goal.returns
returns c =
    let items = c.args.items.now in
    let from = c.args.first.now.place in
    let to = c.args.last.now.place + 1 in
    let fits : SFits w128 c.sum.result = search rules in
    let within : to ≤ length items = omega (arith, slice_get_within items c.args.last.now.place c.args.last.now.pair c.requires.last) in
    let last_is : slice_get items (to - 1) ≡ Some c.args.last.now.pair =
    ap (slice_get items) (let here : to - 1 ≡ c.args.last.now.place = omega arith in here) ∙ c.requires.last in
    ap (λ sum. found (to - from) sum (Some c.args.first.now.pair) (Some c.args.last.now.pair)) (to_z-of_z w128 c.sum.result fits)
    ∙ found_by_places items from to c.sum.result c.args.first.now.pair c.args.last.now.pair (omega arith) within
    (c.sum.ensures.value ∙ ap (λ measure. measure.sum) c.measure.ensures.value) fits c.requires.first last_is
    ∙ ap (λ end. found_of (slice_range items from end)) (let end : to ≡ suc c.args.last.now.place = omega arith in end)
