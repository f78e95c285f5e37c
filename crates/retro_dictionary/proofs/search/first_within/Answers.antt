use Rattle.std.proofs.Common.{◌≡◌, Some, None, IfNone, SFits, w64, [], rules}
use Rattle.std.proofs.lemmas.Int.{to_z-of_z}
use Rattle.retro_base.specs.Answers.{pairs_between}
use Rattle.retro_dictionary.proofs.RangeOfPairs.{none-inside}
use Rattle.retro_dictionary.proofs.search.first_within.Goals as goal

pub returns-in_err-pair-clause-none : goal.returns-in_err-pair-clause-none
returns-in_err-pair-clause-none c =
    let low_fits : SFits w64 c.args.range.low = search rules in
    let high_fits : SFits w64 c.args.range.high = search rules in
    let begins = simp to_z-of_z at c.count_below-place.ensures.below in
    let past = simp to_z-of_z at c.in_err-pair.ensures.none in
    let none : pairs_between c.args.range.low c.args.range.high c.args.items.now ≡ [] =
    none-inside c.args.items.now c.args.range.low c.args.range.high c.count_below-place.result (begins c.pair_up_to.ensures.number) c.requires.lawful.ordered past in
    elim c.from_residual.result as (λ result. IfNone result (pairs_between c.args.range.low c.args.range.high c.args.items.now ≡ [])) [ None ↦ none | Some _ ↦ tt ]
