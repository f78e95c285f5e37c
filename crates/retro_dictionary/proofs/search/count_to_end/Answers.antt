use Rattle.std.proofs.Common.{◌≡◌, ◌-◌, ◌≤ℤ◌, Some, SFits, w64, slice_get, get_or, subst, sym, arith, rules}
use Rattle.std.proofs.lemmas.Int.{ints, to_z-of_z}
use Rattle.std.proofs.lemmas.Option.{slice_get-get_or, slice_get_within}
use Rattle.retro_dictionary.specs.declared.search.Bound.TheVariants.{UpTo}
use Rattle.retro_dictionary.specs.Bounds.{StandUpTo}
use Rattle.retro_dictionary.proofs.RangeOfPairs.{all_up_to, before_end, not_above}
use Rattle.retro_dictionary.proofs.search.count_to_end.Goals as goal

pub returns-then-range-eq9223372036854775807-clause-up_to : goal.returns-then-range-eq9223372036854775807-clause-up_to
returns-then-range-eq9223372036854775807-clause-up_to c = λ number.
    let items = c.args.items.now in
    let place = c.len.result - 1 in
    let last = get_or items place c.args.first.now.pair in
    let some = slice_get_within items c.args.first.now.place c.args.first.now.pair c.requires.first.there in
    let there : slice_get items place ≡ Some last = slice_get-get_or items place c.args.first.now.pair (omega (arith, c.len.ensures, some)) in
    let greatest : last.0 ≤ℤ c.args.range.high = omega (arith, ints, (number last there).1) in
    subst (StandUpTo (UpTo c.args.range.high) items) (sym c.len.ensures)
    (all_up_to (UpTo c.args.range.high) items place last c.requires.lawful.ordered there (omega (arith, c.len.ensures, some)) (not_above c.args.range.high last greatest))

pub returns-clause-past : goal.returns-clause-past
returns-clause-past c =
    let high_fits : SFits w64 c.args.range.high = search rules in
    let up_to = simp to_z-of_z at c.count_up_to.ensures.up_to in
    before_end (UpTo c.args.range.high) c.args.items.now c.count_up_to.result c.args.first.now.place c.args.first.now.pair up_to c.requires.first.there c.requires.first.reached
