use Rattle.std.proofs.Common.{suc, ap, ◌∙◌, arith}
use Rattle.retro_dictionary.specs.PairSearch.{found_of}
use Rattle.retro_dictionary.proofs.RangeOfPairs.{slice-inside}
use Rattle.retro_dictionary.proofs.search.found_in.Goals as goal

pub returns : goal.returns
returns c =
    let first = c.in-Some.ensures.some in
    let last = c.last_within-last.ensures.last in
    c.found_between.ensures
    ∙ ap found_of (slice-inside c.args.items.now c.args.range.low c.args.range.high c.in-Some.first.place first.begins (suc c.last_within-last.result.place) last.ends
    (omega (arith, c.last_within-last.ensures.order)))
