use Rattle.std.proofs.Common.{◌≡◌, ◌∙◌, pos, rules}
use Rattle.std.specs.List.{slice_range}
use Rattle.std.specs.Int.Signed.{lt_z}
use Rattle.bridge_pq.proofs.EntryPlaces.{measures_in, has_more, more-reported, more-rises, found_end}
use Rattle.bridge_pq.proofs.entry_tree.end_of_present.Goals as goal

pub returns-clause-end : goal.returns-clause-end
returns-clause-end g c =
    found_end c.args.entries.now c.args.index c.first_place.result (c.first_place.ensures.first (has_more c.args.entries.now c.args.index) (λ place answer above within call.
    let reported : answer ≡ lt_z (pos c.args.index) (measures_in (slice_range c.args.entries.now 0 place)).sum = search rules in
    reported ∙ more-reported c.args.entries.now c.args.index place)
    (more-rises c.args.entries.now c.args.index))
