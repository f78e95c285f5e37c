use Rattle.std.proofs.Common.{◌≡◌, ◌∙◌, ap, pos, length, arith}
use Rattle.std.proofs.lemmas.Int.{ints}
use Rattle.std.specs.List.{slice_range}
use Rattle.bridge_pq.specs.MarkedEntries.{present_in}
use Rattle.bridge_pq.proofs.EntryPlaces.{measures_in, size-reported}
use Rattle.bridge_pq.proofs.entry_tree.count_present.Goals as goal

pub returns-clause-size : goal.returns-clause-size
returns-clause-size g c =
    let size : pos c.present.result ≡ pos (length (present_in c.args.entries.now)) =
    c.present.ensures ∙ ap (λ m. m.sum) c.measure.ensures.value ∙ ap (λ n. (measures_in (slice_range c.args.entries.now 0 n)).sum) c.len.ensures ∙ size-reported c.args.entries.now in
    let counted : c.present.result ≡ length (present_in c.args.entries.now) = omega (arith, ints, size) in
    counted
