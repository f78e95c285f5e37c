use Rattle.std.proofs.Common.{ap, ◌∙◌}
use Rattle.std.specs.List.{slice_range}
use Rattle.bridge_pq.specs.EntryOrder.{entry_order}
use Rattle.bridge_pq.proofs.RowMeasures.{alive_of, alive-part}
use Rattle.bridge_pq.proofs.RowExtremes.{found-least}
use Rattle.bridge_pq.proofs.row_search.least_survivor.Goals as goal

pub returns-clause-survivor : goal.returns-clause-survivor
returns-clause-survivor g c =
    let items = c.args.rows.now in
    let is = ap (λ m. m.1.1) c.measure-range.ensures.value ∙ alive-part entry_order (slice_range items 0 c.args.bridge) in
    found-least items c.requires.marked c.args.bridge c.alive_offset.result (c.alive_offset.ensures (alive_of (slice_range items 0 c.args.bridge)) is)
