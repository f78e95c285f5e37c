use Rattle.std.proofs.Common.{◌∙◌, arith, Fits, w32, rules}
use Rattle.retro_base.specs.lemmas.bridges.StatedBridges.{first_found, one_first}
use Rattle.bridge_pq.specs.MarkedRows.{rows_of}
use Rattle.bridge_pq.proofs.Edited.{rows-length}
use Rattle.bridge_pq.proofs.FoundBridges.{lowest-after, next-bridge}
use Rattle.bridge_pq.proofs.row_search.first_bridge.Goals as goal

pub overflow_add-result : goal.overflow_add-result
overflow_add-result g c =
    let items = c.args.rows.now in
    let few : Fits w32 c.len.result = search rules in
    omega (
      arith,
      lowest-after items c.args.place c.len.result c.before_lowest.result c.measure-range.result c.requires.within c.len.ensures c.measure-range.ensures.value c.before_lowest.ensures,
      (next-bridge items c.requires.history c.requires.marked c.args.place c.requires.within).within,
      rows-length items,
      few,
      c.len.ensures,
    )

pub returns-clause-bridge : goal.returns-clause-bridge
returns-clause-bridge g c =
    let items = c.args.rows.now in
    lowest-after items c.args.place c.len.result c.before_lowest.result c.measure-range.result c.requires.within c.len.ensures c.measure-range.ensures.value c.before_lowest.ensures
    ∙ one_first (rows_of items) c.args.place _ _ (next-bridge items c.requires.history c.requires.marked c.args.place c.requires.within)
    (first_found (rows_of items) c.args.place (omega (arith, c.requires.within, rows-length items)))

pub returns-clause-within : goal.returns-clause-within
returns-clause-within g c =
    let items = c.args.rows.now in
    omega (
      arith,
      lowest-after items c.args.place c.len.result c.before_lowest.result c.measure-range.result c.requires.within c.len.ensures c.measure-range.ensures.value c.before_lowest.ensures,
      (next-bridge items c.requires.history c.requires.marked c.args.place c.requires.within).within,
      rows-length items,
    )
