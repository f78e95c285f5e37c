use Rattle.std.proofs.Common.{◌≡◌, ◌-◌, ◌++◌, length, take, refl, ap, subst, ◌∙◌, sym, arith, IfOk}
use Rattle.retro_base.specs.EntriesInOrder.{AreInOrder}
use Rattle.pq_fusion.specs.Pieces.{PieceParts, size_of, tolerant}
use Rattle.pq_fusion.proofs.FromRows.{tolerant_rise}
use Rattle.pq_fusion.proofs.Pairs.{sizes, few, take_later}
use Rattle.pq_fusion.proofs.Prefixes.{none_left, sides_are}
use Rattle.pq_fusion.proofs.Ranges.{take_all, take_size}
use Rattle.pq_fusion.proofs.Sizes.{left_size, rows_size}
use Rattle.pq_fusion.proofs.subtree.Subtree.+remaining.Goals as goal

pub returns-in-None : goal.returns-in-None
returns-in-None t c = c.new.ensures.items ∙ sym (none_left c.args.self.now.rows c.args.to c.in-None.ensures)

pub left_after-requires-clause-order : goal.left_after-requires-clause-order
left_after-requires-clause-order t c =
    subst AreInOrder (sym (c.as_slice.ensures.value ∙ c.in_ok-first-in-Pair.ensures)) (tolerant_rise (take c.len-own.result c.in-Pair.pair.now.earlier.rows)).left

pub left_after-requires-clause-few : goal.left_after-requires-clause-few
left_after-requires-clause-few t c =
    let rows = c.args.self.now.rows in
    let pair = c.in-Pair.pair.now in
    let first = take c.len-own.result pair.earlier.rows in
    let rest = take (c.args.to - c.len-own.result) pair.later.rows in
    omega (
      arith,
      ap length (c.as_slice.ensures.value ∙ c.in_ok-first-in-Pair.ensures),
      left_size first (tolerant first) refl,
      take_size pair.earlier.rows c.len-own.result,
      ap size_of c.in_ok-second-in-Pair.ensures,
      rows_size rest,
      take_size pair.later.rows (c.args.to - c.len-own.result),
      sizes rows pair c.in-Pair.ensures,
      few rows pair c.in-Pair.ensures,
      c.requires,
      c.len-own.ensures.count,
      c.if-to-own.false,
    )

pub returns-in_ok-first-in-Pair : goal.returns-in_ok-first-in-Pair
returns-in_ok-first-in-Pair t c =
    let rows = c.args.self.now.rows in
    let pair = c.in-Pair.pair.now in
    let own = c.len-own.result in
    let first = take own pair.earlier.rows in
    let rest = take (c.args.to - own) pair.later.rows in
    let parted : take c.args.to rows ≡ first ++ rest =
    take_later rows pair c.in-Pair.ensures own c.len-own.ensures.count c.args.to (omega (arith, c.if-to-own.false))
    ∙ ap (λ l. l ++ rest) (sym (take_all pair.earlier.rows own c.len-own.ensures.count)) in
    subst (λ (parts : PieceParts). IfOk c.left_after.result (λ left. left.items ≡ parts.left))
    (sides_are first rest (tolerant first) c.in_ok-second-in-Pair.second refl c.in_ok-second-in-Pair.ensures (take c.args.to rows) parted)
    (c.left_after.ensures (tolerant first) (c.as_slice.ensures.value ∙ c.in_ok-first-in-Pair.ensures))
