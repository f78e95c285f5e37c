use Rattle.std.proofs.Common.{◌≡◌, ◌-◌, take, drop, arith, subst, sym, IfOk}
use Rattle.std.specs.List.{slice_range}
use Rattle.pq_fusion.specs.Pieces.{tolerant}
use Rattle.pq_fusion.proofs.Pairs.{sizes, few, range_later, range_across}
use Rattle.pq_fusion.proofs.Prefixes.{sides_few, sides_are}
use Rattle.pq_fusion.proofs.Ranges.{take_size, drop_size}
use Rattle.pq_fusion.proofs.subtree.Subtree.+piece.Goals as goal

pub returns-then-from-before : goal.returns-then-from-before
returns-then-from-before t c =
    subst (λ rows. IfOk c.piece-then-from-before.result (λ piece. piece ≡ tolerant rows))
    (sym (range_later c.args.self.now.rows c.in-Pair.pair.now c.in-Pair.ensures c.len-before.result c.len-before.ensures.count c.args.from c.args.to c.if-from-before.true))
    c.piece-then-from-before.ensures

pub fuse-requires : goal.fuse-requires
fuse-requires t c =
    let rows = c.args.self.now.rows in
    let pair = c.in-Pair.pair.now in
    let to = c.args.to - c.len-before.result in
    record {
      few = sides_few (drop c.args.from pair.earlier.rows) (take to pair.later.rows) c.in_ok-first-in-Pair.first c.in_ok-prefix-in-Pair.field-0 c.in_ok-first-in-Pair.ensures c.in_ok-prefix-in-Pair.ensures
          (omega (arith, sizes rows pair c.in-Pair.ensures, few rows pair c.in-Pair.ensures, drop_size pair.earlier.rows c.args.from, take_size pair.later.rows to, c.requires.within, c.len-before.ensures.count, c.if-to-before.false));
    }

pub returns-in_ok-prefix-in-Pair : goal.returns-in_ok-prefix-in-Pair
returns-in_ok-prefix-in-Pair t c =
    let rows = c.args.self.now.rows in
    let pair = c.in-Pair.pair.now in
    subst (λ parts. IfOk c.fuse-in-Pair.result (λ piece. piece ≡ parts))
    (sides_are (drop c.args.from pair.earlier.rows) (take (c.args.to - c.len-before.result) pair.later.rows) c.in_ok-first-in-Pair.first c.in_ok-prefix-in-Pair.field-0
    c.in_ok-first-in-Pair.ensures c.in_ok-prefix-in-Pair.ensures (slice_range rows c.args.from c.args.to)
    (range_across rows pair c.in-Pair.ensures c.len-before.result c.len-before.ensures.count c.args.from c.args.to
    (omega (arith, c.if-from-before.false)) (omega (arith, c.if-to-before.false))))
    c.fuse-in-Pair.ensures
