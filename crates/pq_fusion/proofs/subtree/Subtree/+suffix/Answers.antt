use Rattle.std.proofs.Common.{◌≡◌, drop, arith, subst, sym, IfOk}
use Rattle.pq_fusion.specs.Pieces.{tolerant}
use Rattle.pq_fusion.proofs.Pairs.{sizes, few, drop_earlier, drop_later}
use Rattle.pq_fusion.proofs.Prefixes.{sides_few, sides_are}
use Rattle.pq_fusion.proofs.Ranges.{drop_size}
use Rattle.pq_fusion.proofs.subtree.Subtree.+suffix.Goals as goal

pub returns-then-from-before : goal.returns-then-from-before
returns-then-from-before t c =
    subst (λ rows. IfOk c.suffix.result (λ piece. piece ≡ tolerant rows))
    (sym (drop_later c.args.self.now.rows c.in-Pair.pair.now c.in-Pair.ensures c.len-before.result c.len-before.ensures.count c.args.from c.if-from-before.true))
    c.suffix.ensures

pub fuse-requires : goal.fuse-requires
fuse-requires t c =
    let rows = c.args.self.now.rows in
    let pair = c.in-Pair.pair.now in
    record {
      few = sides_few (drop c.args.from pair.earlier.rows) pair.later.rows c.in_ok-first-in-Pair.first c.in_ok-whole-in-Pair.field-0 c.in_ok-first-in-Pair.ensures c.in_ok-whole-in-Pair.ensures
          (omega (arith, sizes rows pair c.in-Pair.ensures, few rows pair c.in-Pair.ensures, drop_size pair.earlier.rows c.args.from));
    }

pub returns-in_ok-whole-in-Pair : goal.returns-in_ok-whole-in-Pair
returns-in_ok-whole-in-Pair t c =
    let rows = c.args.self.now.rows in
    let pair = c.in-Pair.pair.now in
    subst (λ parts. IfOk c.fuse-in-Pair.result (λ piece. piece ≡ parts))
    (sides_are (drop c.args.from pair.earlier.rows) pair.later.rows c.in_ok-first-in-Pair.first c.in_ok-whole-in-Pair.field-0 c.in_ok-first-in-Pair.ensures c.in_ok-whole-in-Pair.ensures (drop c.args.from rows)
    (drop_earlier rows pair c.in-Pair.ensures c.len-before.result c.len-before.ensures.count c.args.from (omega (arith, c.if-from-before.false))))
    c.fuse-in-Pair.ensures
