use Rattle.std.proofs.Common.{◌≡◌, ◌-◌, take, arith, subst, IfOk}
use Rattle.pq_fusion.proofs.Pairs.{sizes, few, take_later}
use Rattle.pq_fusion.proofs.Prefixes.{sides_few, sides_are}
use Rattle.pq_fusion.proofs.Ranges.{take_size}
use Rattle.pq_fusion.proofs.subtree.Subtree.+prefix.Goals as goal

pub fuse-requires : goal.fuse-requires
fuse-requires t c =
    let rows = c.args.self.now.rows in
    let pair = c.in-Pair.pair.now in
    let rest = take (c.args.to - c.len-before.result) pair.later.rows in
    record {
      few = sides_few pair.earlier.rows rest c.in_ok-whole-in-Pair.field-0 c.in_ok-second-in-Pair.second c.in_ok-whole-in-Pair.ensures c.in_ok-second-in-Pair.ensures
          (omega (arith, sizes rows pair c.in-Pair.ensures, few rows pair c.in-Pair.ensures, take_size pair.later.rows (c.args.to - c.len-before.result), c.requires, c.len-before.ensures.count, c.if-to-before.false));
    }

pub returns-in_ok-whole-in-Pair : goal.returns-in_ok-whole-in-Pair
returns-in_ok-whole-in-Pair t c =
    let rows = c.args.self.now.rows in
    let pair = c.in-Pair.pair.now in
    let rest = take (c.args.to - c.len-before.result) pair.later.rows in
    subst (λ parts. IfOk c.fuse-in-Pair.result (λ piece. piece ≡ parts))
    (sides_are pair.earlier.rows rest c.in_ok-whole-in-Pair.field-0 c.in_ok-second-in-Pair.second c.in_ok-whole-in-Pair.ensures c.in_ok-second-in-Pair.ensures (take c.args.to rows)
    (take_later rows pair c.in-Pair.ensures c.len-before.result c.len-before.ensures.count c.args.to (omega (arith, c.if-to-before.false))))
    c.fuse-in-Pair.ensures
