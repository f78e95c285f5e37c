use Rattle.std.proofs.Common.{◌≡◌, ◌+◌, ◌-◌, ◌∙◌, ap, arith, map, take, drop}
use Rattle.weighted_tree.specs.Reads.{overwritten}
use Rattle.weighted_tree.proofs.subtree.Subtree.read_leaf.Goals as goal

pub returns-clause-items : goal.returns-clause-items
returns-clause-items g c = λ shows tells.
    let count : c.min-count.result ≡ c.args.filled + c.min-count.result - c.args.filled = omega arith in
    c.read_in.ensures.items shows tells
    ∙ ap (λ n. overwritten c.args.items.now c.args.filled (map shows (take n (drop c.args.from c.in-Some.leaf.now)))) count
    ∙ ap (λ xs. overwritten c.args.items.now c.args.filled (map shows (take (c.args.filled + c.min-count.result - c.args.filled) (drop c.args.from xs)))) c.in-Some.ensures.0
