use Rattle.std.proofs.Common.{◌+◌, ◌-◌, ap, arith, length, length-append}
use Rattle.weighted_tree.proofs.Appended.{written_beyond, written_on}
use Rattle.weighted_tree.proofs.WrittenItems.{few_by_read, few_by_leaf, few_by_both}
use Rattle.weighted_tree.proofs.tree.Tree.read.Goals as goal

pub returns-then-count-eq0-clause-visits : goal.returns-then-count-eq0-clause-visits
returns-then-count-eq0-clause-visits g c =
    let same = ap length c.self.view_is in
    few_by_read _ _ _ _ (c.args.steps.now + (c.read.result - 0)) _ _ (omega arith) (omega arith)
    (omega (arith, length-append c.self.inside.root.items c.self.inside.tail)) (omega (arith, c.read.ensures.each)) c.read.ensures.visits

pub returns-then-from-before-clause-items : goal.returns-then-from-before-clause-items
returns-then-from-before-clause-items g c = λ shows tells.
    let read = c.read-then-from-before in
    written_beyond c.self.inside.root.items c.self.inside.tail shows c.args.items.now _ _ c.leaf-tail.ensures.items c.self.view_is c.args.from
    read.new.items (c.args.from - c.len-before.result) read.result (omega arith) (omega arith) (read.ensures.items shows tells)

pub returns-then-from-before-clause-visits : goal.returns-then-from-before-clause-visits
returns-then-from-before-clause-visits g c =
    let read = c.read-then-from-before in
    few_by_leaf _ _ _ _ (c.args.steps.now + (read.result - 0)) _ _ (omega arith)
    (omega (arith, c.leaf-tail.ensures.nodes)) (omega (arith, read.ensures.each)) read.ensures.visits

pub returns-clause-items : goal.returns-clause-items
returns-clause-items g c = λ shows tells.
    written_on c.self.inside.root.items c.self.inside.tail shows c.args.items.now _ _ c.leaf-tail.ensures.items c.self.view_is c.args.from
    c.read-end.new.items c.read-2.new.items c.read-end.result c.read-2.result (omega arith) (omega arith) (omega arith) (omega arith) (λ short. omega arith)
    (c.read-end.ensures.items shows tells) (c.read-2.ensures.items shows tells)

pub returns-clause-visits : goal.returns-clause-visits
returns-clause-visits g c =
    let same = ap length c.self.view_is in
    let more = c.read-2.result - c.read-end.result in
    few_by_both _ _ _ _ _ (length c.leaf-tail.result.now.items - 0 - more) 0 c.args.steps.now c.read-end.new.steps _ _ (omega arith)
    (omega (arith, length-append c.self.inside.root.items c.self.inside.tail)) (omega (arith, c.leaf-tail.ensures.nodes))
    (omega (arith, c.read-end.ensures.each, c.read-2.ensures.each)) (c.read-end.result - 0) more (omega arith) c.read-end.ensures.visits c.read-2.ensures.visits
