use Rattle.std.proofs.Common.{rules, ◌+◌, ◌-◌, ◌∙◌, ap, arith, map, take, drop, length}
use Rattle.std.proofs.lemmas.List.{length-set}
use Rattle.weighted_tree.specs.Reads.{overwritten}
use Rattle.weighted_tree.proofs.Descents.{sizes_of}
use Rattle.weighted_tree.proofs.WrittenItems.{drop_right, written_none, written_left, written_both, read_right, read_left, read_both}
use Rattle.weighted_tree.proofs.subtree.Subtree.+read.Goals as goal

pub returns-then-from-len-clause-items : goal.returns-then-from-len-clause-items
returns-then-from-len-clause-items g t c = λ shows tells. written_none shows c.args.items.now c.args.filled (drop c.args.from c.args.self.now.items)

pub read-requires : goal.read-requires
read-requires g t c κs within =
    let node = c.in-Some.node.now in
    let sizes = sizes_of c.args.self.now.items node.left.items node.right.items node.item c.in-Some.ensures.0.items_are in
    search rules

pub returns-then-from-before-clause-end : goal.returns-then-from-before-clause-end
returns-then-from-before-clause-end g t c =
    let node = c.in-Some.node.now in
    let sizes = sizes_of c.args.self.now.items node.left.items node.right.items node.item c.in-Some.ensures.0.items_are in
    omega arith

pub returns-then-from-before-clause-items : goal.returns-then-from-before-clause-items
returns-then-from-before-clause-items g t c =
    let node = c.in-Some.node.now in
    let rest = drop_right c.args.self.now.items node.left.items node.right.items node.item c.in-Some.ensures.0.items_are c.args.from (c.args.from - c.len-before.result - 1) (omega arith) (omega arith) in
    λ shows tells. c.read.ensures.items shows tells ∙ ap (λ xs. overwritten c.args.items.now c.args.filled (map shows (take (c.read.result - c.args.filled) xs))) rest

pub returns-then-from-before-clause-visits : goal.returns-then-from-before-clause-visits
returns-then-from-before-clause-visits g t c =
    let node = c.in-Some.node.now in
    let sizes = sizes_of c.args.self.now.items node.left.items node.right.items node.item c.in-Some.ensures.0.items_are in
    read_right c.args.self.now node _ _ c.in-Some.ensures.0 c.in-Some.ensures.1 c.args.from
    (length c.args.self.now.items - c.args.from - (c.read.result - c.args.filled)) _ _ _ _ (omega arith) (omega arith) c.read.ensures.visits

pub read-end-requires : goal.read-end-requires
read-end-requires g t c κs within =
    let node = c.in-Some.node.now in
    let sizes = sizes_of c.args.self.now.items node.left.items node.right.items node.item c.in-Some.ensures.0.items_are in
    search rules

pub returns-then-end-items-clause-end : goal.returns-then-end-items-clause-end
returns-then-end-items-clause-end g t c =
    let node = c.in-Some.node.now in
    let sizes = sizes_of c.args.self.now.items node.left.items node.right.items node.item c.in-Some.ensures.0.items_are in
    omega arith

pub returns-then-end-items-clause-items : goal.returns-then-end-items-clause-items
returns-then-end-items-clause-items g t c =
    let node = c.in-Some.node.now in
    λ shows tells. c.read-end.ensures.items shows tells ∙ ap (λ xs. overwritten c.args.items.now c.args.filled (map shows xs))
    (written_left c.args.self.now.items node.left.items node.right.items node.item c.in-Some.ensures.0.items_are c.args.from (c.read-end.result - c.args.filled) (omega arith) (omega arith))

pub returns-then-end-items-clause-visits : goal.returns-then-end-items-clause-visits
returns-then-end-items-clause-visits g t c =
    let node = c.in-Some.node.now in
    let sizes = sizes_of c.args.self.now.items node.left.items node.right.items node.item c.in-Some.ensures.0.items_are in
    read_left c.args.self.now node _ _ c.in-Some.ensures.0 c.in-Some.ensures.1 c.args.from (length c.args.self.now.items - c.args.from - (c.read-end.result - c.args.filled)) _ _ _ (omega arith) c.read-end.ensures.visits

pub read-requires-2 : goal.read-requires-2
read-requires-2 g t c κs within =
    let node = c.in-Some.node.now in
    let sizes = sizes_of c.args.self.now.items node.left.items node.right.items node.item c.in-Some.ensures.0.items_are in
    search rules

pub returns-clause-end : goal.returns-clause-end
returns-clause-end g t c =
    let node = c.in-Some.node.now in
    let sizes = sizes_of c.args.self.now.items node.left.items node.right.items node.item c.in-Some.ensures.0.items_are in
    omega (arith, length-set c.read-end.new.items c.read-end.result c.show.result)

pub returns-clause-items : goal.returns-clause-items
returns-clause-items g t c =
    let node = c.in-Some.node.now in
    λ shows tells. written_both c.args.self.now.items node.left.items node.right.items node.item c.in-Some.ensures.0.items_are shows c.args.items.now
    c.read-end.new.items c.read-2.new.items c.args.filled c.args.from c.read-end.result c.read-2.result
    c.requires.room (omega arith) (omega arith) (omega arith) (omega arith) (c.read-end.ensures.items shows tells)
    (rw (← tells node.item _ c.show.ensures) (c.read-2.ensures.items shows tells))

pub returns-clause-visits : goal.returns-clause-visits
returns-clause-visits g t c =
    let node = c.in-Some.node.now in
    let sizes = sizes_of c.args.self.now.items node.left.items node.right.items node.item c.in-Some.ensures.0.items_are in
    read_both c.args.self.now node _ _ c.in-Some.ensures.0 c.in-Some.ensures.1 c.args.from (length c.args.self.now.items - c.args.from - (c.read-2.result - c.args.filled)) _
    (length node.left.items - c.args.from - (c.read-end.result - c.args.filled)) (c.read-end.result - c.args.filled) _ (c.read-2.result - (c.read-end.result + 1)) _ (c.read-2.result - c.args.filled)
    (omega arith) (omega arith) (omega arith) c.read-end.ensures.visits c.read-2.ensures.visits
