use Rattle.std.proofs.Common.{ap, ◌∙◌, ◌++◌, arith, length, length-append}
use Rattle.std.specs.Prelude.{slice_get}
use Rattle.weighted_tree.specs.Balance.{weight}
use Rattle.weighted_tree.proofs.Appended.{finds_in_tail, finds_in_root, finds_alone}
use Rattle.weighted_tree.proofs.Levels.{few-by_levels, few_beside, few_in_leaf, few_of_one}
use Rattle.weighted_tree.proofs.tree.Tree.partition_point.Goals as goal

pub returns-then-count-eq0-clause-partition : goal.returns-then-count-eq0-clause-partition
returns-then-count-eq0-clause-partition g c =
    finds_alone g.F.Fn c.args.test c.self.inside.root.items c.self.inside.tail c.args.self.now c.self.view_is _ (omega arith) (omega arith) c.partition_point.ensures.partition

pub returns-then-count-eq0-clause-visits : goal.returns-then-count-eq0-clause-visits
returns-then-count-eq0-clause-visits g c =
    let same = ap length c.self.view_is in
    few-by_levels _ _ _ _ (omega arith) (omega (arith, length-append c.self.inside.root.items c.self.inside.tail)) (omega arith)
    (few_of_one _ _ _ c.partition_point.ensures.visits)

pub returns-then-passes-clause-partition : goal.returns-then-passes-clause-partition
returns-then-passes-clause-partition g c =
    let root = c.self.inside.root.items in
    let part = c.leaf.ensures.items in
    finds_in_tail g.F.Fn c.args.test root c.leaf.result.now.items c.args.self.now (ap (λ xs. root ++ xs) part ∙ c.self.view_is) _ _ _
    (ap (λ xs. slice_get xs 0) part ∙ c.item_at.ensures.item) c.passes.ensures c.if-passes.true (omega arith) c.partition_point-then-passes.ensures.partition _ (omega arith)

pub returns-then-passes-clause-visits : goal.returns-then-passes-clause-visits
returns-then-passes-clause-visits g c =
    few_in_leaf _ _ _ (omega arith) (omega (arith, c.partition_point-then-passes.ensures.visits 0 (omega (arith, c.leaf.ensures.nodes))))

pub returns-clause-partition : goal.returns-clause-partition
returns-clause-partition g c =
    finds_in_root g.F.Fn c.args.test c.self.inside.root.items c.self.inside.tail c.args.self.now c.self.view_is _ _ _
    c.item_at.ensures.item c.passes.ensures c.if-passes.false (omega arith) c.partition_point-2.ensures.partition

pub returns-clause-visits : goal.returns-clause-visits
returns-clause-visits g c =
    let same = ap length c.self.view_is in
    few_beside (weight c.self.inside.root) _ _ _ (omega arith) (omega (arith, length-append c.self.inside.root.items c.self.inside.tail)) (omega arith)
    (λ levels within. omega (arith, c.partition_point-2.ensures.visits levels within))
