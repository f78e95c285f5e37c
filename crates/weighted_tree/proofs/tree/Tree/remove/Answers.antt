use Rattle.std.proofs.Common.{◌-◌, ◌++◌, ap, sym, ◌∙◌, arith, length, length-append}
use Rattle.std.specs.Prelude.{slice_get}
use Rattle.std.specs.List.{remove}
use Rattle.std.proofs.lemmas.List.Edits.{remove-append_left, remove-append_right}
use Rattle.weighted_tree.proofs.Appended.{get_beyond}
use Rattle.weighted_tree.proofs.Levels.{few-by_levels, few_in_leaf}
use Rattle.weighted_tree.proofs.Middles.{get-before}
use Rattle.weighted_tree.proofs.tree.Tree.remove.Goals as goal

pub returns-then-place-before-clause-item : goal.returns-then-place-before-clause-item
returns-then-place-before-clause-item g c =
    ap (λ xs. slice_get xs c.args.place) (sym c.self.view_is)
    ∙ get-before c.self.inside.root.items c.self.inside.tail c.args.place (omega arith)
    ∙ c.remove_below.ensures.item

pub returns-then-place-before-clause-items : goal.returns-then-place-before-clause-items
returns-then-place-before-clause-items g c =
    ap (λ xs. xs ++ c.self.inside.tail) c.remove_below.ensures.items
    ∙ sym (remove-append_left c.self.inside.root.items c.self.inside.tail c.args.place (omega arith))
    ∙ ap (λ xs. remove xs c.args.place) c.self.view_is

pub returns-then-place-before-clause-visits : goal.returns-then-place-before-clause-visits
returns-then-place-before-clause-visits g c =
    let same = ap length c.self.view_is in
    few-by_levels _ _ _ _ (omega arith) (omega (arith, length-append c.self.inside.root.items c.self.inside.tail)) (omega arith) c.remove_below.ensures.visits

pub returns-else-place-before-clause-item : goal.returns-else-place-before-clause-item
returns-else-place-before-clause-item g c =
    ap (λ xs. slice_get xs c.args.place) (sym c.self.view_is)
    ∙ get_beyond c.self.inside.root.items c.self.inside.tail c.args.place (omega arith)
    ∙ ap (λ n. slice_get c.self.inside.tail (c.args.place - n)) (sym c.len-before.ensures.count)
    ∙ c.remove.ensures.item

pub returns-else-place-before-clause-items : goal.returns-else-place-before-clause-items
returns-else-place-before-clause-items g c =
    ap (λ xs. c.self.inside.root.items ++ xs) c.remove.ensures.items
    ∙ sym (remove-append_right c.self.inside.root.items c.self.inside.tail c.len-before.result c.args.place (sym c.len-before.ensures.count) (omega arith))
    ∙ ap (λ xs. remove xs c.args.place) c.self.view_is

pub returns-else-place-before-clause-visits : goal.returns-else-place-before-clause-visits
returns-else-place-before-clause-visits g c = few_in_leaf _ _ _ (omega arith) (omega arith)
