use Rattle.std.proofs.Common.{◌≤◌, ◌-◌, ◌++◌, ◌∷◌, ap, ◌∙◌, arith, length, length-append}
use Rattle.std.proofs.lemmas.List.{append-nil}
use Rattle.std.proofs.lemmas.List.Edits.{length-insert}
use Rattle.weighted_tree.specs.Balance.{weight}
use Rattle.weighted_tree.proofs.Appended.{insert_beyond, inserted_beyond}
use Rattle.weighted_tree.proofs.InPlace.{no_shorter}
use Rattle.weighted_tree.proofs.Levels.{few-by_levels, few_in_leaf, few_beside}
use Rattle.weighted_tree.proofs.tree.Tree.insert.Goals as goal
use Rattle.weighted_tree.proofs.tree.Tree.insert.Goals.{then-place-before-via-then-place-before, then-place-before-via-else-place-before+then-count-eq0}

pub returns-then-place-before-clause-visits : goal.returns-then-place-before-clause-visits
returns-then-place-before-clause-visits g c =
    let same = ap length c.self.view_is in
    let sizes = length-append c.self.inside.root.items c.self.inside.tail in
    let within : c.args.place ≤ length c.self.inside.root.items = elim c.then-place-before.branch [
      | then-place-before-via-then-place-before w ↦ omega arith
      | then-place-before-via-else-place-before+then-count-eq0 w ↦ omega arith
    ] in
    let longer = no_shorter c.insert_below.result c.self.inside.root c.insert_below.new.self c.args.place c.args.item within c.insert_below.ensures.ok c.insert_below.ensures.err in
    few-by_levels _ _ _ _ (omega arith) (omega (arith, length-append c.insert_below.new.self.items c.self.inside.tail)) c.insert_below.ensures.none_lost c.insert_below.ensures.visits

pub returns-then-count-full-clause-ok : goal.returns-then-count-full-clause-ok
returns-then-count-full-clause-ok g c =
    inserted_beyond c.self.inside.root.items c.self.inside.tail c.insert.result c.insert.new.self c.args.self.now c.args.place _ c.args.item
    c.self.view_is (omega arith) (omega arith) c.insert.ensures.ok

pub returns-then-count-full-clause-visits : goal.returns-then-count-full-clause-visits
returns-then-count-full-clause-visits g c = few_in_leaf _ _ _ (omega arith) (omega arith)

pub returns-in_err-node-clause-visits : goal.returns-in_err-node-clause-visits
returns-in_err-node-clause-visits g c = few_in_leaf _ _ _ c.take_node.ensures.none_lost (omega arith)

pub append_below-requires-clause-fits : goal.append_below-requires-clause-fits
append_below-requires-clause-fits g c =
    let same = ap length c.self.view_is in
    let sizes = length-append c.self.inside.root.items c.self.inside.tail in
    omega (
      arith,
      ap length c.in_ok-node.ensures.ok,
      length-insert c.self.inside.tail (c.args.place - c.len-before.result) c.args.item (omega arith),
    )

pub returns-clause-ok : goal.returns-clause-ok
returns-clause-ok g c =
    ap (λ xs. c.append_below.new.self.items ++ xs) c.in_ok-node.ensures.rest
    ∙ append-nil c.append_below.new.self.items
    ∙ c.append_below.ensures.items
    ∙ ap (λ xs. c.self.inside.root.items ++ xs) c.in_ok-node.ensures.ok
    ∙ insert_beyond c.self.inside.root.items c.self.inside.tail c.args.self.now c.args.place (c.args.place - c.len-before.result) c.args.item c.self.view_is (omega arith) (omega arith)

pub returns-clause-visits : goal.returns-clause-visits
returns-clause-visits g c =
    let node = c.in_ok-node.node.value in
    let longer = ap length c.append_below.ensures.items in
    few_beside (weight c.self.inside.root) _ _ _ (omega arith)
    (omega (
      arith,
      longer,
      length-append c.self.inside.root.items (node.item ∷ node.right.items),
      length-append c.append_below.new.self.items c.take_node.new.self,
      c.append_below.ensures.few,
    ))
    (omega (arith, c.append_below.ensures.none_lost, c.take_node.ensures.none_lost))
    (λ levels within. omega (arith, c.append_below.ensures.visits levels within, c.take_node.ensures.visits))
