use Rattle.std.proofs.Common.{rules, ◌≡◌, ◌-◌, refl, arith, ◌∙◌, ◌∷◌, ◌++◌, ap, sym, subst, length}
use Rattle.std.specs.List.{remove}
use Rattle.std.specs.Prelude.{slice_get, Some}
use Rattle.weighted_tree.specs.Nodes.{nodes_of, part_of, node_items, IsSound}
use Rattle.weighted_tree.proofs.InPlace.{root_of}
use Rattle.weighted_tree.proofs.Levels.{level_left, level_right}
use Rattle.weighted_tree.proofs.Middles.{get-before, get-middle, get-after, remove-before, remove-middle, remove-after, next-then-rest}
use Rattle.weighted_tree.proofs.Told.{told_without}
use Rattle.weighted_tree.proofs.subtree.Subtree.+remove_below.Goals as goal
use Rattle.weighted_tree.proofs.subtree.Subtree.+remove_below.Goals.{then-place-before, else-place-before+then-place-before-2, else-place-before+else-place-before-2+then-len-gt0}

pub returns-in_default : goal.returns-in_default
returns-in_default g t c =
    let done = c.remove_in_leaf.ensures in
    let part : c.args.self.now.nodes ≡ 0 = search rules in
    let leaf : nodes_of c.self.inside.link ≡ 0 = ap (λ part. part.nodes) c.self.view_is ∙ part in
    rw (← c.self.view_is) (record {
      item = done.item;
      items = done.items;
      shrinks = record { no_less = omega (arith, leaf, done.leaf); no_more = omega (arith, leaf, done.leaf) };
      few = omega (arith, leaf);
      some = omega (arith, done.visit);
      visits = λ levels within. omega (arith, done.visit);
    })

pub settle_told-requires-clause-told : goal.settle_told-requires-clause-told
settle_told-requires-clause-told g t c =
    let node = c.in-Full.closed.node.value in
    let opened = c.deref_mut-node.ensures.value ∙ ap (λ b. b.value) c.open_mut.ensures.node in
    let before = ap (λ n. length n.left.items) opened in
    let sound = subst (IsSound g.T.Measure.Monoid.unit_value g.T.Measure.Monoid.joined g.T.Measured.measured) c.in-Full.is c.self.invariant in
    let there : slice_get (node_items node) c.args.place ≡ Some c.if-place-before.item =
    elim c.if-place-before.branch [
      | then-place-before w ↦ get-before node.left.items (node.item ∷ node.right.items) c.args.place (omega arith)
          ∙ ap (λ n. slice_get n.left.items c.args.place) (sym opened) ∙ w.remove_below-item.ensures.item ∙ ap Some (sym w.item-is)
      | else-place-before+then-place-before-2 w ↦
          let place : c.args.place - length node.left.items - 1 ≡ c.args.place - c.len-before.result - 1 = omega arith in
          get-after node.left.items node.right.items node.item c.args.place (omega arith) ∙ ap (slice_get node.right.items) place
          ∙ ap (λ n. slice_get n.right.items (c.args.place - c.len-before.result - 1)) (sym opened) ∙ w.remove_below.ensures.item ∙ ap Some (sym w.item-is)
      | else-place-before+else-place-before-2+then-len-gt0 w ↦
          let place : c.args.place ≡ length node.left.items = omega arith in
          ap (slice_get (node_items node)) place ∙ get-middle node.left.items node.right.items node.item ∙ ap (λ n. Some n.item) (sym opened) ∙ ap Some (sym w.replace.ensures.value ∙ sym w.item-is)
    ] in
    let new : node_items c.if-place-before.node ≡ remove (node_items node) c.args.place =
    elim c.if-place-before.branch [
      | then-place-before w ↦ rw (w.node-is, w.remove_below-item.ensures.items, opened) (sym (remove-before node.left.items node.right.items node.item c.args.place (omega arith)))
      | else-place-before+then-place-before-2 w ↦
          let place : c.args.place - c.len-before.result - 1 ≡ c.args.place - length node.left.items - 1 = omega arith in
          rw (w.node-is, w.remove_below.ensures.items, opened, place) (sym (remove-after node.left.items node.right.items node.item c.args.place (omega arith)))
      | else-place-before+else-place-before-2+then-len-gt0 w ↦
          let place : length node.left.items ≡ c.args.place = omega arith in
          let next = w.remove_below-next.result in
          rw (w.node-is, w.replace.ensures.after, w.remove_below-next.ensures.items, opened) (ap (λ xs. node.left.items ++ xs) (next-then-rest node.right.items next (ap (λ n. slice_get n.right.items 0) (sym opened) ∙ w.remove_below-next.ensures.item))
          ∙ sym (remove-middle node.left.items node.right.items node.item)
          ∙ ap (λ k. remove (node_items node) k) place)
    ] in
    told_without g.met.T.Measure.Monoid.laws g.T.Measured.measured (node_items node) (node_items c.if-place-before.node) c.args.place
    c.in-Full.measure sound.measure_is c.without-told.result c.if-place-before.item there c.measure.result c.measure.ensures new c.without-told.ensures.rest

pub returns-clause-item : goal.returns-clause-item
returns-clause-item g t c =
    let node = c.in-Full.closed.node.value in
    let opened = c.deref_mut-node.ensures.value ∙ ap (λ b. b.value) c.open_mut.ensures.node in
    let before = ap (λ n. length n.left.items) opened in
    let there = ap (λ part. slice_get part.items c.args.place) (sym c.self.view_is ∙ ap part_of c.in-Full.is) in
    elim c.if-place-before.branch [
      | then-place-before w ↦ there ∙ get-before node.left.items (node.item ∷ node.right.items) c.args.place (omega arith)
          ∙ ap (λ n. slice_get n.left.items c.args.place) (sym opened) ∙ w.remove_below-item.ensures.item ∙ ap Some (sym w.item-is)
      | else-place-before+then-place-before-2 w ↦
          let place : c.args.place - length node.left.items - 1 ≡ c.args.place - c.len-before.result - 1 = omega arith in
          there ∙ get-after node.left.items node.right.items node.item c.args.place (omega arith) ∙ ap (slice_get node.right.items) place
          ∙ ap (λ n. slice_get n.right.items (c.args.place - c.len-before.result - 1)) (sym opened) ∙ w.remove_below.ensures.item ∙ ap Some (sym w.item-is)
      | else-place-before+else-place-before-2+then-len-gt0 w ↦
          let place : c.args.place ≡ length node.left.items = omega arith in
          there ∙ ap (slice_get (node_items node)) place ∙ get-middle node.left.items node.right.items node.item ∙ ap (λ n. Some n.item) (sym opened) ∙ ap Some (sym w.replace.ensures.value ∙ sym w.item-is)
    ]

pub returns-clause-items : goal.returns-clause-items
returns-clause-items g t c =
    let node = c.in-Full.closed.node.value in
    let opened = c.deref_mut-node.ensures.value ∙ ap (λ b. b.value) c.open_mut.ensures.node in
    let before = ap (λ n. length n.left.items) opened in
    let whole = ap (λ part. remove part.items c.args.place) (sym (ap part_of c.in-Full.is) ∙ c.self.view_is) in
    elim c.if-place-before.branch [
      | then-place-before w ↦
          let new : node_items c.if-place-before.node ≡ remove node.left.items c.args.place ++ node.item ∷ node.right.items = rw (w.node-is, w.remove_below-item.ensures.items, opened) refl in
          c.settle_told.ensures.items ∙ new ∙ sym (remove-before node.left.items node.right.items node.item c.args.place (omega arith)) ∙ whole
      | else-place-before+then-place-before-2 w ↦
          let place : c.args.place - c.len-before.result - 1 ≡ c.args.place - length node.left.items - 1 = omega arith in
          let new : node_items c.if-place-before.node ≡ node.left.items ++ node.item
          ∷ remove node.right.items (c.args.place - length node.left.items - 1) = rw (w.node-is, w.remove_below.ensures.items, opened, place) refl in
          c.settle_told.ensures.items ∙ new ∙ sym (remove-after node.left.items node.right.items node.item c.args.place (omega arith)) ∙ whole
      | else-place-before+else-place-before-2+then-len-gt0 w ↦
          let place : length node.left.items ≡ c.args.place = omega arith in
          let next = w.remove_below-next.result in
          let new : node_items c.if-place-before.node ≡ node.left.items ++ next ∷ remove node.right.items 0 = rw (w.node-is, w.replace.ensures.after, w.remove_below-next.ensures.items, opened) refl in
          c.settle_told.ensures.items ∙ new
          ∙ ap (λ xs. node.left.items ++ xs) (next-then-rest node.right.items next (ap (λ n. slice_get n.right.items 0) (sym opened) ∙ w.remove_below-next.ensures.item))
          ∙ sym (remove-middle node.left.items node.right.items node.item)
          ∙ ap (λ k. remove (node_items node) k) place
          ∙ whole
    ]

pub returns-clause-visits : goal.returns-clause-visits
returns-clause-visits g t c =
    let node = c.in-Full.closed.node.value in
    let opened = c.deref_mut-node.ensures.value ∙ ap (λ b. b.value) c.open_mut.ensures.node in
    let sound = subst (IsSound g.T.Measure.Monoid.unit_value g.T.Measure.Monoid.joined g.T.Measured.measured) c.in-Full.is c.self.invariant in
    let root = root_of sound (sym (ap part_of c.in-Full.is) ∙ c.self.view_is) in
    elim c.if-place-before.branch [
      | then-place-before w ↦ level_left _ node _ _ _ _ root c.open_mut.ensures.visit (rw opened at w.remove_below-item.ensures.visits) (omega arith)
      | else-place-before+then-place-before-2 w ↦ level_right _ node _ _ _ _ root c.open_mut.ensures.visit (rw opened at w.remove_below.ensures.visits) (omega arith)
      | else-place-before+else-place-before-2+then-len-gt0 w ↦ level_right _ node _ _ _ _ root c.open_mut.ensures.visit (rw opened at w.remove_below-next.ensures.visits) (omega arith)
    ]
