use Rattle.std.proofs.Common.{rules, ◌≡◌, ◌+◌, ◌-◌, refl, arith, ◌∙◌, ◌∷◌, ◌++◌, ap, sym, subst, length}
use Rattle.std.specs.List.{insert}
use Rattle.monoids.specs.MeasureLaws.{items-measure_of}
use Rattle.weighted_tree.specs.Balance.{IsUpToOneMore}
use Rattle.weighted_tree.specs.Nodes.{nodes_of, part_of, node_items, node_count, IsSound}
use Rattle.weighted_tree.proofs.InPlace.{root_of}
use Rattle.weighted_tree.proofs.Levels.{level_left, level_right}
use Rattle.weighted_tree.proofs.Middles.{insert-before, insert-after}
use Rattle.weighted_tree.proofs.Told.{told_with}
use Rattle.weighted_tree.proofs.subtree.Subtree.+insert_below.Goals as goal
use Rattle.weighted_tree.proofs.subtree.Subtree.+insert_below.Goals.{then-place-before+in_ok-insert_below, else-place-before+in_ok-insert_below-2}

pub returns-in_default : goal.returns-in_default
returns-in_default g t c =
    let done = c.insert_in_leaf.ensures in
    let part : c.args.self.now.nodes ≡ 0 = search rules in
    let leaf : nodes_of c.self.inside.link ≡ 0 = ap (λ part. part.nodes) c.self.view_is ∙ part in
    rw (← c.self.view_is) (record {
      ok = done.ok;
      grows = done.grows;
      err = done.err;
      few = omega (arith, leaf);
      none_lost = done.none_lost;
      some = done.some;
      none = done.none;
      visits = λ levels within. omega (arith, done.visits);
    })

pub returns-in_err-insert_below-clause-visits : goal.returns-in_err-insert_below-clause-visits
returns-in_err-insert_below-clause-visits g t c =
    let node = c.in-Full.closed.node.value in
    let opened = c.deref_mut-node.ensures.value ∙ ap (λ b. b.value) c.open_mut.ensures.node in
    let sound = subst (IsSound g.T.Measure.Monoid.unit_value g.T.Measure.Monoid.joined g.T.Measured.measured) c.in-Full.is c.self.invariant in
    let root = root_of sound (sym (ap part_of c.in-Full.is) ∙ c.self.view_is) in
    level_left _ node _ _ c.insert_below.new.steps _ root c.open_mut.ensures.visit (rw opened at c.insert_below.ensures.visits) (omega arith)

pub returns-in_err-insert_below-2-clause-visits : goal.returns-in_err-insert_below-2-clause-visits
returns-in_err-insert_below-2-clause-visits g t c =
    let node = c.in-Full.closed.node.value in
    let opened = c.deref_mut-node.ensures.value ∙ ap (λ b. b.value) c.open_mut.ensures.node in
    let sound = subst (IsSound g.T.Measure.Monoid.unit_value g.T.Measure.Monoid.joined g.T.Measured.measured) c.in-Full.is c.self.invariant in
    let root = root_of sound (sym (ap part_of c.in-Full.is) ∙ c.self.view_is) in
    level_right _ node _ _ c.insert_below-else-place-before.new.steps _ root c.open_mut.ensures.visit (rw opened at c.insert_below-else-place-before.ensures.visits) (omega arith)

pub with-told-requires : goal.with-told-requires
with-told-requires g t c =
    let sound = subst (IsSound g.T.Measure.Monoid.unit_value g.T.Measure.Monoid.joined g.T.Measured.measured) c.in-Full.is c.self.invariant in
    omega (
      arith,
      ap g.T.Measure.Monoid.items_of sound.measure_is ∙ items-measure_of g.met.T.Measure.Monoid.laws g.T.Measured.measured g.met.T.Measured.single (node_items c.in-Full.closed.node.value),
      ap g.T.Measure.Monoid.items_of c.measure.ensures ∙ g.met.T.Measured.single c.args.item,
      ap (λ part. length part.items) (sym (ap part_of c.in-Full.is) ∙ c.self.view_is),
      c.requires.fits,
    )

pub settle_told-requires-clause-told : goal.settle_told-requires-clause-told
settle_told-requires-clause-told g t c =
    let node = c.in-Full.closed.node.value in
    let item = c.args.item in
    let opened = c.deref_mut-node.ensures.value ∙ ap (λ b. b.value) c.open_mut.ensures.node in
    let before = ap (λ n. length n.left.items) opened in
    let sound = subst (IsSound g.T.Measure.Monoid.unit_value g.T.Measure.Monoid.joined g.T.Measured.measured) c.in-Full.is c.self.invariant in
    let new : node_items c.if-place-before.node ≡ insert (node_items node) c.args.place item =
    elim c.if-place-before.branch [
      | then-place-before+in_ok-insert_below w ↦
          rw (w.node-is, w.in_ok-insert_below.ensures.ok, opened) (sym (insert-before node.left.items node.right.items node.item c.args.place item (omega arith)))
      | else-place-before+in_ok-insert_below-2 w ↦
          let place : c.args.place - c.len-before.result - 1 ≡ c.args.place - length node.left.items - 1 = omega arith in
          rw (w.node-is, w.in_ok-insert_below-2.ensures.ok, opened, place) (sym (insert-after node.left.items node.right.items node.item c.args.place item (omega arith)))
    ] in
    told_with g.met.T.Measure.Monoid.laws g.T.Measured.measured (node_items node) (node_items c.if-place-before.node) c.args.place
    c.in-Full.measure sound.measure_is c.with-told.result item c.measure.result c.measure.ensures new c.with-told.ensures

pub returns-clause-ok : goal.returns-clause-ok
returns-clause-ok g t c =
    let node = c.in-Full.closed.node.value in
    let item = c.args.item in
    let opened = c.deref_mut-node.ensures.value ∙ ap (λ b. b.value) c.open_mut.ensures.node in
    let before = ap (λ n. length n.left.items) opened in
    let whole = ap (λ part. insert part.items c.args.place item) (sym (ap part_of c.in-Full.is) ∙ c.self.view_is) in
    elim c.if-place-before.branch [
      | then-place-before+in_ok-insert_below w ↦
          let new : node_items c.if-place-before.node ≡ insert node.left.items c.args.place item ++ node.item ∷ node.right.items = rw (w.node-is, w.in_ok-insert_below.ensures.ok, opened) refl in
          c.settle_told.ensures.items ∙ new ∙ sym (insert-before node.left.items node.right.items node.item c.args.place item (omega arith)) ∙ whole
      | else-place-before+in_ok-insert_below-2 w ↦
          let place : c.args.place - c.len-before.result - 1 ≡ c.args.place - length node.left.items - 1 = omega arith in
          let new : node_items c.if-place-before.node ≡ node.left.items ++ node.item
          ∷ insert node.right.items (c.args.place - length node.left.items - 1) item =
          rw (w.node-is, w.in_ok-insert_below-2.ensures.ok, opened, place) refl in
          c.settle_told.ensures.items ∙ new ∙ sym (insert-after node.left.items node.right.items node.item c.args.place item (omega arith)) ∙ whole
    ]

pub returns-clause-grows : goal.returns-clause-grows
returns-clause-grows g t c =
    let node = c.in-Full.closed.node.value in
    let opened = c.deref_mut-node.ensures.value ∙ ap (λ b. b.value) c.open_mut.ensures.node in
    let sound = subst (IsSound g.T.Measure.Monoid.unit_value g.T.Measure.Monoid.joined g.T.Measured.measured) c.in-Full.is c.self.invariant in
    let root = root_of sound (sym (ap part_of c.in-Full.is) ∙ c.self.view_is) in
    elim c.if-place-before.branch [
      | then-place-before+in_ok-insert_below w ↦
          let new : node_count c.if-place-before.node ≡ w.insert_below.new.self.nodes + 1 + node.right.nodes = rw (w.node-is, opened) refl in
          let grown : IsUpToOneMore node.left.nodes w.insert_below.new.self.nodes = rw opened at w.in_ok-insert_below.ensures.grows in
          record { no_less = omega (arith, root.nodes_are, c.settle_told.ensures.nodes, new, grown.no_less); no_more = omega (arith, root.nodes_are, c.settle_told.ensures.nodes, new, grown.no_more) }
      | else-place-before+in_ok-insert_below-2 w ↦
          let new : node_count c.if-place-before.node ≡ node.left.nodes + 1 + w.insert_below-else-place-before.new.self.nodes = rw (w.node-is, opened) refl in
          let grown : IsUpToOneMore node.right.nodes w.insert_below-else-place-before.new.self.nodes = rw opened at w.in_ok-insert_below-2.ensures.grows in
          record { no_less = omega (arith, root.nodes_are, c.settle_told.ensures.nodes, new, grown.no_less); no_more = omega (arith, root.nodes_are, c.settle_told.ensures.nodes, new, grown.no_more) }
    ]

pub returns-clause-few : goal.returns-clause-few
returns-clause-few g t c =
    let sound = subst (IsSound g.T.Measure.Monoid.unit_value g.T.Measure.Monoid.joined g.T.Measured.measured) c.in-Full.is c.self.invariant in
    let root = root_of sound (sym (ap part_of c.in-Full.is) ∙ c.self.view_is) in
    root.few

pub returns-clause-visits : goal.returns-clause-visits
returns-clause-visits g t c =
    let node = c.in-Full.closed.node.value in
    let opened = c.deref_mut-node.ensures.value ∙ ap (λ b. b.value) c.open_mut.ensures.node in
    let sound = subst (IsSound g.T.Measure.Monoid.unit_value g.T.Measure.Monoid.joined g.T.Measured.measured) c.in-Full.is c.self.invariant in
    let root = root_of sound (sym (ap part_of c.in-Full.is) ∙ c.self.view_is) in
    elim c.if-place-before.branch [
      | then-place-before+in_ok-insert_below w ↦ level_left _ node _ _ _ _ root c.open_mut.ensures.visit (rw opened at w.insert_below.ensures.visits) (omega arith)
      | else-place-before+in_ok-insert_below-2 w ↦ level_right _ node _ _ _ _ root c.open_mut.ensures.visit (rw opened at w.insert_below-else-place-before.ensures.visits) (omega arith)
    ]
