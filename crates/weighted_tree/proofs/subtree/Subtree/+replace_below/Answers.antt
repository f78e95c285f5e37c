use Rattle.std.proofs.Common.{◌≡◌, ◌-◌, arith, ◌∙◌, ◌∷◌, sym, ap, subst, length}
use Rattle.std.specs.Prelude.{slice_set, slice_get, Some}
use Rattle.monoids.specs.MeasureLaws.{items-measure_of}
use Rattle.weighted_tree.specs.Nodes.{node_items, part_of, IsSound}
use Rattle.weighted_tree.proofs.InPlace.{IsSetAt, set_left, set_right, set_here, sound_with, root_of}
use Rattle.weighted_tree.proofs.Levels.{level_left, level_right, level_end}
use Rattle.weighted_tree.proofs.Middles.{get-before, get-middle, get-after}
use Rattle.weighted_tree.proofs.Told.{told_exchanged}
use Rattle.weighted_tree.proofs.subtree.Subtree.+replace_below.Goals as goal
use Rattle.weighted_tree.proofs.subtree.Subtree.+replace_below.Goals.{then-place-before, else-place-before+then-place-before-2, else-place-before+else-place-before-2}

pub exchanged-told-requires : goal.exchanged-told-requires
exchanged-told-requires g t c =
    let node = c.in-Full.closed.node.value in
    let sound = subst (IsSound g.T.Measure.Monoid.unit_value g.T.Measure.Monoid.joined g.T.Measured.measured) c.in-Full.is c.self.invariant in
    record {
      fits = omega (
        arith,
        ap g.T.Measure.Monoid.items_of sound.measure_is ∙ items-measure_of g.met.T.Measure.Monoid.laws g.T.Measured.measured g.met.T.Measured.single (node_items node),
        sound.fits,
      );
      few = omega (
        arith,
        ap g.T.Measure.Monoid.items_of c.measure.ensures ∙ g.met.T.Measured.single c.if-place-before.old,
        ap g.T.Measure.Monoid.items_of c.measure-2.ensures ∙ g.met.T.Measured.single c.args.item,
      );
    }

pub measure_told-requires-clause-told : goal.measure_told-requires-clause-told
measure_told-requires-clause-told g t c =
    let node = c.in-Full.closed.node.value in
    let opened = c.deref_mut-node.ensures.value ∙ ap (λ b. b.value) c.open_mut.ensures.node in
    let before = ap (λ n. length n.left.items) opened in
    let sound = subst (IsSound g.T.Measure.Monoid.unit_value g.T.Measure.Monoid.joined g.T.Measured.measured) c.in-Full.is c.self.invariant in
    let again = c.deref_mut-node-2.ensures.value ∙ ap (λ b. b.value) c.open_mut-2.ensures.node in
    let there : slice_get (node_items node) c.args.place ≡ Some c.if-place-before.old =
    elim c.if-place-before.branch [
      | then-place-before w ↦ get-before node.left.items (node.item ∷ node.right.items) c.args.place (omega arith)
          ∙ ap (λ n. slice_get n.left.items c.args.place) (sym opened) ∙ w.replace_below-old.ensures.item ∙ ap Some (sym w.old-is)
      | else-place-before+then-place-before-2 w ↦
          let place : c.args.place - length node.left.items - 1 ≡ c.args.place - c.len-before.result - 1 = omega arith in
          get-after node.left.items node.right.items node.item c.args.place (omega arith) ∙ ap (slice_get node.right.items) place
          ∙ ap (λ n. slice_get n.right.items (c.args.place - c.len-before.result - 1)) (sym opened) ∙ w.replace_below.ensures.item ∙ ap Some (sym w.old-is)
      | else-place-before+else-place-before-2 w ↦
          let place : c.args.place ≡ length node.left.items = omega arith in
          ap (slice_get (node_items node)) place ∙ get-middle node.left.items node.right.items node.item ∙ ap (λ n. Some n.item) (sym opened) ∙ ap Some (sym w.replace.ensures.value ∙ sym w.old-is)
    ] in
    let set : IsSetAt node c.if-place-before.closed.node.value c.args.place c.args.item =
    elim c.if-place-before.branch [
      | then-place-before w ↦ rw (w.closed-is, opened) (set_left node c.args.place c.args.item _ (rw opened at w.replace_below-old.ensures.items) (rw opened at w.replace_below-old.ensures.nodes) (omega arith))
      | else-place-before+then-place-before-2 w ↦
          let place : c.args.place - c.len-before.result - 1 ≡ c.args.place - length node.left.items - 1 = omega arith in
          rw (w.closed-is, opened) (set_right node c.args.place c.args.item _ (rw (opened, place) at w.replace_below.ensures.items) (rw opened at w.replace_below.ensures.nodes) (omega arith))
      | else-place-before+else-place-before-2 w ↦ rw (w.closed-is, w.replace.ensures.after, opened) (set_here node c.args.place c.args.item (omega arith))
    ] in
    told_exchanged g.met.T.Measure.Monoid.laws g.T.Measured.measured (node_items node) (node_items c.deref_mut-node-2.result.now) c.args.place
    c.in-Full.measure sound.measure_is c.exchanged-told.result c.if-place-before.old there c.measure.result c.measure.ensures
    c.args.item c.measure-2.result c.measure-2.ensures (ap node_items again ∙ set.items_are) c.exchanged-told.ensures

pub invariant_of-self-2 : goal.invariant_of-self-2
invariant_of-self-2 g = λ t c.
    let node = c.in-Full.closed.node.value in
    let opened = c.deref_mut-node.ensures.value ∙ ap (λ b. b.value) c.open_mut.ensures.node in
    let before = ap (λ n. length n.left.items) opened in
    let sound = subst (IsSound g.T.Measure.Monoid.unit_value g.T.Measure.Monoid.joined g.T.Measured.measured) c.in-Full.is c.self.invariant in
    let again = c.deref_mut-node-2.ensures.value ∙ ap (λ b. b.value) c.open_mut-2.ensures.node in
    let set : IsSetAt node c.if-place-before.closed.node.value c.args.place c.args.item =
    elim c.if-place-before.branch [
      | then-place-before w ↦ rw (w.closed-is, opened) (set_left node c.args.place c.args.item _ (rw opened at w.replace_below-old.ensures.items) (rw opened at w.replace_below-old.ensures.nodes) (omega arith))
      | else-place-before+then-place-before-2 w ↦
          let place : c.args.place - c.len-before.result - 1 ≡ c.args.place - length node.left.items - 1 = omega arith in
          rw (w.closed-is, opened) (set_right node c.args.place c.args.item _ (rw (opened, place) at w.replace_below.ensures.items) (rw opened at w.replace_below.ensures.nodes) (omega arith))
      | else-place-before+else-place-before-2 w ↦ rw (w.closed-is, w.replace.ensures.after, opened) (set_here node c.args.place c.args.item (omega arith))
    ] in
    sound_with sound (subst (λ n. IsSetAt node n c.args.place c.args.item) (sym again) set) c.measure_told.ensures

pub returns-clause-item : goal.returns-clause-item
returns-clause-item g t c =
    let node = c.in-Full.closed.node.value in
    let opened = c.deref_mut-node.ensures.value ∙ ap (λ b. b.value) c.open_mut.ensures.node in
    let before = ap (λ n. length n.left.items) opened in
    let there = ap (λ part. slice_get part.items c.args.place) (sym c.self.view_is ∙ ap part_of c.in-Full.is) in
    elim c.if-place-before.branch [
      | then-place-before w ↦ there ∙ get-before node.left.items (node.item ∷ node.right.items) c.args.place (omega arith)
          ∙ ap (λ n. slice_get n.left.items c.args.place) (sym opened) ∙ w.replace_below-old.ensures.item ∙ ap Some (sym w.old-is)
      | else-place-before+then-place-before-2 w ↦
          let place : c.args.place - length node.left.items - 1 ≡ c.args.place - c.len-before.result - 1 = omega arith in
          there ∙ get-after node.left.items node.right.items node.item c.args.place (omega arith) ∙ ap (slice_get node.right.items) place
          ∙ ap (λ n. slice_get n.right.items (c.args.place - c.len-before.result - 1)) (sym opened) ∙ w.replace_below.ensures.item ∙ ap Some (sym w.old-is)
      | else-place-before+else-place-before-2 w ↦
          let place : c.args.place ≡ length node.left.items = omega arith in
          there ∙ ap (slice_get (node_items node)) place ∙ get-middle node.left.items node.right.items node.item ∙ ap (λ n. Some n.item) (sym opened) ∙ ap Some (sym w.replace.ensures.value ∙ sym w.old-is)
    ]

pub returns-clause-items : goal.returns-clause-items
returns-clause-items g t c =
    let node = c.in-Full.closed.node.value in
    let opened = c.deref_mut-node.ensures.value ∙ ap (λ b. b.value) c.open_mut.ensures.node in
    let before = ap (λ n. length n.left.items) opened in
    let whole : node_items node ≡ c.args.self.now.items = ap (λ part. part.items) (sym (ap part_of c.in-Full.is) ∙ c.self.view_is) in
    let again = c.deref_mut-node-2.ensures.value ∙ ap (λ b. b.value) c.open_mut-2.ensures.node in
    let set : IsSetAt node c.if-place-before.closed.node.value c.args.place c.args.item =
    elim c.if-place-before.branch [
      | then-place-before w ↦ rw (w.closed-is, opened) (set_left node c.args.place c.args.item _ (rw opened at w.replace_below-old.ensures.items) (rw opened at w.replace_below-old.ensures.nodes) (omega arith))
      | else-place-before+then-place-before-2 w ↦
          let place : c.args.place - c.len-before.result - 1 ≡ c.args.place - length node.left.items - 1 = omega arith in
          rw (w.closed-is, opened) (set_right node c.args.place c.args.item _ (rw (opened, place) at w.replace_below.ensures.items) (rw opened at w.replace_below.ensures.nodes) (omega arith))
      | else-place-before+else-place-before-2 w ↦ rw (w.closed-is, w.replace.ensures.after, opened) (set_here node c.args.place c.args.item (omega arith))
    ] in
    ap node_items again ∙ set.items_are ∙ ap (λ xs. slice_set xs c.args.place c.args.item) whole

pub returns-clause-visits : goal.returns-clause-visits
returns-clause-visits g t c =
    let node = c.in-Full.closed.node.value in
    let opened = c.deref_mut-node.ensures.value ∙ ap (λ b. b.value) c.open_mut.ensures.node in
    let sound = subst (IsSound g.T.Measure.Monoid.unit_value g.T.Measure.Monoid.joined g.T.Measured.measured) c.in-Full.is c.self.invariant in
    let root = root_of sound (sym (ap part_of c.in-Full.is) ∙ c.self.view_is) in
    elim c.if-place-before.branch [
      | then-place-before w ↦ level_left _ node _ _ _ _ root c.open_mut.ensures.visit (rw opened at w.replace_below-old.ensures.visits) (omega arith)
      | else-place-before+then-place-before-2 w ↦ level_right _ node _ _ _ _ root c.open_mut.ensures.visit (rw opened at w.replace_below.ensures.visits) (omega arith)
      | else-place-before+else-place-before-2 w ↦ level_end _ node _ _ 0 _ root c.open_mut.ensures.visit (omega arith)
    ]
