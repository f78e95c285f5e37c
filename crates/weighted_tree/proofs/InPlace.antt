-- A node of which one part was changed in place: its size and its balance stay.
use Rattle.std.proofs.Common.{◌≡◌, ℕ, ◌-◌, ◌<◌, ◌≤◌, ◌∷◌, ◌++◌, length, sym, ap, ◌∙◌, refl, subst, arith}
use Rattle.std.specs.Prelude.{slice_set, Result, Ok, Err, OnOk, OnErr}
use Rattle.std.specs.List.{insert}
use Rattle.std.proofs.lemmas.List.Edits.{length-insert}
use Rattle.std.proofs.lemmas.List.{length-set}
use Rattle.monoids.specs.Measure.{measure_of}
use Rattle.weighted_tree.specs.Balance.{Part}
use Rattle.weighted_tree.specs.Nodes.{node_items, node_part, IsNode, IsRoot}
use Rattle.weighted_tree.specs.declared.subtree.Node.{Node}
use Rattle.weighted_tree.proofs.Middles.{set-before, set-middle, set-after}

-- the sides have as many nodes as before, and the items are those before with another one at a place
pub record IsSetAt {A M : Type 0} (node new : Node A M) (place : ℕ) (item : A) : Type 0 where
  pub items_are : node_items new ≡ slice_set (node_items node) place item
  pub left_nodes : new.left.nodes ≡ node.left.nodes
  pub right_nodes : new.right.nodes ≡ node.right.nodes

module _ {A M : Type 0} (node : Node A M) (place : ℕ) (item : A) where
  pub set_left : (left : Part A) → left.items ≡ slice_set node.left.items place item → left.nodes ≡ node.left.nodes → place < length node.left.items
      → IsSetAt node (record { left = left; item = node.item; right = node.right }) place item
  set_left left items nodes within = record {
    items_are = ap (λ xs. xs ++ node.item ∷ node.right.items) items ∙ sym (set-before node.left.items node.right.items node.item place item within);
    left_nodes = nodes;
    right_nodes = refl;
  }

  pub set_right : (right : Part A) → right.items ≡ slice_set node.right.items (place - length node.left.items - 1) item → right.nodes ≡ node.right.nodes
      → length node.left.items < place → IsSetAt node (record { left = node.left; item = node.item; right = right }) place item
  set_right right items nodes beyond = record {
    items_are = ap (λ xs. node.left.items ++ node.item ∷ xs) items ∙ sym (set-after node.left.items node.right.items node.item place item beyond);
    left_nodes = refl;
    right_nodes = nodes;
  }

  pub set_here : length node.left.items ≡ place → IsSetAt node (record { left = node.left; item = item; right = node.right }) place item
  set_here same = record {
    items_are = sym (set-middle node.left.items node.right.items node.item item) ∙ ap (λ k. slice_set (node_items node) k item) same;
    left_nodes = refl;
    right_nodes = refl;
  }

pub sound_with : {A M : Type 0} {unit : M} {join : M → M → M} {measured : A → M} {size nodes : ℕ} {former measure : M} {node new : Node A M} {place : ℕ}
    {item : A} → IsNode unit join measured size nodes former node → IsSetAt node new place item → measure ≡ measure_of unit join measured (node_items new)
    → IsNode unit join measured size nodes measure new
sound_with {node} {new} {place} {item} sound set whole =
    let same : length (node_items new) ≡ length (node_items node) = ap length set.items_are ∙ length-set (node_items node) place item in
    record {
      size_is = sound.size_is ∙ sym same;
      nodes_are = omega (arith, set.left_nodes, set.right_nodes, sound.nodes_are);
      measure_is = whole;
      balanced = record {
        left_light = omega (arith, set.left_nodes, set.right_nodes, sound.balanced.left_light);
        right_light = omega (arith, set.left_nodes, set.right_nodes, sound.balanced.right_light);
      };
      fits = omega (arith, same, sound.fits);
      few = omega (arith, same, sound.few);
    }

-- what the link tells of a node makes it the root of its part
pub root_of : {A M : Type 0} {unit : M} {join : M → M → M} {measured : A → M} {size nodes : ℕ} {measure : M} {node : Node A M} {part : Part A}
    → IsNode unit join measured size nodes measure node → node_part node ≡ part → IsRoot part node
root_of {node} sound same = subst (λ whole. IsRoot whole node) same (record { items_are = refl; nodes_are = refl; balanced = sound.balanced; fits = sound.fits; few = omega (arith, sound.nodes_are, sound.few) })

-- an insertion that may fail leaves no fewer items
pub no_shorter : {A T E : Type 0} (answer : Result T E) (former new : Part A) (place : ℕ) (item : A) → place ≤ length former.items
    → OnOk answer (new.items ≡ insert former.items place item) → OnErr answer (new ≡ former) → length former.items ≤ length new.items
no_shorter (Ok value) former new place item within same none = omega (arith, ap length same, length-insert former.items place item within)
no_shorter (Err error) former new place item within none same = omega (arith, ap (λ part. length part.items) same)
