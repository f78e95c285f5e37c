-- What a node has, and what it has once it is changed.
use Rattle.std.proofs.Common.{◌≡◌, ℕ, ◌-◌, ◌≤◌, ◌<◌, Bool, true, Option, Some, None, List, [], ◌∷◌, ◌++◌, length, refl, sym, subst, ap, ◌∙◌, arith, length-append}
use Rattle.std.specs.Prelude.{◌^◌, Result, IfSome}
use Rattle.std.specs.List.{AllByRecursion}
use Rattle.lifetime_segments.specs.declared.lifetime.Lifetime.{Lifetime}
use Rattle.lifetime_segments.specs.declared.trie.Trie.{Trie, Few, Full'}
use Rattle.lifetime_segments.specs.declared.trie.Node.{Node}
use Rattle.lifetime_segments.specs.Lawful.{most_items, AreLawful}
use Rattle.lifetime_segments.specs.Ordered.{IsOrder, AreInOrder, insert_by, in_order, is_in, without}
use Rattle.lifetime_segments.specs.OrderedLaws.{in_order-absorbs, in_order-ordered, in_order-kept, length-in_order, is_in-insert_by, without-insert_by}
use Rattle.lifetime_segments.specs.Lifetimes.{items_at, stands_by_item}
use Rattle.lifetime_segments.specs.Tries.{Changes, Edits, Has, Holds, IsBare, IsOf, IsOfNode, LeadsTo, Lies, in_first, is_whole, items_below, in_second, taken, whole_item, with}
use Rattle.lifetime_segments.proofs.Results.{edits_by}
use Rattle.lifetime_segments.proofs.Spans.{first-whole, items_below-in_order, items-taken, item_there, none_lie, second-whole, whole-here, zero_items}
use Rattle.lifetime_segments.proofs.Taken.{after, length-taken}

-- a trie that was seen to be another one leads to a node that was seen to be another one
pub leads_by : {A M : Type 0} {trie whole : Trie A M} {node inner : Node A M} → trie ≡ whole → node ≡ inner → LeadsTo whole inner → LeadsTo trie node
leads_by {trie = trie} {inner = inner} is same leads = subst (LeadsTo trie) (sym same) (subst (λ t. LeadsTo t inner) (sym is) leads)

-- no elements have no order
nothing : {X : Type 0} (earlier : X → X → Bool) (xs : List X) → [] ≡ in_order earlier xs → xs ≡ []
nothing earlier [] none = refl
nothing earlier (x ∷ xs) none = absurd (omega (arith, ap length none, length-in_order earlier (x ∷ xs)))

pub items_at-few : {A : Type 0} (label : ℕ) (lives : List (Lifetime A)) → length (items_at label lives) ≤ length lives
items_at-few label lives = omega (arith, ap length (items-taken label lives), length-taken (item_there label) lives)

module _ {A M : Type 0} (before : A → A → Bool) (level : ℕ) where
  -- what holds of a trie holds of the node that it leads to, and the other way round
  pub node_of : (lives : List (Lifetime A)) (trie : Trie A M) (node : Node A M) → LeadsTo trie node → IsOf before level trie lives → (0 < length lives) × IsOfNode before level node lives
  node_of lives (Few few) node leads is_of = absurd leads
  node_of lives (Full' p items left right) node leads is_of = (
    is_of.0,
    record {
      lie = is_of.1;
      items = leads.0 ∙ is_of.2;
      left = subst (λ t. IsOf before (level - 1) t (taken (in_first level) lives)) (sym leads.1) is_of.3;
      right = subst (λ t. IsOf before (level - 1) t (taken (in_second level) lives)) (sym leads.2) is_of.4;
    },
  )

  pub trie_of : (lives : List (Lifetime A)) (trie : Trie A M) (node : Node A M) → LeadsTo trie node → 0 < length lives → IsOfNode before level node lives → IsOf before level trie lives
  trie_of lives (Few few) node leads some is_of = absurd leads
  trie_of lives (Full' p items left right) node leads some is_of = (
    some,
    is_of.lie,
    sym leads.0 ∙ is_of.items,
    subst (λ t. IsOf before (level - 1) t (taken (in_first level) lives)) leads.1 is_of.left,
    subst (λ t. IsOf before (level - 1) t (taken (in_second level) lives)) leads.2 is_of.right,
  )

  -- what is made of the node that a trie leads to is made of the trie
  abbrev Divided : Node A M → List (Lifetime A) → Type 0
  Divided node lives =
      (0 < length lives)
      × AllByRecursion (Lies level) lives
      × (node.items ≡ in_order before (taken (whole_item level) lives))
      × IsOf before (level - 1) node.left (taken (in_first level) lives)
      × IsOf before (level - 1) node.right (taken (in_second level) lives)

  pub divided_of : (node : Node A M) (lives : List (Lifetime A)) → 0 < length lives → IsOfNode before level node lives → Divided node lives
  divided_of node lives some is_of = (some, is_of.lie, is_of.items, is_of.left, is_of.right)

  pub edits_through : {T E : Type 0} (gone : Option (Lifetime A)) (life : Lifetime A) (trie : Trie A M) (node changed : Node A M) (result : Result T E) → LeadsTo trie node
      → Edits gone (Some life) (IsOfNode before level node) (IsOfNode before level changed) result → Edits gone (Some life) (IsOf before level trie) (Divided changed) result
  edits_through gone life trie node changed result leads edits = edits_by gone (Some life) (IsOf before level trie) (Divided changed) result
      (λ changes lives is_of. divided_of changed (life ∷ lives) (omega arith) (changes lives (node_of (with gone lives) trie node leads is_of).1))
      (λ keeps lives is_of. let of = node_of lives trie node leads is_of in divided_of changed lives of.0 (keeps lives of.1))
      edits.0 edits.1

  -- the same of some lifetimes that it has
  abbrev pub node_holds : (life : Option (Lifetime A)) (trie : Trie A M) (node : Node A M) → LeadsTo trie node → Holds (IsOf before level trie) life → Holds (IsOfNode before level node) life
  node_holds life trie node leads holds = record { others = holds.others; is_of = (node_of (with life holds.others) trie node leads holds.is_of).1 }

  pub node_has : (life : Option (Lifetime A)) (trie : Trie A M) (node : Node A M) → LeadsTo trie node → Has (IsOf before level trie) life → Has (IsOfNode before level node) life
  node_has life trie node leads has = record { holds = node_holds life trie node leads has.holds; few = has.few }

  -- where there are no lifetimes there is nothing, and the other way round
  pub of_none : (trie : Trie A M) → trie ≡ Few [] → IsOf before level trie []
  of_none trie none = subst (λ t. IsOf before level t []) (sym none) (tt, refl)

  pub none_where : (trie : Trie A M) → IsOf before level trie [] → trie ≡ Few []
  none_where (Few few) is_of = ap Few is_of.1
  none_where (Full' p items left right) is_of = absurd (omega (arith, is_of.0))

  pub no_lives : (lives : List (Lifetime A)) (trie : Trie A M) → trie ≡ Few [] → IsOf before level trie lives → lives ≡ []
  no_lives lives trie none is_of = nothing (stands_by_item before) lives (subst (λ t. IsOf before level t lives) none is_of).1

-- what lies in a half is what lies there of each lifetime
abbrev half_holds : {A : Type 0} (f : Lifetime A → Option (Lifetime A)) (Of Half : List (Lifetime A) → Type 0) → ((lives : List (Lifetime A)) → Of lives → Half (taken f lives)) → (life : Option (Lifetime A)) → Holds Of life → Holds Half (after life f)
half_holds f Of Half half None holds = record { others = taken f holds.others; is_of = half holds.others holds.is_of }
half_holds f Of Half half (Some life) holds = record { others = taken f holds.others; is_of = half (life ∷ holds.others) holds.is_of }

half_has : {A : Type 0} (f : Lifetime A → Option (Lifetime A)) (Of Half : List (Lifetime A) → Type 0) → ((lives : List (Lifetime A)) → Of lives → Half (taken f lives)) → (life : Option (Lifetime A)) → Has Of life → Has Half (after life f)
half_has f Of Half half None has = record { holds = half_holds f Of Half half None has.holds; few = let few = has.few in omega (arith, length-taken f has.holds.others) }
half_has f Of Half half (Some life) has = record { holds = half_holds f Of Half half (Some life) has.holds; few = let few = has.few in omega (arith, length-taken f (life ∷ has.holds.others)) }

module _ {A M : Type 0} (before : A → A → Bool) (level : ℕ) where
  pub bare_of : (node : Node A M) → IsBare node → IsOfNode before level node []
  bare_of node bare = record { lie = tt; items = bare.no_items; left = of_none before (level - 1) node.left bare.no_left; right = of_none before (level - 1) node.right bare.no_right }

  pub bare_nothing : (lives : List (Lifetime A)) (node : Node A M) → IsBare node → IsOfNode before level node lives → (trie : Trie A M) → trie ≡ Few [] → IsOf before level trie lives
  bare_nothing lives node bare is_of trie is =
      let none : lives ≡ [] = none_lie level lives is_of.lie
      (nothing before (taken (whole_item level) lives) (sym bare.no_items ∙ is_of.items))
      (no_lives before (level - 1) (taken (in_first level) lives) node.left bare.no_left is_of.left)
      (no_lives before (level - 1) (taken (in_second level) lives) node.right bare.no_right is_of.right) in
      subst (IsOf before level trie) (sym none) (of_none before level trie is)

  -- so a node that has something has lifetimes
  pub some_where : (lives : List (Lifetime A)) (node : Node A M) → (IsBare node → ⊥) → IsOfNode before level node lives → 0 < length lives
  some_where [] node some is_of =
      absurd (some (record { no_items = is_of.items; no_left = none_where before (level - 1) node.left is_of.left; no_right = none_where before (level - 1) node.right is_of.right }))
  some_where (life ∷ lives) node some is_of = omega arith

  module _ (node : Node A M) (life : Option (Lifetime A)) where
    pub left_holds : Holds (IsOfNode before level node) life → Holds (IsOf before (level - 1) node.left) (after life (in_first level))
    left_holds = half_holds (in_first level) (IsOfNode before level node) (IsOf before (level - 1) node.left) (λ lives is_of. is_of.left) life

    pub right_holds : Holds (IsOfNode before level node) life → Holds (IsOf before (level - 1) node.right) (after life (in_second level))
    right_holds = half_holds (in_second level) (IsOfNode before level node) (IsOf before (level - 1) node.right) (λ lives is_of. is_of.right) life

    pub left_has : Has (IsOfNode before level node) life → Has (IsOf before (level - 1) node.left) (after life (in_first level))
    left_has = half_has (in_first level) (IsOfNode before level node) (IsOf before (level - 1) node.left) (λ lives is_of. is_of.left) life

    pub right_has : Has (IsOfNode before level node) life → Has (IsOf before (level - 1) node.right) (after life (in_second level))
    right_has = half_has (in_second level) (IsOfNode before level node) (IsOf before (level - 1) node.right) (λ lives is_of. is_of.right) life

  -- what changes in a node changes in the span itself and in its halves
  pub node_changes : (gone come : Option (Lifetime A)) (node new : Node A M) → IfSome come (Lies level)
      → ((items : List A) → node.items ≡ in_order before (with (after gone (whole_item level)) items) → new.items ≡ in_order before (with (after come (whole_item level)) items))
      → Changes (after gone (in_first level)) (after come (in_first level)) (IsOf before (level - 1) node.left) (IsOf before (level - 1) new.left)
      → Changes (after gone (in_second level)) (after come (in_second level)) (IsOf before (level - 1) node.right) (IsOf before (level - 1) new.right)
      → Changes gone come (IsOfNode before level node) (IsOfNode before level new)
  node_changes None None node new lies items left right lives is_of = record { lie = is_of.lie; items = items (taken (whole_item level) lives) is_of.items; left = left (taken (in_first level) lives) is_of.left; right = right (taken (in_second level) lives) is_of.right }
  node_changes None (Some life) node new lies items left right lives is_of = record { lie = (lies, is_of.lie); items = items (taken (whole_item level) lives) is_of.items; left = left (taken (in_first level) lives) is_of.left; right = right (taken (in_second level) lives) is_of.right }
  node_changes (Some life) None node new lies items left right lives is_of = record { lie = is_of.lie.1; items = items (taken (whole_item level) lives) is_of.items; left = left (taken (in_first level) lives) is_of.left; right = right (taken (in_second level) lives) is_of.right }
  node_changes (Some life) (Some other) node new lies items left right lives is_of = record { lie = (lies, is_of.lie.1); items = items (taken (whole_item level) lives) is_of.items; left = left (taken (in_first level) lives) is_of.left; right = right (taken (in_second level) lives) is_of.right }

  -- a lifetime of the whole span changes the items alone
  pub node_with_whole : (life : Lifetime A) (node new : Node A M) → Lies level life → is_whole level life ≡ true → new.items ≡ insert_by before life.item node.items → new.left ≡ node.left → new.right ≡ node.right
      → Changes None (Some life) (IsOfNode before level node) (IsOfNode before level new)
  node_with_whole life node new lies whole items left right = node_changes None (Some life) node new lies
      (λ others is. items ∙ ap (insert_by before life.item) is ∙ sym (ap (λ o. in_order before (with o others)) (whole-here level life whole)))
      (subst (λ o. Changes None o (IsOf before (level - 1) node.left) (IsOf before (level - 1) new.left)) (sym (first-whole level life whole)) (λ lives is_of. subst (λ t. IsOf before (level - 1) t lives) (sym left) is_of))
      (subst (λ o. Changes None o (IsOf before (level - 1) node.right) (IsOf before (level - 1) new.right)) (sym (second-whole level life whole)) (λ lives is_of. subst (λ t. IsOf before (level - 1) t lives) (sym right) is_of))

module _ {A : Type 0} {before : A → A → Bool} (order : IsOrder before) where
  module _ {M : Type 0} (level : ℕ) where
    pub node_without_whole : (life : Lifetime A) (node new : Node A M) → is_whole level life ≡ true → new.items ≡ without before life.item node.items → new.left ≡ node.left → new.right ≡ node.right
        → Changes (Some life) None (IsOfNode before level node) (IsOfNode before level new)
    node_without_whole life node new whole items left right = node_changes before level (Some life) None node new tt
        (λ others is. items ∙ ap (without before life.item) (is ∙ ap (λ o. in_order before (with o others)) (whole-here level life whole)) ∙ without-insert_by order life.item (in_order before others))
        (subst (λ o. Changes o None (IsOf before (level - 1) node.left) (IsOf before (level - 1) new.left)) (sym (first-whole level life whole)) (λ lives is_of. subst (λ t. IsOf before (level - 1) t lives) (sym left) is_of))
        (subst (λ o. Changes o None (IsOf before (level - 1) node.right) (IsOf before (level - 1) new.right)) (sym (second-whole level life whole)) (λ lives is_of. subst (λ t. IsOf before (level - 1) t lives) (sym right) is_of))

    pub node_ordered : (lives : List (Lifetime A)) (node : Node A M) → IsOfNode before level node lives → AreInOrder before node.items
    node_ordered lives node is_of = subst (AreInOrder before) (sym is_of.items) (in_order-ordered order (taken (whole_item level) lives))

    pub node_few : (lives : List (Lifetime A)) (node : Node A M) → IsOfNode before level node lives → length node.items ≤ length lives
    node_few lives node is_of = omega (arith, ap length is_of.items, length-in_order before (taken (whole_item level) lives), length-taken (whole_item level) lives)

    -- the item of a lifetime of the whole span is there
    pub node_is_in : (life : Lifetime A) (lives : List (Lifetime A)) (node : Node A M) → is_whole level life ≡ true → IsOfNode before level node (life ∷ lives) → is_in before life.item node.items ≡ true
    node_is_in life lives node whole is_of =
        ap (is_in before life.item) (is_of.items ∙ ap (λ o. in_order before (with o (taken (whole_item level) lives))) (whole-here level life whole))
        ∙ is_in-insert_by order life.item (in_order before (taken (whole_item level) lives))

  -- elements that were put in order are as they were
  pub absorbs_after : (xs ys : List A) → in_order before (xs ++ in_order before ys) ≡ in_order before (xs ++ ys)
  absorbs_after [] ys = in_order-kept order (in_order before ys) (in_order-ordered order ys)
  absorbs_after (x ∷ xs) ys = ap (insert_by before x) (absorbs_after xs ys)

  module _ {M : Type 0} (level label : ℕ) (lives : List (Lifetime A)) (node : Node A M) (within : label < 2 ^ level) (is_of : IsOfNode before level node lives) where
    pub node_at : in_order before (node.items ++ in_order before (items_below level label lives)) ≡ in_order before (items_at label lives)
    node_at =
        ap (λ items. in_order before (items ++ in_order before (items_below level label lives))) is_of.items
        ∙ in_order-absorbs order (taken (whole_item level) lives) (in_order before (items_below level label lives))
        ∙ absorbs_after (taken (whole_item level) lives) (items_below level label lives)
        ∙ items_below-in_order order level label lives within

    pub node_lawful : length lives ≤ most_items → AreLawful before node.items (in_order before (items_below level label lives))
    node_lawful few = record {
      first_ordered = node_ordered level lives node is_of;
      second_ordered = in_order-ordered order (items_below level label lives);
      few = omega (
        arith,
        length-append node.items (in_order before (items_below level label lives)),
        length-in_order before (node.items ++ in_order before (items_below level label lives)),
        ap length node_at,
        length-in_order before (items_at label lives),
        items_at-few label lives,
      );
    }

    -- at level 0 there is nothing below
    pub node_at_zero : level ≡ 0 → node.items ≡ in_order before (items_at label lives)
    node_at_zero bottom =
        let first : label ≡ 0 = (let one : label < 2 ^ 0 = subst (λ n. label < 2 ^ n) bottom within in omega arith) in
        is_of.items
        ∙ ap (λ n. in_order before (taken (whole_item n) lives)) bottom
        ∙ ap (in_order before) (sym (zero_items lives))
        ∙ ap (λ n. in_order before (items_at n lives)) (sym first)
