-- Lifetimes as they lie in the dyadic spans of a trie.
use Rattle.std.specs.Prelude.{◌≡◌, ◌==◌, ◌≤◌, ◌<◌, ◌-◌, ◌^◌, ◌&&◌, ℕ, min, Bool, cond, nat_le, nat_lt, Option, Some, None, List, [], ◌∷◌, ◌++◌, length, Result, OnOk, OnErr}
use Rattle.std.specs.List.{AllByRecursion}
use Rattle.lifetime_segments.specs.declared.lifetime.Lifetime.{Lifetime}
use Rattle.lifetime_segments.specs.declared.trie.Trie.{Trie, Few, Full'}
use Rattle.lifetime_segments.specs.declared.trie.Node.{Node}
use Rattle.lifetime_segments.specs.Lawful.{most_items}
use Rattle.lifetime_segments.specs.Ordered.{AreInOrder, in_order}
use Rattle.lifetime_segments.specs.Lifetimes.{items_at, stands_by_item, stands_earlier}

-- an element more, where there is one, and what is taken of each element of a list
abbrev pub with : {Y : Type 0} → Option Y → List Y → List Y
with (Some y) ys = y ∷ ys
with None ys = ys

abbrev pub taken : {X Y : Type 0} → (X → Option Y) → List X → List Y
taken f [] = []
taken f (x ∷ xs) = with (f x) (taken f xs)

-- a lifetime that ends at another label, and one seen from a label
abbrev pub ending : {A : Type 0} → ℕ → Lifetime A → Lifetime A
ending to life = record life { to = to }

abbrev pub seen_from : {A : Type 0} → ℕ → Lifetime A → Lifetime A
seen_from label life = record life { from = life.from - label; to = life.to - label }

-- the labels of a span are those from 0 to before 2 ^ level; a lifetime lies in it, and may hold all of them
pub record Lies {A : Type 0} (level : ℕ) (life : Lifetime A) : Type 0 where
  pub rises : life.from < life.to
  pub within : life.to ≤ 2 ^ level

abbrev pub is_whole : {A : Type 0} → ℕ → Lifetime A → Bool
is_whole level life = (life.from == 0) && nat_le (2 ^ level) life.to

-- what of a lifetime lies in the span itself, in its first half, and in its second half, seen from where that half begins
abbrev pub whole_item : {A : Type 0} → ℕ → Lifetime A → Option A
whole_item level life = cond (is_whole level life) (Some life.item) None

abbrev pub in_first : {A : Type 0} → ℕ → Lifetime A → Option (Lifetime A)
in_first level life = cond (is_whole level life) None (cond (nat_lt life.from (2 ^ (level - 1))) (Some (ending (min life.to (2 ^ (level - 1))) life)) None)

abbrev pub in_second : {A : Type 0} → ℕ → Lifetime A → Option (Lifetime A)
in_second level life = cond (is_whole level life) None (cond (nat_lt (2 ^ (level - 1)) life.to) (Some (seen_from (2 ^ (level - 1)) life)) None)

-- the items that are there at a label and lie in its halves
abbrev pub items_below : {A : Type 0} → ℕ → ℕ → List (Lifetime A) → List A
items_below level label lives = cond (nat_lt label (2 ^ (level - 1))) (items_at label (taken (in_first level) lives)) (items_at (label - 2 ^ (level - 1)) (taken (in_second level) lives))

-- there are no lifetimes, and no node
abbrev pub IsNothing : {A M : Type 0} → Trie A M → Type 0
IsNothing trie = trie ≡ Few []

-- the node is what the trie leads to
abbrev pub LeadsTo : {A M : Type 0} → Trie A M → Node A M → Type 0
LeadsTo (Few few) node = ⊥
LeadsTo (Full' p items left right) node = (node.items ≡ items) × (node.left ≡ left) × (node.right ≡ right)

-- the trie of a span has these lifetimes, which lie in it: as they are, or each in the span where it holds it whole, and else in its halves. So
-- a span is divided only where there are lifetimes in it
abbrev pub IsOf : {A M : Type 0} → (A → A → Bool) → ℕ → Trie A M → List (Lifetime A) → Type 0
IsOf before level (Few few) lives = AllByRecursion (Lies level) lives × (few ≡ in_order (stands_by_item before) lives)
IsOf before level (Full' p items left right) lives =
    (0 < length lives)
    × AllByRecursion (Lies level) lives
    × (items ≡ in_order before (taken (whole_item level) lives))
    × IsOf before (level - 1) left (taken (in_first level) lives)
    × IsOf before (level - 1) right (taken (in_second level) lives)

-- the same of a node, which may have none
pub record IsOfNode {A M : Type 0} (before : A → A → Bool) (level : ℕ) (node : Node A M) (lives : List (Lifetime A)) : Type 0 where
  pub lie : AllByRecursion (Lies level) lives
  pub items : node.items ≡ in_order before (taken (whole_item level) lives)
  pub left : IsOf before (level - 1) node.left (taken (in_first level) lives)
  pub right : IsOf before (level - 1) node.right (taken (in_second level) lives)

-- the node has nothing
pub record IsBare {A M : Type 0} (node : Node A M) : Type 0 where
  pub no_items : node.items ≡ []
  pub no_left : IsNothing node.left
  pub no_right : IsNothing node.right

-- a trie or a node has a lifetime, or none, and others
pub record Holds {A : Type 0} (Of : List (Lifetime A) → Type 0) (life : Option (Lifetime A)) : Type 0 where
  pub others : List (Lifetime A)
  pub is_of : Of (with life others)

-- and not too many
pub record Has {A : Type 0} (Of : List (Lifetime A) → Type 0) (life : Option (Lifetime A)) : Type 0 where
  pub holds : Holds Of life
  pub few : length (with life holds.others) ≤ most_items

-- whatever lifetimes it had beside one, or beside none, it has beside another one, or beside none
abbrev pub Changes : {A : Type 0} → Option (Lifetime A) → Option (Lifetime A) → (List (Lifetime A) → Type 0) → (List (Lifetime A) → Type 0) → Type 0
Changes {A} gone come Old New = (lives : List (Lifetime A)) → Old (with gone lives) → New (with come lives)

-- so it is where a call went well, and where it failed it has what it had
abbrev pub Edits : {A T E : Type 0} → Option (Lifetime A) → Option (Lifetime A) → (List (Lifetime A) → Type 0) → (List (Lifetime A) → Type 0) → Result T E → Type 0
Edits gone come Old New result = OnOk result (Changes gone come Old New) × OnErr result (Changes None None Old New)

-- whatever lifetimes it has, this is the answer over these items of them
abbrev pub Answers : {A Q P : Type 0} → (A → A → Bool) → (List A → Q → P) → Q → (List (Lifetime A) → List A) → (List (Lifetime A) → Type 0) → P → Type 0
Answers {A} before answer query items Of result = (lives : List (Lifetime A)) → Of lives → length lives ≤ most_items → result ≡ answer (in_order before (items lives)) query

-- and these items of them were added to others, all of them in any order
abbrev pub Collects : {A : Type 0} → (A → A → Bool) → (List (Lifetime A) → List A) → (List (Lifetime A) → Type 0) → List A → List A → Type 0
Collects {A} before items Of old new = (lives : List (Lifetime A)) → Of lives → in_order before new ≡ in_order before (old ++ items lives)

-- lifetimes in their order, not too many, with the trie of their items
pub record AreHeld {A M : Type 0} (before : A → A → Bool) (held : List (Lifetime A)) (root : Trie A M) : Type 0 where
  pub ordered : AreInOrder (stands_earlier before) held
  pub few : length held ≤ most_items
  pub is_of : IsOf before 40 root held
