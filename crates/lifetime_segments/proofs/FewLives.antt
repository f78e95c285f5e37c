-- Few lifetimes, kept as they are.
use Rattle.std.proofs.Common.{◌≡◌, ℕ, zero, suc, Bool, true, false, cond, List, [], ◌∷◌, length, refl, sym, subst, ap, ◌∙◌, ◌++◌, take, drop, slice_get, Some}
use Rattle.std.specs.Prelude.{map}
use Rattle.std.specs.List.{filter, AllByRecursion}
use Rattle.std.proofs.lemmas.List.{append-nil}
use Rattle.lifetime_segments.specs.declared.lifetime.Lifetime.{Lifetime}
use Rattle.lifetime_segments.specs.declared.trie.Trie.{Trie, Few}
use Rattle.lifetime_segments.specs.Ordered.{IsOrder, AreInOrder, insert_by, in_order, is_in, without}
use Rattle.lifetime_segments.specs.OrderedLaws.{all-in_order, in_order-ordered, is_in-insert_by, length-in_order, insert_by-swap, without-insert_by}
use Rattle.lifetime_segments.specs.Lifetimes.{holds, items_at, stands_by_item}
use Rattle.lifetime_segments.specs.LifetimeLaws.{by_item_order}
use Rattle.lifetime_segments.specs.Tries.{IsOf, Lies}

-- a trie of few lifetimes keeps them by their items
pub few_of : {A M : Type 0} (before : A → A → Bool) (level : ℕ) (lives few : List (Lifetime A)) (trie : Trie A M) → trie ≡ Few few → IsOf before level trie lives
    → AllByRecursion (Lies level) lives × (few ≡ in_order (stands_by_item before) lives)
few_of before level lives few trie is is_of = subst (λ t. IsOf before level t lives) is is_of

pub few_lie : {A : Type 0} (before : A → A → Bool) (level : ℕ) (lives few : List (Lifetime A)) → AllByRecursion (Lies level) lives → few ≡ in_order (stands_by_item before) lives → AllByRecursion (Lies level) few
few_lie before level lives few lie is = subst (AllByRecursion (Lies level)) (sym is) (all-in_order (Lies level) (stands_by_item before) lives lie)

pub few_length : {A : Type 0} (before : A → A → Bool) (lives few : List (Lifetime A)) → few ≡ in_order (stands_by_item before) lives → length few ≡ length lives
few_length before lives few is = ap length is ∙ length-in_order (stands_by_item before) lives

module _ {A : Type 0} {before : A → A → Bool} (order : IsOrder before) where
  pub few_ordered : (lives few : List (Lifetime A)) → few ≡ in_order (stands_by_item before) lives → AreInOrder (stands_by_item before) few
  few_ordered lives few is = subst (AreInOrder (stands_by_item before)) (sym is) (in_order-ordered (by_item_order order) lives)

  pub few_there : (life : Lifetime A) (lives few : List (Lifetime A)) → few ≡ in_order (stands_by_item before) (life ∷ lives) → is_in (stands_by_item before) life few ≡ true
  few_there life lives few is = ap (is_in (stands_by_item before) life) is ∙ is_in-insert_by (by_item_order order) life (in_order (stands_by_item before) lives)

  pub few_without : (life : Lifetime A) (lives few : List (Lifetime A)) → few ≡ in_order (stands_by_item before) (life ∷ lives)
      → without (stands_by_item before) life few ≡ in_order (stands_by_item before) lives
  few_without life lives few is = ap (without (stands_by_item before) life) is ∙ without-insert_by (by_item_order order) life (in_order (stands_by_item before) lives)

  pub few_moved : (life other : Lifetime A) (lives few : List (Lifetime A)) → few ≡ in_order (stands_by_item before) (life ∷ lives)
      → without (stands_by_item before) life (insert_by (stands_by_item before) other few) ≡ in_order (stands_by_item before) (other ∷ lives)
  few_moved life other lives few is =
      let by_item = stands_by_item before in
      let rest = in_order by_item lives in
      ap (λ ls. without by_item life (insert_by by_item other ls)) is
      ∙ ap (without by_item life) (insert_by-swap (by_item_order order) other life rest)
      ∙ without-insert_by (by_item_order order) life (insert_by by_item other rest)

-- the elements from one on
pub drop_get : {X : Type 0} (xs : List X) (place : ℕ) (x : X) → slice_get xs place ≡ Some x → drop place xs ≡ x ∷ drop (suc place) xs
drop_get [] place x there = absurd (cc)
drop_get (y ∷ ys) zero x there = let same : y ≡ x = cc in ap (λ z. z ∷ ys) same
drop_get (y ∷ ys) (suc place) x there = drop_get ys place x there

-- the items at a label, one lifetime further
pub items_at-next : {A : Type 0} (label : ℕ) (lives : List (Lifetime A)) (place : ℕ) (life : Lifetime A) → slice_get lives place ≡ Some life
    → items_at label (take (suc place) lives) ≡ items_at label (take place lives) ++ cond (holds label life) (life.item ∷ []) []
items_at-next label [] place life there = absurd (cc)
items_at-next label (first ∷ lives) zero life there =
    let same : first ≡ life = cc in
    subst (λ l. items_at label (first ∷ []) ≡ cond (holds label l) (l.item ∷ []) []) same (elim (holds label first) as (λ b. map (λ l. l.item) (cond b (first ∷ []) []) ≡ cond b (first.item ∷ []) []) [
      | true ↦ refl
      | false ↦ refl
    ])
items_at-next label (first ∷ lives) (suc place) life there =
    elim (holds label first) as (λ b. map (λ l. l.item) (cond b (first ∷ filter (holds label) (take (suc place) lives)) (filter (holds label) (take (suc place) lives)))
    ≡ map (λ l. l.item) (cond b (first ∷ filter (holds label) (take place lives)) (filter (holds label) (take place lives))) ++ cond (holds label life) (life.item ∷ []) []) [
      | true ↦ ap (λ items. first.item ∷ items) (items_at-next label lives place life there)
      | false ↦ items_at-next label lives place life there
    ]

pub items_at-there : {A : Type 0} (label : ℕ) (lives : List (Lifetime A)) (place : ℕ) (life : Lifetime A) → slice_get lives place ≡ Some life → holds label life ≡ true
    → items_at label (take (suc place) lives) ≡ items_at label (take place lives) ++ life.item ∷ []
items_at-there label lives place life there here = items_at-next label lives place life there ∙ ap (λ b. items_at label (take place lives) ++ cond b (life.item ∷ []) []) here

pub items_at-gone : {A : Type 0} (label : ℕ) (lives : List (Lifetime A)) (place : ℕ) (life : Lifetime A) → slice_get lives place ≡ Some life → holds label life ≡ false
    → items_at label (take (suc place) lives) ≡ items_at label (take place lives)
items_at-gone label lives place life there gone =
    items_at-next label lives place life there
    ∙ ap (λ b. items_at label (take place lives) ++ cond b (life.item ∷ []) []) gone
    ∙ append-nil (items_at label (take place lives))

-- the items at a label of two lists one after the other, and what holds of all of them
pub items_at-append : {A : Type 0} (label : ℕ) (xs ys : List (Lifetime A)) → items_at label (xs ++ ys) ≡ items_at label xs ++ items_at label ys
items_at-append label [] ys = refl
items_at-append label (x ∷ xs) ys = elim (holds label x) as (λ b. map (λ l. l.item) (cond b (x ∷ filter (holds label) (xs ++ ys)) (filter (holds label) (xs ++ ys)))
    ≡ map (λ l. l.item) (cond b (x ∷ filter (holds label) xs) (filter (holds label) xs)) ++ items_at label ys) [
      | true ↦ ap (λ items. x.item ∷ items) (items_at-append label xs ys)
      | false ↦ items_at-append label xs ys
    ]

pub items_at-all : {A : Type 0} (P : A → Type 0) (label : ℕ) (lives : List (Lifetime A)) → AllByRecursion (λ life. P life.item) lives → AllByRecursion P (items_at label lives)
items_at-all P label [] all = tt
items_at-all P label (life ∷ lives) all = elim (holds label life) as (λ b. AllByRecursion P (map (λ l. l.item) (cond b (life ∷ filter (holds label) lives) (filter (holds label) lives)))) [
  | true ↦ (all.0, items_at-all P label lives all.1)
  | false ↦ items_at-all P label lives all.1
]
