-- The lifetimes that are held, and the trie of their items, through an edit.
use Rattle.std.proofs.Common.{◌≡◌, ℕ, suc, ◌<◌, ◌≤◌, Bool, true, Some, None, List, [], length, slice_set, sym, subst, ap, ◌∙◌, arith}
use Rattle.std.specs.List.{AllByRecursion}
use Rattle.retro_base.specs.OrderLaws.{all_weaker}
use Rattle.lifetime_segments.specs.declared.lifetime.Lifetime.{Lifetime}
use Rattle.lifetime_segments.specs.declared.trie.Trie.{Trie, Few, Full'}
use Rattle.lifetime_segments.specs.Lawful.{most_items}
use Rattle.lifetime_segments.specs.Ordered.{IsOrder, AreInOrder, insert_by, is_in, without, place_in}
use Rattle.lifetime_segments.specs.OrderedLaws.{length-insert_by, length-without, insert_by-ordered, without-ordered, is_in-all, insert_by-without, insert_by-swap, is_in-insert_by, without-insert_by}
use Rattle.lifetime_segments.specs.Lifetimes.{IsInRange, stands_earlier}
use Rattle.lifetime_segments.specs.LifetimeLaws.{earlier_order}
use Rattle.lifetime_segments.specs.Tries.{AreHeld, Changes, Has, IsOf, Lies}
use Rattle.lifetime_segments.proofs.Moved.{of_insert_by, of_without}
use Rattle.lifetime_segments.proofs.Nodes.{of_none}
use Rattle.lifetime_segments.proofs.Places.{replaced}

pub held_none : {A M : Type 0} (before : A → A → Bool) (held : List (Lifetime A)) (root : Trie A M) → held ≡ [] → root ≡ Few [] → AreHeld before held root
held_none before held root none no_root = subst (λ lives. AreHeld before lives root) (sym none) (record { ordered = tt; few = omega arith; is_of = of_none before 40 root no_root })

-- they are all in range
all_lie : {A M : Type 0} (before : A → A → Bool) (lives : List (Lifetime A)) (trie : Trie A M) → IsOf before 40 trie lives → AllByRecursion (Lies 40) lives
all_lie before lives (Few few) is_of = is_of.0
all_lie before lives (Full' p items left right) is_of = is_of.1

pub held_in_range : {A M : Type 0} (before : A → A → Bool) (held : List (Lifetime A)) (root : Trie A M) → AreHeld before held root → AllByRecursion IsInRange held
held_in_range before held root are = all_weaker (Lies 40) IsInRange held (λ life lies. record { rises = lies.rises; within = lies.within }) (all_lie before held root are.is_of)

pub held_kept : {A M : Type 0} (before : A → A → Bool) (held : List (Lifetime A)) (root after : Trie A M) → AreHeld before held root → Changes None None (IsOf before 40 root) (IsOf before 40 after) → AreHeld before held after
held_kept before held root after are keeps = record { ordered = are.ordered; few = are.few; is_of = keeps held are.is_of }

pub held_has : {A M : Type 0} (before : A → A → Bool) (held : List (Lifetime A)) (root : Trie A M) → AreHeld before held root → Has (IsOf before 40 root) None
held_has before held root are = record { holds = record { others = held; is_of = are.is_of }; few = are.few }

-- an element that is there, and another that is put in
module _ {A : Type 0} {before : A → A → Bool} (order : IsOrder before) (x y : A) (xs : List A) (ordered : AreInOrder before xs) (there : is_in before x xs ≡ true) where
  insert_by-beside : insert_by before y xs ≡ insert_by before x (insert_by before y (without before x xs))
  insert_by-beside = ap (insert_by before y) (sym (insert_by-without order x xs ordered there)) ∙ insert_by-swap order y x (without before x xs)

  pub still_in : is_in before x (insert_by before y xs) ≡ true
  still_in = ap (is_in before x) insert_by-beside ∙ is_in-insert_by order x (insert_by before y (without before x xs))

  without-beside : without before x (insert_by before y xs) ≡ insert_by before y (without before x xs)
  without-beside = ap (without before x) insert_by-beside ∙ without-insert_by order x (insert_by before y (without before x xs))

-- an element that is replaced where it stands, by one that would be put in beside it
pub replaced_at : {A : Type 0} {before : A → A → Bool} (order : IsOrder before) (x y : A) (xs : List A) (place next : ℕ) → AreInOrder before xs → is_in before x xs ≡ true
    → place ≡ place_in before x xs → next ≡ place_in before y xs → place ≤ next → next ≤ suc place → slice_set xs place y ≡ without before x (insert_by before y xs)
replaced_at {before = before} order x y xs place next ordered there here beside low high =
    ap (λ n. slice_set xs n y) here
    ∙ replaced order x y xs ordered there (omega (arith, here, beside)) (omega (arith, here, beside))
    ∙ sym (without-beside order x y xs ordered there)

-- a lifetime that was put in is taken back
pub taken_back : {A : Type 0} {before : A → A → Bool} (order : IsOrder before) (life : Lifetime A) (held more after : List (Lifetime A)) → more ≡ insert_by (stands_earlier before) life held
    → after ≡ without (stands_earlier before) life more → after ≡ held
taken_back {before = before} order life held more after is_more is_after = is_after ∙ ap (without (stands_earlier before) life) is_more ∙ without-insert_by (earlier_order order) life held

module _ {A : Type 0} {before : A → A → Bool} (order : IsOrder before) {M : Type 0} where
  pub held_with : (life : Lifetime A) (held : List (Lifetime A)) (root after : Trie A M) → length held < most_items → AreHeld before held root → Changes None (Some life) (IsOf before 40 root) (IsOf before 40 after)
      → AreHeld before (insert_by (stands_earlier before) life held) after
  held_with life held root after room are adds = record {
    ordered = insert_by-ordered (earlier_order order) life held are.ordered;
    few = omega (arith, length-insert_by (stands_earlier before) life held);
    is_of = of_insert_by order 40 life held after (adds held are.is_of);
  }

  pub held_back : (life : Lifetime A) (held more after : List (Lifetime A)) (root trie : Trie A M) → more ≡ insert_by (stands_earlier before) life held → after ≡ without (stands_earlier before) life more
      → AreHeld before held root → Changes None None (IsOf before 40 root) (IsOf before 40 trie) → AreHeld before after trie
  held_back life held more after root trie is_more is_after are keeps = subst (λ held. AreHeld before held trie) (sym (taken_back order life held more after is_more is_after)) (held_kept before held root trie are keeps)

  pub held_one : (life : Lifetime A) (held : List (Lifetime A)) (root : Trie A M) → AreHeld before held root → is_in (stands_earlier before) life held ≡ true → Has (IsOf before 40 root) (Some life)
  held_one life held root are there =
      let rest = without (stands_earlier before) life held in
      record {
        holds = record { others = rest; is_of = of_without order 40 life held root are.ordered there are.is_of };
        few = let all = are.few in omega (arith, length-insert_by (stands_earlier before) life rest, ap length (insert_by-without (earlier_order order) life held are.ordered there));
      }

  pub held_without : (life : Lifetime A) (held : List (Lifetime A)) (root after : Trie A M) → AreHeld before held root → is_in (stands_earlier before) life held ≡ true
      → Changes (Some life) None (IsOf before 40 root) (IsOf before 40 after) → AreHeld before (without (stands_earlier before) life held) after
  held_without life held root after are there takes = record {
    ordered = without-ordered (earlier_order order) life held are.ordered;
    few = (let fewer = length-without (stands_earlier before) life held in let all = are.few in omega arith);
    is_of = takes (without (stands_earlier before) life held) (of_without order 40 life held root are.ordered there are.is_of);
  }

  pub held_moved : (life other : Lifetime A) (held : List (Lifetime A)) (root after : Trie A M) → length held < most_items → is_in (stands_earlier before) life held ≡ true → AreHeld before held root
      → Changes (Some life) (Some other) (IsOf before 40 root) (IsOf before 40 after) → AreHeld before (without (stands_earlier before) life (insert_by (stands_earlier before) other held)) after
  held_moved life other held root after room there are moves =
      let earlier = stands_earlier before in
      let others = without earlier life held in
      let all = insert_by earlier other held in
      record {
        ordered = without-ordered (earlier_order order) life all (insert_by-ordered (earlier_order order) other held are.ordered);
        few = omega (arith, length-without earlier life all, length-insert_by earlier other held);
        is_of = subst (IsOf before 40 after) (sym (without-beside (earlier_order order) life other held are.ordered there))
            (of_insert_by order 40 other others after (moves others (of_without order 40 life held root are.ordered there are.is_of)));
      }

  pub held_lies : (life : Lifetime A) (held : List (Lifetime A)) (root : Trie A M) → AreHeld before held root → is_in (stands_earlier before) life held ≡ true → Lies 40 life
  held_lies life held root are there = is_in-all (earlier_order order) (Lies 40) life held (all_lie before held root are.is_of) there
