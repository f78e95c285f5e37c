use Rattle.std.proofs.Common.{◌≡◌, ℕ, ◌<◌, ◌≤◌, ◌-◌, ◌^◌, Bool, false, cond, Option, Some, None, ◌∷◌, refl, sym, subst, ap, ◌∙◌, arith, rules}
use Rattle.std.specs.Prelude.{min, nat_lt}
use Rattle.std.specs.List.{AllByRecursion}
use Rattle.lifetime_segments.specs.declared.lifetime.Lifetime.{Lifetime}
use Rattle.lifetime_segments.specs.declared.trie.Node.{Node}
use Rattle.lifetime_segments.specs.Lifetimes.{stands_by_item}
use Rattle.lifetime_segments.specs.Ordered.{in_order, insert_by, without}
use Rattle.lifetime_segments.specs.Tries.{Changes, Has, Holds, IsOf, IsOfNode, Lies, ending, in_first, is_whole, in_second, seen_from, taken, with}
use Rattle.lifetime_segments.proofs.FewLives.{few_of, few_ordered, few_there, few_moved}
use Rattle.lifetime_segments.proofs.Moved.{node_swapped}
use Rattle.lifetime_segments.proofs.Nodes.{edits_through, leads_by, left_has, node_changes, node_has, right_has, right_holds}
use Rattle.lifetime_segments.proofs.Results.{changes_at, edits_by}
use Rattle.lifetime_segments.proofs.Spans.{double, first-at, first-is, second-is, second-none, whole-none}
use Rattle.lifetime_segments.proofs.moving.+move_end.Goals as goal

pub move_end-move_in_node-requires : goal.move_end-move_in_node-requires
move_end-move_in_node-requires g t c κs within =
    let before = g.O.Order.stands_before in
    let has : Has (IsOfNode before c.args.level c.deref_mut.result.now) (Some c.args.life) = node_has before c.args.level (Some c.args.life) _ _ (leads_by c.in-Full.is c.deref_mut.ensures.value (refl, refl, refl)) c.requires.has in
    search rules

pub move_end-returns-in-Full : goal.move_end-returns-in-Full
move_end-returns-in-Full g t c =
    edits_through g.O.Order.stands_before c.args.level (Some c.args.life) (ending c.args.next c.args.life) c.args.trie.now c.deref_mut.result.now c.move_in_node.new.node c.move_in_node.result
    (leads_by c.in-Full.is c.deref_mut.ensures.value (refl, refl, refl)) c.move_in_node.ensures

pub move_end-exchange_lives-requires-clause-ordered : goal.move_end-exchange_lives-requires-clause-ordered
move_end-exchange_lives-requires-clause-ordered g t c =
    let all = c.args.life ∷ c.requires.has.holds.others in
    few_ordered g.met.O.Order.order all c.in-Few.few (few_of g.O.Order.stands_before c.args.level all c.in-Few.few c.args.trie.now c.in-Few.is c.requires.has.holds.is_of).1

pub move_end-exchange_lives-requires-clause-there : goal.move_end-exchange_lives-requires-clause-there
move_end-exchange_lives-requires-clause-there g t c =
    let others = c.requires.has.holds.others in
    few_there g.met.O.Order.order c.args.life others c.in-Few.few (few_of g.O.Order.stands_before c.args.level (c.args.life ∷ others) c.in-Few.few c.args.trie.now c.in-Few.is c.requires.has.holds.is_of).1

pub move_end-returns-in-Few : goal.move_end-returns-in-Few
move_end-returns-in-Few g t c =
    let before = g.O.Order.stands_before in
    let by_item = stands_by_item before in
    edits_by (Some c.args.life) (Some (ending c.args.next c.args.life)) (IsOf before c.args.level c.args.trie.now) (λ lives. AllByRecursion (Lies c.args.level) lives × (c.exchange_lives.new.few ≡ in_order by_item lives)) c.exchange_lives.result
    (λ exchanged lives is_of.
    let kept = few_of before c.args.level (c.args.life ∷ lives) c.in-Few.few c.args.trie.now c.in-Few.is is_of in (
      (c.requires.moved, kept.0.1),
      exchanged
          ∙ ap (λ life. without by_item c.args.life (insert_by by_item life c.in-Few.few)) c.ending.ensures
          ∙ few_moved g.met.O.Order.order c.args.life (ending c.args.next c.args.life) lives c.in-Few.few kept.1,
    ))
    (λ same lives is_of.
    let kept = few_of before c.args.level lives c.in-Few.few c.args.trie.now c.in-Few.is is_of in
    (kept.0, same ∙ kept.1))
    c.exchange_lives.ensures.ok c.exchange_lives.ensures.err

pub move_in_node-add_to_node-requires-clause-lies : goal.move_in_node-add_to_node-requires-clause-lies
move_in_node-add_to_node-requires-clause-lies g t c = subst (Lies c.args.level) (sym c.ending-moved.ensures) c.requires.moved

pub move_in_node-add_to_node-requires-clause-has : goal.move_in_node-add_to_node-requires-clause-has
move_in_node-add_to_node-requires-clause-has g t c = record { holds = record { others = c.args.life ∷ c.requires.has.holds.others; is_of = c.requires.has.holds.is_of }; few = c.requires.has.few }

pub move_in_node-take_from_node-requires-clause-holds : goal.move_in_node-take_from_node-requires-clause-holds
move_in_node-take_from_node-requires-clause-holds g t c =
    let others = c.requires.has.holds.others in
    record {
      others = c.ending-moved.result ∷ others;
      is_of = node_swapped g.met.O.Order.order c.args.level c.ending-moved.result c.args.life others c.add_to_node.new.node (c.in_ok-add_to_node.ensures.0 (c.args.life ∷ others) c.requires.has.holds.is_of);
    }

pub move_in_node-returns-then-is_whole : goal.move_in_node-returns-then-is_whole
move_in_node-returns-then-is_whole g t c =
    let before = g.O.Order.stands_before in
    let Of = IsOfNode before c.args.level c.args.node.now in
    let adds : Changes None (Some (ending c.args.next c.args.life)) Of (IsOfNode before c.args.level c.add_to_node.new.node) =
    subst (λ life. Changes None (Some life) Of (IsOfNode before c.args.level c.add_to_node.new.node)) c.ending-moved.ensures c.in_ok-add_to_node.ensures.0 in (
      λ lives is_of. c.take_from_node.ensures (ending c.args.next c.args.life ∷ lives)
          (node_swapped g.met.O.Order.order c.args.level (ending c.args.next c.args.life) c.args.life lives c.add_to_node.new.node (adds (c.args.life ∷ lives) is_of)),
      tt,
    )

-- what of a lifetime lies in the first half, where both ends are known
module _ {A : Type 0} (level : ℕ) (life : Lifetime A) (broken : is_whole level life ≡ false) where
  first_all : life.from < 2 ^ (level - 1) → life.to ≤ 2 ^ (level - 1) → in_first level life ≡ Some life
  first_all begins ends =
      let all : min life.to (2 ^ (level - 1)) ≡ life.to = omega arith in
      first-is level life broken begins ∙ ap (λ n. Some (ending n life)) all

  first_clipped : life.from < 2 ^ (level - 1) → 2 ^ (level - 1) ≤ life.to → in_first level life ≡ Some (ending (2 ^ (level - 1)) life)
  first_clipped begins ends =
      let all : min life.to (2 ^ (level - 1)) ≡ 2 ^ (level - 1) = omega arith in
      first-is level life broken begins ∙ ap (λ n. Some (ending n life)) all

  -- where both ends lie past the first half, it is the same with either
  first_past : (next : ℕ) → is_whole level (ending next life) ≡ false → 2 ^ (level - 1) ≤ life.to → 2 ^ (level - 1) ≤ next → in_first level life ≡ in_first level (ending next life)
  first_past next broken_next ends next_ends =
      let same : min life.to (2 ^ (level - 1)) ≡ min next (2 ^ (level - 1)) = omega arith in
      first-at level life false broken
      ∙ ap (λ n. cond (nat_lt life.from (2 ^ (level - 1))) (Some (ending n life)) None) same
      ∙ sym (first-at level (ending next life) false broken_next)

pub move_in_halves-move_end-requires : goal.move_in_halves-move_end-requires
move_in_halves-move_end-requires g t c κs within =
    let before = g.O.Order.stands_before in
    let below = c.args.level - 1 in
    let Left = IsOf before below c.args.node.now.left in
    let clipped : c.min.result ≡ min c.args.life.to (2 ^ below) = omega arith in
    let is : c.ending-first.result ≡ ending (min c.args.life.to (2 ^ below)) c.args.life = c.ending-first.ensures ∙ ap (λ n. ending n c.args.life) clipped in
    let lies : Lies below c.ending-first.result = subst (Lies below) (sym is) (record { rises = omega (arith, c.requires.lies.rises, c.requires.moved.rises); within = omega arith }) in
    let moved : Lies below (ending c.args.next c.ending-first.result) = subst (λ life. Lies below (ending c.args.next life)) (sym is) (record { rises = c.requires.moved.rises; within = omega arith }) in
    let has : Has Left (Some c.ending-first.result) = subst (Has Left) (first-is c.args.level c.args.life c.requires.broken (omega (arith, c.requires.moved.rises)) ∙ ap (λ life. Some life) (sym is))
    (left_has before c.args.level c.args.node.now (Some c.args.life) c.requires.has) in
    search rules

pub move_in_halves-take_in_half-requires-clause-holds : goal.move_in_halves-take_in_half-requires-clause-holds
move_in_halves-take_in_half-requires-clause-holds g t c =
    subst (Holds (IsOf g.O.Order.stands_before (c.args.level - 1) c.args.node.now.right)) (sym c.in_second.ensures.clipped) (right_holds g.O.Order.stands_before c.args.level c.args.node.now (Some c.args.life) c.requires.has.holds)

-- a node that changes in its halves alone
module _ {A M : Type 0} (before : A → A → Bool) (level next : ℕ) (life : Lifetime A) (node new : Node A M) (broken : is_whole level life ≡ false) (broken_next : is_whole level (ending next life) ≡ false)
    (moved : Lies level (ending next life)) (items : new.items ≡ node.items) where
  halves_moved : (gone come other_gone other_come : Option (Lifetime A)) → gone ≡ in_first level life → come ≡ in_first level (ending next life) → other_gone ≡ in_second level life → other_come ≡ in_second level (ending next life)
      → Changes gone come (IsOf before (level - 1) node.left) (IsOf before (level - 1) new.left) → Changes other_gone other_come (IsOf before (level - 1) node.right) (IsOf before (level - 1) new.right)
      → Changes (Some life) (Some (ending next life)) (IsOfNode before level node) (IsOfNode before level new)
  halves_moved gone come other_gone other_come is_gone is_come is_other_gone is_other_come left right =
      node_changes before level (Some life) (Some (ending next life)) node new moved
      (λ others is. items ∙ is ∙ ap (λ o. in_order before (with o others)) (whole-none level life broken ∙ sym (whole-none level (ending next life) broken_next)))
      (changes_at gone come (in_first level life) (in_first level (ending next life)) (IsOf before (level - 1) node.left) (IsOf before (level - 1) new.left) is_gone is_come left)
      (changes_at other_gone other_come (in_second level life) (in_second level (ending next life)) (IsOf before (level - 1) node.right) (IsOf before (level - 1) new.right) is_other_gone is_other_come right)

pub move_in_halves-returns-then-next-half : goal.move_in_halves-returns-then-next-half
move_in_halves-returns-then-next-half g t c =
    let next = c.args.next in
    let life = c.args.life in
    let below = c.args.level - 1 in
    let clipped : c.min.result ≡ min life.to (2 ^ below) = omega arith in
    let is : c.ending-first.result ≡ ending (min life.to (2 ^ below)) life = c.ending-first.ensures ∙ ap (λ n. ending n life) clipped in (
      halves_moved g.O.Order.stands_before c.args.level next life c.args.node.now _ c.requires.broken c.requires.broken_next c.requires.moved refl
          (Some c.ending-first.result) (Some (ending next c.ending-first.result)) c.in_second.result None
          (ap (λ l. Some l) is ∙ sym (first-is c.args.level life c.requires.broken (omega (arith, c.requires.moved.rises))))
          (ap (λ l. Some (ending next l)) is ∙ sym (first_all c.args.level (ending next life) c.requires.broken_next (omega (arith, c.requires.moved.rises)) (omega arith)))
          c.in_second.ensures.clipped
          (sym (second-none c.args.level (ending next life) c.requires.broken_next (omega arith)))
          c.in_ok-move_end.ensures.0 c.take_in_half.ensures,
      tt,
    )

pub move_in_halves-move_end-requires-then-half-life : goal.move_in_halves-move_end-requires-then-half-life
move_in_halves-move_end-requires-then-half-life g t c κs within =
    let before = g.O.Order.stands_before in
    let below = c.args.level - 1 in
    let Right = IsOf before below c.args.node.now.right in
    let twice = double c.args.level c.requires.deep in
    let is : c.seen_from-second.result ≡ seen_from (2 ^ below) c.args.life = c.seen_from-second.ensures ∙ ap (λ n. seen_from n c.args.life) c.labels-half.ensures in
    let lies : Lies below c.seen_from-second.result = subst (Lies below) (sym is) (record { rises = omega (arith, c.requires.lies.rises); within = omega (arith, c.requires.lies.within, twice) }) in
    let moved : Lies below (ending (c.args.next - c.labels-half.result) c.seen_from-second.result) =
    subst (λ life. Lies below (ending (c.args.next - c.labels-half.result) life)) (sym is) (record { rises = omega (arith, c.requires.moved.rises); within = omega (arith, c.requires.moved.within, twice) }) in
    let has : Has Right (Some c.seen_from-second.result) =
    subst (Has Right) (second-is c.args.level c.args.life c.requires.broken (omega arith) ∙ ap (λ life. Some life) (sym is)) (right_has before c.args.level c.args.node.now (Some c.args.life) c.requires.has) in
    search rules

pub move_in_halves-returns-then-half-life : goal.move_in_halves-returns-then-half-life
move_in_halves-returns-then-half-life g t c =
    let before = g.O.Order.stands_before in
    let next = c.args.next in
    let life = c.args.life in
    let half = c.labels-half.result in
    let is : c.seen_from-second.result ≡ seen_from (2 ^ (c.args.level - 1)) life = c.seen_from-second.ensures ∙ ap (λ n. seen_from n life) c.labels-half.ensures in
    edits_by (Some life) (Some (ending next life)) (IsOfNode before c.args.level c.args.node.now) _ c.move_end-then-half-life.result
    (λ moves. halves_moved before c.args.level next life c.args.node.now _ c.requires.broken c.requires.broken_next c.requires.moved refl
    (in_first c.args.level life) (in_first c.args.level life) (Some c.seen_from-second.result) (Some (ending (next - half) c.seen_from-second.result))
    refl (first_past c.args.level life c.requires.broken next c.requires.broken_next (omega arith) (omega arith))
    (ap (λ l. Some l) is ∙ sym (second-is c.args.level life c.requires.broken (omega arith)))
    (ap (λ l. Some (ending (next - half) l)) is ∙ ap (λ n. Some (ending (next - n) (seen_from (2 ^ (c.args.level - 1)) life))) c.labels-half.ensures ∙ sym (second-is c.args.level (ending next life) c.requires.broken_next (omega arith)))
    (λ lives is_of. is_of) moves)
    (λ keeps. node_changes before c.args.level None None c.args.node.now _ tt (λ others is. is) (λ lives is_of. is_of) keeps)
    c.move_end-then-half-life.ensures.0 c.move_end-then-half-life.ensures.1

pub move_in_halves-add-requires-clause-lies : goal.move_in_halves-add-requires-clause-lies
move_in_halves-add-requires-clause-lies g t c =
    let twice = double c.args.level c.requires.deep in
    subst (Lies (c.args.level - 1)) (sym (c.seen_from-entered.ensures ∙ ap (seen_from c.labels-half.result) c.ending.ensures))
    (record { rises = omega (arith, c.requires.moved.rises); within = omega (arith, c.requires.moved.within, twice) })

pub move_in_halves-add-requires-clause-has : goal.move_in_halves-add-requires-clause-has
move_in_halves-add-requires-clause-has g t c =
    let holds = c.requires.has.holds in
    right_has g.O.Order.stands_before c.args.level c.args.node.now None (record { holds = record { others = c.args.life ∷ holds.others; is_of = holds.is_of }; few = c.requires.has.few })

pub move_in_halves-move_end-requires-2 : goal.move_in_halves-move_end-requires-2
move_in_halves-move_end-requires-2 g t c κs within =
    let before = g.O.Order.stands_before in
    let below = c.args.level - 1 in
    let Left = IsOf before below c.args.node.now.left in
    let lies : Lies below c.args.life = record { rises = c.requires.lies.rises; within = omega arith } in
    let moved : Lies below (ending c.labels-half.result c.args.life) = record { rises = omega (arith, c.requires.lies.rises); within = omega arith } in
    let has : Has Left (Some c.args.life) =
    subst (Has Left) (first_all c.args.level c.args.life c.requires.broken (omega (arith, c.requires.lies.rises)) (omega arith)) (left_has before c.args.level c.args.node.now (Some c.args.life) c.requires.has) in
    search rules

pub move_in_halves-take-requires-clause-lies : goal.move_in_halves-take-requires-clause-lies
move_in_halves-take-requires-clause-lies g t c =
    let twice = double c.args.level c.requires.deep in
    subst (Lies (c.args.level - 1)) (sym (c.seen_from-entered.ensures ∙ ap (seen_from c.labels-half.result) c.ending.ensures))
    (record { rises = omega (arith, c.requires.moved.rises); within = omega (arith, c.requires.moved.within, twice) })

pub move_in_halves-take-requires-clause-holds : goal.move_in_halves-take-requires-clause-holds
move_in_halves-take-requires-clause-holds g t c =
    let seconds = taken (in_second c.args.level) (c.args.life ∷ c.requires.has.holds.others) in
    record { others = seconds; is_of = c.in_ok-add.ensures.0 seconds c.requires.has.holds.is_of.right }

pub move_in_halves-returns-in-Err : goal.move_in_halves-returns-in-Err
move_in_halves-returns-in-Err g t c = (
  tt,
  node_changes g.O.Order.stands_before c.args.level None None c.args.node.now _ tt (λ others is. is) c.in-Err.ensures.1 (λ lives is_of. c.take.ensures lives (c.in_ok-add.ensures.0 lives is_of)),
)

pub move_in_halves-returns : goal.move_in_halves-returns
move_in_halves-returns g t c =
    let next = c.args.next in
    let life = c.args.life in
    let half = c.labels-half.result in
    let is : c.seen_from-entered.result ≡ seen_from (2 ^ (c.args.level - 1)) (ending next life) =
    c.seen_from-entered.ensures ∙ ap (seen_from half) c.ending.ensures ∙ ap (λ n. seen_from n (ending next life)) c.labels-half.ensures in (
      halves_moved g.O.Order.stands_before c.args.level next life c.args.node.now _ c.requires.broken c.requires.broken_next c.requires.moved refl
          (Some life) (Some (ending half life)) None (Some c.seen_from-entered.result)
          (sym (first_all c.args.level life c.requires.broken (omega (arith, c.requires.lies.rises)) (omega arith)))
          (ap (λ n. Some (ending n life)) c.labels-half.ensures ∙ sym (first_clipped c.args.level (ending next life) c.requires.broken_next (omega (arith, c.requires.lies.rises)) (omega arith)))
          (sym (second-none c.args.level life c.requires.broken (omega arith)))
          (ap (λ l. Some l) is ∙ sym (second-is c.args.level (ending next life) c.requires.broken_next (omega arith)))
          c.in_default.ensures.0 c.in_ok-add.ensures.0,
      tt,
    )
