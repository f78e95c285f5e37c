use Rattle.std.proofs.Common.{◌≡◌, ◌<◌, ◌≤◌, ◌-◌, suc, Some, None, ◌∷◌, length, drop, refl, sym, subst, ap, ◌∙◌, arith, rules, length-drop}
use Rattle.std.specs.Prelude.{IfSome}
use Rattle.std.specs.List.{AllByRecursion}
use Rattle.std.proofs.lemmas.List.{drop_all}
use Rattle.retro_base.specs.OrderLaws.{all_at}
use Rattle.lifetime_segments.specs.Lawful.{most_items}
use Rattle.lifetime_segments.specs.Lifetimes.{stands_by_item}
use Rattle.lifetime_segments.specs.Ordered.{in_order, insert_by}
use Rattle.lifetime_segments.specs.Tries.{Changes, Edits, Has, IsOf, IsOfNode, Lies, in_first, taken, with}
use Rattle.lifetime_segments.proofs.FewLives.{few_of, few_ordered, few_lie, few_length, drop_get}
use Rattle.lifetime_segments.proofs.Moved.{node_of_few}
use Rattle.lifetime_segments.proofs.Nodes.{bare_of, edits_through, leads_by, left_has, node_changes, node_few, node_has, node_ordered, node_with_whole, right_has, trie_of}
use Rattle.lifetime_segments.proofs.Results.{edits_by, err_always}
use Rattle.lifetime_segments.proofs.Spans.{whole-none}
use Rattle.lifetime_segments.proofs.adding.+add.Goals as goal

pub add-add_to_node-requires : goal.add-add_to_node-requires
add-add_to_node-requires g t c κs within =
    let before = g.O.Order.stands_before in
    let has : Has (IsOfNode before c.args.level c.deref_mut.result.now) None = node_has before c.args.level None _ _ (leads_by c.in-Full.is c.deref_mut.ensures.value (refl, refl, refl)) c.requires.has in
    search rules

pub add-returns-in-Full : goal.add-returns-in-Full
add-returns-in-Full g t c =
    edits_through g.O.Order.stands_before c.args.level None c.args.life c.args.trie.now c.deref_mut.result.now c.add_to_node.new.node c.add_to_node.result
    (leads_by c.in-Full.is c.deref_mut.ensures.value (refl, refl, refl)) c.add_to_node.ensures

pub add-put_life-requires : goal.add-put_life-requires
add-put_life-requires g t c =
    let lives = c.requires.has.holds.others in
    record { ordered = few_ordered g.met.O.Order.order lives c.in-Few.few (few_of g.O.Order.stands_before c.args.level lives c.in-Few.few c.args.trie.now c.in-Few.is c.requires.has.holds.is_of).1 }

pub add-returns-then-len-lt-FEW : goal.add-returns-then-len-lt-FEW
add-returns-then-len-lt-FEW g t c =
    let before = g.O.Order.stands_before in
    edits_by None (Some c.args.life) (IsOf before c.args.level c.args.trie.now) (λ lives. AllByRecursion (Lies c.args.level) lives × (c.put_life.new.few ≡ in_order (stands_by_item before) lives)) c.put_life.result
    (λ put lives is_of.
    let kept = few_of before c.args.level lives c.in-Few.few c.args.trie.now c.in-Few.is is_of in
    ((c.requires.lies, kept.0), put ∙ ap (insert_by (stands_by_item before) c.args.life) kept.1))
    (λ same lives is_of.
    let kept = few_of before c.args.level lives c.in-Few.few c.args.trie.now c.in-Few.is is_of in
    (kept.0, same ∙ kept.1))
    c.put_life.ensures.ok c.put_life.ensures.err

pub add-divided_with-requires : goal.add-divided_with-requires
add-divided_with-requires g t c κs within =
    let before = g.O.Order.stands_before in
    let lives = c.requires.has.holds.others in
    let kept = few_of before c.args.level lives c.in-Few.few c.args.trie.now c.in-Few.is c.requires.has.holds.is_of in
    let all : AllByRecursion (Lies c.args.level) c.in-Few.few = few_lie before c.args.level lives c.in-Few.few kept.0 kept.1 in
    let few : length c.in-Few.few ≤ most_items = omega (arith, few_length before lives c.in-Few.few kept.1, c.requires.has.few) in
    search rules

pub add-returns-in_ok-node-in-Few : goal.add-returns-in_ok-node-in-Few
add-returns-in_ok-node-in-Few g t c = (
  λ lives is_of.
      let kept = few_of g.O.Order.stands_before c.args.level lives c.in-Few.few c.args.trie.now c.in-Few.is is_of in
      trie_of g.O.Order.stands_before c.args.level (c.args.life ∷ lives) c.divide.new.self c.in_ok-node-in-Few.node.value c.divide.ensures (omega arith)
      (node_of_few g.met.O.Order.order c.args.level c.args.life lives c.in-Few.few c.in_ok-node-in-Few.node.value kept.1 c.in_ok-node-in-Few.ensures),
  tt,
)

pub divided_with-loop-place-init : goal.divided_with-loop-place-init
divided_with-loop-place-init g t c =
    subst (IsOfNode g.O.Order.stands_before c.args.level c.in_ok-node.node.value) (sym (drop_all c.len-place.result c.args.few.now (omega (arith, c.len-place.ensures))))
    (bare_of g.O.Order.stands_before c.args.level c.in_ok-node.node.value c.in_ok-node.ensures)

pub divided_with-add_to_node-requires : goal.divided_with-add_to_node-requires
divided_with-add_to_node-requires g t c κs within =
    let before = g.O.Order.stands_before in
    let lies : Lies c.args.level c.get.result = all_at (Lies c.args.level) c.args.few.now (c.loop-place.place - 1) c.get.result c.requires.all c.get.ensures in
    let has : Has (IsOfNode before c.args.level c.deref_mut.result.now) None = subst (λ node. Has (IsOfNode before c.args.level node) None) (sym c.deref_mut.ensures.value) (record {
      holds = record { others = drop c.loop-place.place c.args.few.now; is_of = c.loop-place.invariant };
      few = omega (arith, length-drop c.loop-place.place c.args.few.now, c.requires.few);
    }) in
    search rules

pub divided_with-loop-place-preserved : goal.divided_with-loop-place-preserved
divided_with-loop-place-preserved g t c =
    let before = g.O.Order.stands_before in
    let few = c.args.few.now in
    let place : suc (c.loop-place.place - 1) ≡ c.loop-place.place = omega arith in
    subst (IsOfNode before c.args.level c.add_to_node.new.node) (sym (drop_get few (c.loop-place.place - 1) c.get.result c.get.ensures))
    (c.in_ok-add_to_node.ensures.0 (drop (suc (c.loop-place.place - 1)) few)
    (subst (λ node. IsOfNode before c.args.level node (drop (suc (c.loop-place.place - 1)) few)) (sym c.deref_mut.ensures.value)
    (subst (λ n. IsOfNode before c.args.level c.loop-place.node.value (drop n few)) (sym place) c.loop-place.invariant)))

pub divided_with-add_to_node-requires-2 : goal.divided_with-add_to_node-requires-2
divided_with-add_to_node-requires-2 g t c κs within =
    let before = g.O.Order.stands_before in
    let has : Has (IsOfNode before c.args.level c.deref_mut-2.result.now) None = subst (λ node. Has (IsOfNode before c.args.level node) None) (sym c.deref_mut-2.ensures.value) (record {
      holds = record { others = c.args.few.now; is_of = subst (λ n. IsOfNode before c.args.level c.loop-place.node.value (drop n c.args.few.now)) (let end : c.loop-place.place ≡ 0 = omega arith in end) c.loop-place.invariant };
      few = c.requires.few;
    }) in
    search rules

pub divided_with-returns : goal.divided_with-returns
divided_with-returns g t c =
    let before = g.O.Order.stands_before in
    c.in_ok-add_to_node-2.ensures.0 c.args.few.now (subst (λ node. IsOfNode before c.args.level node c.args.few.now) (sym c.deref_mut-2.ensures.value)
    (subst (λ n. IsOfNode before c.args.level c.loop-place.node.value (drop n c.args.few.now)) (let end : c.loop-place.place ≡ 0 = omega arith in end) c.loop-place.invariant))

pub add_to_node-put-requires-clause-ordered : goal.add_to_node-put-requires-clause-ordered
add_to_node-put-requires-clause-ordered g t c = node_ordered g.met.O.Order.order c.args.level c.requires.has.holds.others c.args.node.now c.requires.has.holds.is_of

pub add_to_node-put-requires-clause-room : goal.add_to_node-put-requires-clause-room
add_to_node-put-requires-clause-room g t c = omega (arith, node_few g.met.O.Order.order c.args.level c.requires.has.holds.others c.args.node.now c.requires.has.holds.is_of, c.requires.has.few)

pub add_to_node-returns-then-is_whole : goal.add_to_node-returns-then-is_whole
add_to_node-returns-then-is_whole g t c =
    edits_by None (Some c.args.life) (IsOfNode g.O.Order.stands_before c.args.level c.args.node.now) _ c.put.result
    (λ put. node_with_whole g.O.Order.stands_before c.args.level c.args.life c.args.node.now _ c.requires.lies (sym c.is_whole.ensures ∙ c.if-is_whole.true) put refl refl)
    (λ same. node_changes g.O.Order.stands_before c.args.level None None c.args.node.now _ tt (λ others is. same ∙ is) (λ lives is_of. is_of) (λ lives is_of. is_of))
    c.put.ensures.ok c.put.ensures.err

pub add_to_node-add_in_half-requires : goal.add_to_node-add_in_half-requires
add_to_node-add_in_half-requires g t c κs within =
    let before = g.O.Order.stands_before in
    let has : Has (IsOf before (c.args.level - 1) c.args.node.now.left) None = left_has before c.args.level c.args.node.now None c.requires.has in
    let deep : 0 < c.args.level = c.in_first-first.ensures.deep in
    search rules

pub add_to_node-returns-in_err-add_in_half : goal.add_to_node-returns-in_err-add_in_half
add_to_node-returns-in_err-add_in_half g t c = (
  search rules,
  err_always c.from_residual.result
      (node_changes g.O.Order.stands_before c.args.level None None c.args.node.now _ tt (λ others is. is) c.in_err-add_in_half.ensures.1 (λ lives is_of. is_of)),
)

pub add_to_node-add_in_half-requires-2 : goal.add_to_node-add_in_half-requires-2
add_to_node-add_in_half-requires-2 g t c κs within =
    let before = g.O.Order.stands_before in
    let has : Has (IsOf before (c.args.level - 1) c.args.node.now.right) None = right_has before c.args.level c.args.node.now None c.requires.has in
    let deep : 0 < c.args.level = c.in_first-first.ensures.deep in
    search rules

pub add_to_node-take_in_half-requires-clause-holds : goal.add_to_node-take_in_half-requires-clause-holds
add_to_node-take_in_half-requires-clause-holds g t c =
    let firsts = taken (in_first c.args.level) c.requires.has.holds.others in
    record { others = firsts; is_of = c.in_ok-add_in_half.ensures.0 firsts c.requires.has.holds.is_of.left }

pub add_to_node-returns-in-Err : goal.add_to_node-returns-in-Err
add_to_node-returns-in-Err g t c = (
  tt,
  node_changes g.O.Order.stands_before c.args.level None None c.args.node.now _ tt (λ others is. is)
      (λ lives is_of. c.take_in_half.ensures lives (c.in_ok-add_in_half.ensures.0 lives is_of)) c.in-Err.ensures.1,
)

pub add_to_node-returns : goal.add_to_node-returns
add_to_node-returns g t c =
    let before = g.O.Order.stands_before in
    let below = c.args.level - 1 in (
      node_changes before c.args.level None (Some c.args.life) c.args.node.now _ c.requires.lies
          (λ others is. is ∙ sym (ap (λ o. in_order before (with o others)) (whole-none c.args.level c.args.life (sym c.is_whole.ensures ∙ c.if-is_whole.false))))
          (subst (λ o. Changes None o (IsOf before below c.args.node.now.left) (IsOf before below c.add_in_half.new.half)) c.in_first-first.ensures.clipped c.in_ok-add_in_half.ensures.0)
          (subst (λ o. Changes None o (IsOf before below c.args.node.now.right) (IsOf before below c.add_in_half-2.new.half)) c.in_second.ensures.clipped c.in_default.ensures.0),
      tt,
    )

pub add_in_half-add-requires : goal.add_in_half-add-requires
add_in_half-add-requires g t c κs within =
    let lies : Lies c.args.level c.in-Some.life = subst (λ o. IfSome o (Lies c.args.level)) c.in-Some.is c.requires.lies in
    search rules

pub add_in_half-returns-in-Some : goal.add_in_half-returns-in-Some
add_in_half-returns-in-Some g t c =
    let before = g.O.Order.stands_before in
    subst (λ o. Edits None o (IsOf before c.args.level c.args.half.now) (IsOf before c.args.level c.add.new.trie) c.add.result) (sym c.in-Some.is) c.add.ensures

pub add_in_half-returns-in-None : goal.add_in_half-returns-in-None
add_in_half-returns-in-None g t c =
    let before = g.O.Order.stands_before in
    (subst (λ o. Changes None o (IsOf before c.args.level c.args.half.now) (IsOf before c.args.level c.args.half.now)) (sym c.in-None.is) (λ lives is_of. is_of), tt)
