use Rattle.std.proofs.Common.{◌≡◌, ◌+◌, suc, ◌++◌, ◌∷◌, [], take, sym, ap, ◌∙◌, arith, append_assoc}
use Rattle.lifetime_segments.specs.Lifetimes.{items_at}
use Rattle.lifetime_segments.proofs.FewLives.{items_at-there, items_at-gone}
use Rattle.lifetime_segments.proofs.collect.append_few.Goals as goal
use Rattle.lifetime_segments.proofs.collect.append_few.Goals.{then-holds+in_ok-push, else-holds}

pub loop-place-preserved : goal.loop-place-preserved
loop-place-preserved g c =
    let few = c.args.few.now in
    let old = c.args.items.now.items in
    let seen = items_at c.args.label (take c.loop-place.place few) in
    let next : suc c.loop-place.place ≡ c.loop-place.place + 1 = omega arith in
    elim c.if-holds.branch [
      | then-holds+in_ok-push w ↦
          ap (λ items. items.items) w.items-is
          ∙ w.in_ok-push.ensures.items
          ∙ ap (λ items. items ++ c.get-life.result.item ∷ []) c.loop-place.invariant
          ∙ append_assoc old seen (c.get-life.result.item ∷ [])
          ∙ ap (λ items. old ++ items) (sym (items_at-there c.args.label few c.loop-place.place c.get-life.result c.get-life.ensures (sym c.holds.ensures ∙ w.if-holds.true)))
          ∙ ap (λ n. old ++ items_at c.args.label (take n few)) next
      | else-holds w ↦
          ap (λ items. items.items) w.items-is
          ∙ c.loop-place.invariant
          ∙ ap (λ items. old ++ items) (sym (items_at-gone c.args.label few c.loop-place.place c.get-life.result c.get-life.ensures (sym c.holds.ensures ∙ w.if-holds.false)))
          ∙ ap (λ n. old ++ items_at c.args.label (take n few)) next
    ]
