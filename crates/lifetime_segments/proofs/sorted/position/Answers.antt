use Rattle.std.proofs.Common.{◌≡◌, not, subst, sym, ap, ◌∙◌, Some, slice_get, arith}
use Rattle.lifetime_segments.proofs.Places.{place-within, is_in-end, is_in-at, position-here, position-nowhere}
use Rattle.lifetime_segments.proofs.sorted.position.Goals as goal
use Rattle.lifetime_segments.proofs.sorted.position.Goals.{else-place-len-via-then-place-len+else-not-before, else-place-len-via-else-place-len}

pub returns-then-not-before : goal.returns-then-not-before
returns-then-not-before g c =
    let before = g.O.Order.stands_before in
    let item = c.args.item.now in
    let items = c.args.items.now in
    position-here before item items c.place_of-place.result c.place_of-place.ensures
    (is_in-at before item c.get.result items (subst (λ n. slice_get items n ≡ Some c.get.result) c.place_of-place.ensures c.get.ensures.item)
    ∙ ap not (sym c.before-then-place-len.ensures ∙ c.if-not-before.true))

pub returns-else-place-len : goal.returns-else-place-len
returns-else-place-len g c =
    let before = g.O.Order.stands_before in
    let item = c.args.item.now in
    let items = c.args.items.now in
    position-nowhere before item items (elim c.else-place-len.branch [
      | else-place-len-via-then-place-len+else-not-before w ↦
          is_in-at before item w.get.result items (subst (λ n. slice_get items n ≡ Some w.get.result) c.place_of-place.ensures w.get.ensures.item)
          ∙ ap not (sym w.before-then-place-len.ensures ∙ w.if-not-before.false)
      | else-place-len-via-else-place-len w ↦
          let within = place-within before item items in
          is_in-end before item items (omega arith)
    ])
