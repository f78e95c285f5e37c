use Rattle.std.proofs.Common.{◌≡◌, ap, ◌∙◌, arith}
use Rattle.std.specs.List.{insert}
use Rattle.lifetime_segments.specs.Ordered.{insert_by}
use Rattle.lifetime_segments.proofs.Places.{place-within, insert-place}
use Rattle.lifetime_segments.proofs.sorted.put.Goals as goal

pub insert-requires-clause-within : goal.insert-requires-clause-within
insert-requires-clause-within g c =
    let within = place-within g.O.Order.stands_before c.args.item c.args.items.now in
    omega arith

pub returns-clause-ok : goal.returns-clause-ok
returns-clause-ok g c =
    let placed : insert c.args.items.now c.place_of-place.result c.args.item ≡ insert_by g.O.Order.stands_before c.args.item c.args.items.now =
    ap (λ n. insert c.args.items.now n c.args.item) c.place_of-place.ensures ∙ insert-place g.O.Order.stands_before c.args.item c.args.items.now in
    rw (← placed) c.insert.ensures.ok
