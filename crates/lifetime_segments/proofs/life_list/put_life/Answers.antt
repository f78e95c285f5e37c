use Rattle.std.proofs.Common.{◌≡◌, ap, ◌∙◌, arith}
use Rattle.std.specs.List.{insert}
use Rattle.lifetime_segments.specs.Lifetimes.{stands_by_item}
use Rattle.lifetime_segments.specs.Ordered.{insert_by}
use Rattle.lifetime_segments.proofs.Places.{place-within, insert-place}
use Rattle.lifetime_segments.proofs.life_list.put_life.Goals as goal

pub insert-requires : goal.insert-requires
insert-requires g c =
    let within = place-within (stands_by_item g.O.Order.stands_before) c.args.life c.args.few.now in
    record { within = omega arith }

pub returns-clause-ok : goal.returns-clause-ok
returns-clause-ok g c =
    let by_item = stands_by_item g.O.Order.stands_before in
    let placed : insert c.args.few.now c.life_place-place.result c.args.life ≡ insert_by by_item c.args.life c.args.few.now =
    ap (λ n. insert c.args.few.now n c.args.life) c.life_place-place.ensures ∙ insert-place by_item c.args.life c.args.few.now in
    rw (← placed) c.insert.ensures.ok
