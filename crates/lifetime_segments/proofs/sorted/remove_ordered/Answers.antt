use Rattle.std.proofs.Common.{ap, ◌∙◌, arith}
use Rattle.std.specs.List.{remove}
use Rattle.lifetime_segments.proofs.Places.{place-there, remove-place}
use Rattle.lifetime_segments.proofs.sorted.remove_ordered.Goals as goal

pub remove-requires : goal.remove-requires
remove-requires g c =
    let within = place-there g.O.Order.stands_before c.args.item c.args.items.now c.requires.there in
    record { within = omega arith }

pub returns : goal.returns
returns g c =
    c.remove.ensures.items
    ∙ ap (remove c.args.items.now) c.place_of-place.ensures
    ∙ remove-place g.O.Order.stands_before c.args.item c.args.items.now c.requires.there
