use Rattle.std.proofs.Common.{ap, ◌∙◌, arith}
use Rattle.std.specs.List.{remove}
use Rattle.lifetime_segments.specs.Lifetimes.{stands_by_item}
use Rattle.lifetime_segments.proofs.Places.{place-there, remove-place}
use Rattle.lifetime_segments.proofs.life_list.take_life.Goals as goal

pub remove-requires : goal.remove-requires
remove-requires g c =
    let within = place-there (stands_by_item g.O.Order.stands_before) c.args.life c.args.few.now c.requires.there in
    record { within = omega arith }

pub returns : goal.returns
returns g c =
    c.remove.ensures
    ∙ ap (remove c.args.few.now) c.life_place-place.ensures
    ∙ remove-place (stands_by_item g.O.Order.stands_before) c.args.life c.args.few.now c.requires.there
