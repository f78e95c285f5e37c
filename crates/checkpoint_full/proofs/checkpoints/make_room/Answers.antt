use Rattle.std.proofs.Common.{◌∙◌, ap, position, refl, sym, arith}
use Rattle.std.specs.List.{remove}
use Rattle.retro_base.specs.EditedLists.{remove-insert}
use Rattle.checkpoint_full.proofs.Between.{below_of, between_kept, later_holds, nearest_below, one_is_there, room_left, stands_between}
use Rattle.checkpoint_full.proofs.Places.{is_up_to, none_were_made}
use Rattle.checkpoint_full.proofs.Rule.{room_is_made, room_was_there}
use Rattle.checkpoint_full.proofs.checkpoints.make_room.Goals as goal

pub returns-in_default-clause-room : goal.returns-in_default-clause-room
returns-in_default-clause-room g c =
    let none = none_were_made _ _ c.args.place c.args.checkpoints.now.items (λ made. (c.requires.keeps made).close)
    (ap (λ cs. position (is_up_to c.args.place) cs) (sym c.as_slice.ensures.value) ∙ sym c.nearest.ensures ∙ c.in_default.is) in
    rw none tt

pub returns-then-place-earlier-clause-room : goal.returns-then-place-earlier-clause-room
returns-then-place-earlier-clause-room g c =
    room_left _ c.args.present.now c.args.checkpoints.now.items c.args.place c.in-Some.index _ _
    (stands_between c.args.present.now c.args.checkpoints.now.items _ _ _ c.args.place c.in-Some.index _ _ c.nearest.ensures c.as_slice.ensures.value c.in-Some.is
    c.index.ensures c.neighbour_after-later.ensures c.as_slice-2.ensures.value)
    (omega (arith, c.if-place-earlier.true, c.place.ensures.place, c.place-earlier.ensures.place))

pub returns-clause-keeps : goal.returns-clause-keeps
returns-clause-keeps g c = λ _. (between_kept c.args.width c.args.present.now c.args.checkpoints.now.items c.insert.new.self.items c.args.place c.in-Some.index c.place_between-at.result
    c.index.result.now c.neighbour_after-later.result.now c.in_ok-between.between
    (stands_between c.args.present.now c.args.checkpoints.now.items _ _ _ c.args.place c.in-Some.index _ _ c.nearest.ensures c.as_slice.ensures.value c.in-Some.is
    c.index.ensures c.neighbour_after-later.ensures c.as_slice-2.ensures.value)
    c.requires.keeps (omega (arith, c.place_between-at.ensures.within, c.place-earlier.ensures.place))
    (omega (arith, c.place_between-at.ensures.within, c.place-2.ensures.place))
    (λ same. c.place_between-at.ensures.end (same ∙ sym c.place-2.ensures.place) ∙ c.place-2.ensures.place)
    c.in_ok-between.ensures.made c.in_ok-insert.ensures.items).0

pub returns-clause-room : goal.returns-clause-room
returns-clause-room g c = (between_kept c.args.width c.args.present.now c.args.checkpoints.now.items c.insert.new.self.items c.args.place c.in-Some.index c.place_between-at.result
    c.index.result.now c.neighbour_after-later.result.now c.in_ok-between.between
    (stands_between c.args.present.now c.args.checkpoints.now.items _ _ _ c.args.place c.in-Some.index _ _ c.nearest.ensures c.as_slice.ensures.value c.in-Some.is
    c.index.ensures c.neighbour_after-later.ensures c.as_slice-2.ensures.value)
    c.requires.keeps (omega (arith, c.place_between-at.ensures.within, c.place-earlier.ensures.place))
    (omega (arith, c.place_between-at.ensures.within, c.place-2.ensures.place))
    (λ same. c.place_between-at.ensures.end (same ∙ sym c.place-2.ensures.place) ∙ c.place-2.ensures.place)
    c.in_ok-between.ensures.made c.in_ok-insert.ensures.items).1

pub returns-clause-back : goal.returns-clause-back
returns-clause-back g c =
    ap (λ cs. remove cs c.in-Some.index) c.in_ok-insert.ensures.items ∙ remove-insert c.args.checkpoints.now.items c.in-Some.index c.in_ok-between.between
    (omega (arith, nearest_below c.args.checkpoints.now.items _ _ c.args.place c.in-Some.index c.index.result.now c.nearest.ensures c.as_slice.ensures.value c.in-Some.is))

pub returns-in_default-clause-places : goal.returns-in_default-clause-places
returns-in_default-clause-places g c =
    let none = none_were_made _ _ c.args.place c.args.checkpoints.now.items (λ made. (c.requires.keeps made).close)
    (ap (λ cs. position (is_up_to c.args.place) cs) (sym c.as_slice.ensures.value) ∙ sym c.nearest.ensures ∙ c.in_default.is) in
    rw none refl

pub returns-then-place-earlier-clause-places : goal.returns-then-place-earlier-clause-places
returns-then-place-earlier-clause-places g c =
    room_was_there _ c.args.present.now c.args.checkpoints.now.items c.args.place c.in-Some.index _ _
    (stands_between c.args.present.now c.args.checkpoints.now.items _ _ _ c.args.place c.in-Some.index _ _ c.nearest.ensures c.as_slice.ensures.value c.in-Some.is
    c.index.ensures c.neighbour_after-later.ensures c.as_slice-2.ensures.value)
    (omega (arith, c.if-place-earlier.true, c.place.ensures.place, c.place-earlier.ensures.place))

pub returns-clause-places : goal.returns-clause-places
returns-clause-places g c =
    room_is_made c.args.width c.args.present.now c.args.checkpoints.now.items c.insert.new.self.items c.args.place c.in-Some.index c.place_between-at.result
    c.index.result.now c.neighbour_after-later.result.now c.in_ok-between.between
    (stands_between c.args.present.now c.args.checkpoints.now.items _ _ _ c.args.place c.in-Some.index _ _ c.nearest.ensures c.as_slice.ensures.value c.in-Some.is
    c.index.ensures c.neighbour_after-later.ensures c.as_slice-2.ensures.value)
    (omega (arith, c.if-place-earlier.false, c.place.ensures.place, c.place-earlier.ensures.place))
    (omega (arith, c.place_between-at.ensures.within, c.place-2.ensures.place))
    (c.place_between-at.ensures.place ∙ rw (c.place-earlier.ensures.place, c.place-2.ensures.place) refl)
    c.in_ok-between.ensures.made c.in_ok-insert.ensures.items

pub stand_between-requires-clause-later : goal.stand_between-requires-clause-later
stand_between-requires-clause-later g c =
    let stands = stands_between c.args.present.now c.args.checkpoints.now.items _ _ _ c.args.place c.in-Some.index _ _ c.nearest.ensures c.as_slice.ensures.value c.in-Some.is
    c.index.ensures c.neighbour_after-later.ensures c.as_slice-2.ensures.value in
    let below = (below_of c.args.present.now c.args.checkpoints.now.items c.args.place c.in-Some.index _ _ stands).0 in
    later_holds c.args.present.now c.args.checkpoints.now.items c.in-Some.index _ _ (c.requires.keeps (one_is_there c.args.checkpoints.now.items _ below)).first_rows below
    stands.later_is
