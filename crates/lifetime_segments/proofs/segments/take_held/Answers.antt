use Rattle.std.proofs.Common.{subst, sym, ◌∙◌, arith}
use Rattle.lifetime_segments.specs.Lifetimes.{stands_earlier}
use Rattle.lifetime_segments.specs.OrderedLaws.{without-none}
use Rattle.lifetime_segments.specs.Tries.{AreHeld}
use Rattle.lifetime_segments.proofs.Held.{held_one, held_without, held_lies}
use Rattle.lifetime_segments.proofs.Places.{position-some, position-none, position-within, position-remove}
use Rattle.lifetime_segments.proofs.segments.take_held.Goals as goal

pub returns-in_default-clause-rest : goal.returns-in_default-clause-rest
returns-in_default-clause-rest g c =
    let earlier = stands_earlier g.O.Order.stands_before in
    sym (without-none earlier c.args.life c.args.held.now (position-none earlier c.args.life c.args.held.now (sym c.position.ensures ∙ c.in_default.is)))

pub remove-requires : goal.remove-requires
remove-requires g c = record { within = position-within (stands_earlier g.O.Order.stands_before) c.args.life c.args.held.now c.in-Some.place (sym c.position.ensures ∙ c.in-Some.is) }

pub take-requires : goal.take-requires
take-requires g c =
    let some = position-some (stands_earlier g.O.Order.stands_before) c.args.life c.args.held.now c.in-Some.place (sym c.position.ensures ∙ c.in-Some.is) in
    record {
      level = omega arith;
      lies = held_lies g.met.O.Order.order c.args.life c.args.held.now c.args.root.now c.requires.held some.0;
      holds = (held_one g.met.O.Order.order c.args.life c.args.held.now c.args.root.now c.requires.held some.0).holds;
    }

pub returns-clause-found : goal.returns-clause-found
returns-clause-found g c = sym (position-some (stands_earlier g.O.Order.stands_before) c.args.life c.args.held.now c.in-Some.place (sym c.position.ensures ∙ c.in-Some.is)).0

pub returns-clause-rest : goal.returns-clause-rest
returns-clause-rest g c = c.remove.ensures.items ∙ position-remove (stands_earlier g.O.Order.stands_before) c.args.life c.args.held.now c.in-Some.place (sym c.position.ensures ∙ c.in-Some.is)

pub returns-clause-held : goal.returns-clause-held
returns-clause-held g c =
    let earlier = stands_earlier g.O.Order.stands_before in
    let there = sym c.position.ensures ∙ c.in-Some.is in
    let some = position-some earlier c.args.life c.args.held.now c.in-Some.place there in
    subst (λ held. AreHeld g.O.Order.stands_before held c.take.new.trie) (sym (c.remove.ensures.items ∙ position-remove earlier c.args.life c.args.held.now c.in-Some.place there))
    (held_without g.met.O.Order.order c.args.life c.args.held.now c.args.root.now c.take.new.trie c.requires.held some.0 c.take.ensures)
