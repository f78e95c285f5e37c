use Rattle.std.proofs.Common.{arith, length-set}
use Rattle.reactions.specs.Reaction.{on_named}
use Rattle.timelines.specs.AnsweredLine.{performs}
use Rattle.reactions.specs.declared.outcome.Outcome.TheVariants.{Refused}
use Rattle.reactions.specs.declared.outcome.Refusal.TheVariants as refusals
use Rattle.timelines.proofs.AnsweredLine.{told_by}
use Rattle.timelines.proofs.KeptTimelines.{found_within, kept_told, unspent_found, unspent_others}
use Rattle.timelines.proofs.Named.{on_named_nowhere}
use Rattle.timelines.proofs.timelines.Timelines.perform.Goals as goal

pub index_mut-requires : goal.index_mut-requires
index_mut-requires g c = omega (arith, found_within c.args.name.now c.self.inside.timelines.items c.in-Some.index (rw (← c.self.view_is) at c.in-Some.ensures))

pub perform-refused-requires : goal.perform-refused-requires
perform-refused-requires g c = record {
  unspent = unspent_found c.args.name.now c.self.inside.timelines.items c.in-Some.index c.index_mut.result.now c.self.invariant
      (rw (← c.self.view_is) at c.in-Some.ensures) c.index_mut.ensures.value;
}

pub let_go_if_spent-requires-clause-there : goal.let_go_if_spent-requires-clause-there
let_go_if_spent-requires-clause-there g c =
    rw length-set (found_within c.args.name.now c.self.inside.timelines.items c.in-Some.index (rw (← c.self.view_is) at c.in-Some.ensures))

pub let_go_if_spent-requires-clause-others : goal.let_go_if_spent-requires-clause-others
let_go_if_spent-requires-clause-others g c = unspent_others c.self.inside.timelines.items c.in-Some.index c.perform-refused.new.self c.self.invariant

pub invariant_of-self : goal.invariant_of-self
invariant_of-self g c = c.let_go_if_spent.ensures.unspent

pub returns-in-Some : goal.returns-in-Some
returns-in-Some g c =
    rw (← c.self.view_is)
    (kept_told c.perform-refused.result c.args.name.now (λ timeline. performs timeline c.args.command.now) c.self.inside.timelines.items c.let_go_if_spent.new.timelines.items c.in-Some.index
    c.index_mut.result.now c.perform-refused.new.self c.args.answer.now c.perform-refused.new.answer c.requires.empty
    (rw (← c.self.view_is) at c.in-Some.ensures) c.index_mut.ensures.value c.perform-refused.ensures.told c.perform-refused.ensures.unspent c.let_go_if_spent.ensures.same)

pub returns-in-None : goal.returns-in-None
returns-in-None g c =
    told_by c.tell_refusal.result (on_named c.args.name.now (λ timeline. performs timeline c.args.command.now) c.args.self.now) c.args.self.now
    (Refused (refusals.NoTimeline c.args.name.now)) c.tell_refusal.new.answer
    (on_named_nowhere c.args.name.now (λ timeline. performs timeline c.args.command.now) c.args.self.now c.in-None.ensures)
    (rw c.requires.empty at c.tell_refusal.ensures.answer) c.tell_refusal.ensures.refused
