use Rattle.std.proofs.Common.{◌≡◌, ℕ, List, ◌⊎◌, inl, inr, refl, Ok}
use Rattle.retro_base.specs.declared.op.Op.{Op}
use Rattle.script_grammar.specs.declared.command.Command.{Command}
use Rattle.script_grammar.specs.declared.command.Command.TheVariants.{Insert, Delete, Move, Change, Fate, Ask, Undo, Redo, Save}
use Rattle.script_grammar.specs.declared.command.Moment.{Moment}
use Rattle.script_grammar.specs.declared.command.Query.{Query}
use Rattle.script_grammar.specs.declared.command.Spot.{Spot}
use Rattle.reactions.specs.Bench.{NamedTimeline}
use Rattle.reactions.specs.Reaction.{obeys, on_named}
use Rattle.timelines.specs.AnsweredLine.{performs}
use Rattle.timelines.proofs.timelines.Timelines.obey.Goals as goal

-- a command about the timeline of this name is performed by it
by_name : (timelines : List NamedTimeline) (command : Command) (name : List ℕ)
    → ((spot : Spot) × (op : Op) × (command ≡ Insert name spot op)) ⊎ (((number : ℕ) × (command ≡ Delete name number)) ⊎ (((number : ℕ) × (time : ℕ) × (command ≡ Move name number time))
    ⊎ (((number : ℕ) × (op : Op) × (command ≡ Change name number op)) ⊎ (((number : ℕ) × (command ≡ Fate name number))
    ⊎ (((moment : Moment) × (query : Query) × (command ≡ Ask name moment query)) ⊎ ((command ≡ Undo name) ⊎ ((command ≡ Redo name) ⊎ (command ≡ Save name))))))))
    → obeys timelines (Ok command) ≡ on_named name (λ timeline. performs timeline command) timelines
by_name timelines command name (inl (spot, op, is)) = rw is refl
by_name timelines command name (inr (inl (number, is))) = rw is refl
by_name timelines command name (inr (inr (inl (number, time, is)))) = rw is refl
by_name timelines command name (inr (inr (inr (inl (number, op, is))))) = rw is refl
by_name timelines command name (inr (inr (inr (inr (inl (number, is)))))) = rw is refl
by_name timelines command name (inr (inr (inr (inr (inr (inl (moment, query, is))))))) = rw is refl
by_name timelines command name (inr (inr (inr (inr (inr (inr (inl is))))))) = rw is refl
by_name timelines command name (inr (inr (inr (inr (inr (inr (inr (inl is)))))))) = rw is refl
by_name timelines command name (inr (inr (inr (inr (inr (inr (inr (inr is)))))))) = rw is refl

pub returns-in-Insert : goal.returns-in-Insert
returns-in-Insert g c =
    rw (c.in-Ok.is, by_name c.args.self.now c.in-Ok.command c.in-Insert.name c.in-Insert.is) c.perform.ensures
