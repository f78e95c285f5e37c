-- What is told of a line outside a block: of the effect that it has on the timelines or on one of them.
use Rattle.std.proofs.Common.{◌≡◌, ℕ, Bool, List, [], ◌++◌, refl, set, Result, Ok, Err, IfOk, OnOk}
use Rattle.script_grammar.specs.declared.command.Command.{Command}
use Rattle.script_grammar.specs.declared.command.Command.TheVariants.{Insert, Delete, Move, Change, Fate, Ask, Undo, Redo, Save}
use Rattle.script_grammar.specs.declared.command.Moment.{Moment}
use Rattle.script_grammar.specs.declared.command.Query.{Query}
use Rattle.script_grammar.specs.declared.command.Spot.{Spot}
use Rattle.retro_base.specs.declared.op.Op.{Op}
use Rattle.reactions.specs.declared.outcome.Outcome.{Outcome}
use Rattle.reactions.specs.declared.outcome.Outcome.TheVariants.{Silent}
use Rattle.reactions.specs.Bench.{NamedTimeline}
use Rattle.reactions.specs.Outcome.{is_refusal, reply_text}
use Rattle.reactions.specs.Reaction.{Effect}
use Rattle.reactions.specs.TimelineEffects.{TimelineEffect, unchanged}
use Rattle.timelines.specs.AnsweredLine.{IsTold, performs, performs_other, told}

-- the outcome of the effect was told
pub told_by : {E : Type 0} (result : Result Bool E) (effect : Effect) (timelines : List NamedTimeline) (outcome : Outcome) (text : List ℕ)
    → effect ≡ record { timelines = timelines; outcome = outcome } → OnOk result (text ≡ reply_text outcome) → IfOk result (λ refused. refused ≡ is_refusal outcome)
    → IfOk result (λ refused. told effect ≡ record { timelines = timelines; answer = text; refused = refused })
told_by (Ok refused) effect timelines outcome text done written refuses =
    let is_text : text ≡ reply_text outcome = written in
    let is_refused : refused ≡ is_refusal outcome = refuses in
    rw (done, is_text, is_refused) refl
told_by (Err e) effect timelines outcome text done written refuses = tt

-- the outcome of what one timeline makes of a command was told
pub told_by_one : {E : Type 0} (result : Result Bool E) (effect : TimelineEffect) (after : NamedTimeline) (outcome : Outcome) (before text : List ℕ)
    → effect ≡ record { timeline = after; outcome = outcome } → OnOk result (text ≡ before ++ reply_text outcome) → IfOk result (λ refused. refused ≡ is_refusal outcome)
    → IfOk result (IsTold effect after before text)
told_by_one (Ok refused) effect after outcome before text done written refuses =
    record { timeline = rw done refl; answer = rw done written; refused = rw done refuses }
told_by_one (Err e) effect after outcome before text done written refuses = tt

-- and so what becomes of all of them, where it is one of these
pub told_of_all : (effect : TimelineEffect) (timelines : List NamedTimeline) (index : ℕ) (after : NamedTimeline) (before text : List ℕ) (refused : Bool) → before ≡ []
    → IsTold effect after before text refused
    → told (record { timelines = set timelines index effect.timeline; outcome = effect.outcome }) ≡ record { timelines = set timelines index after; answer = text; refused = refused }
told_of_all effect timelines index after before text refused empty is = rw (is.timeline, is.answer, is.refused, empty) refl

-- a command that is neither a question nor the edit of one row
pub other_command : (timeline : NamedTimeline) (command : Command) → ((name : List ℕ) (moment : Moment) (query : Query) → command ≡ Ask name moment query → ⊥)
    → ((name : List ℕ) (spot : Spot) (op : Op) → command ≡ Insert name spot op → ⊥) → ((name : List ℕ) (number : ℕ) → command ≡ Delete name number → ⊥)
    → performs timeline command ≡ performs_other timeline command
other_command timeline (Ask name moment query) ask insert delete = absurd (ask name moment query refl)
other_command timeline (Insert name spot op) ask insert delete = absurd (insert name spot op refl)
other_command timeline (Delete name number) ask insert delete = absurd (delete name number refl)
other_command timeline command ask insert delete = refl

-- and one that is none of the others either
pub silent_command : (timeline : NamedTimeline) (command : Command) → ((name : List ℕ) (number time : ℕ) → command ≡ Move name number time → ⊥)
    → ((name : List ℕ) (number : ℕ) (op : Op) → command ≡ Change name number op → ⊥) → ((name : List ℕ) (number : ℕ) → command ≡ Fate name number → ⊥)
    → ((name : List ℕ) → command ≡ Undo name → ⊥) → ((name : List ℕ) → command ≡ Redo name → ⊥) → ((name : List ℕ) → command ≡ Save name → ⊥)
    → performs_other timeline command ≡ unchanged timeline Silent
silent_command timeline (Move name number time) move change fate undo redo save = absurd (move name number time refl)
silent_command timeline (Change name number op) move change fate undo redo save = absurd (change name number op refl)
silent_command timeline (Fate name number) move change fate undo redo save = absurd (fate name number refl)
silent_command timeline (Undo name) move change fate undo redo save = absurd (undo name refl)
silent_command timeline (Redo name) move change fate undo redo save = absurd (redo name refl)
silent_command timeline (Save name) move change fate undo redo save = absurd (save name refl)
silent_command timeline command move change fate undo redo save = refl
