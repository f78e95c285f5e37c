-- The timeline that has a name, and the effect on a bench of what becomes of it.
use Rattle.std.proofs.Common.{◌≡◌, ℕ, zero, suc, ◌+◌, ◌<◌, nat_le, true, false, List, [], ◌∷◌, length, get_or, set, position, refl, sym, ◌∙◌, ap, arith, Some, None}
use Rattle.std.specs.List.{position_from}
use Rattle.std.proofs.lemmas.List.Quantifiers.{position-Some}
use Rattle.std.proofs.lemmas.Iterator.Adapters.{position_from-zero}
use Rattle.retro_base.specs.Limits.{most_timelines}
use Rattle.reactions.specs.declared.outcome.Outcome.TheVariants.{Refused}
use Rattle.reactions.specs.declared.outcome.Refusal.TheVariants as refusals
use Rattle.std.proofs.lemmas.Slice.Eq.{bytes_eq-Decides}
use Rattle.timeline_undo.specs.Session.{SessionState}
use Rattle.reactions.specs.Bench.{NamedTimeline, is_named, has_timeline, timeline_of}
use Rattle.timelines.specs.Kept.{named}
use Rattle.reactions.specs.Reaction.{Effect, leaves, if_startable, with_first, on_named}
use Rattle.reactions.specs.TimelineEffects.{TimelineEffect}
use Rattle.retro_base.specs.Facts.{some_is_not_none}

pub taken_name : (timelines : List NamedTimeline) (name : List ℕ) (effect : Effect) → has_timeline name timelines ≡ true
    → if_startable timelines name effect ≡ leaves timelines (Refused refusals.NameTaken)
taken_name timelines name effect taken = rw taken refl

pub no_room : (timelines : List NamedTimeline) (name : List ℕ) (effect : Effect) → has_timeline name timelines ≡ false → nat_le most_timelines (length timelines) ≡ true
    → if_startable timelines name effect ≡ leaves timelines (Refused refusals.Timelines)
no_room timelines name effect free full = rw (free, full) refl

pub startable : (timelines : List NamedTimeline) (name : List ℕ) (effect : Effect) → has_timeline name timelines ≡ false → nat_le most_timelines (length timelines) ≡ false
    → if_startable timelines name effect ≡ effect
startable timelines name effect free room = rw (free, room) refl

-- the effect on the timeline at the index, where it is the first one of the name
on_named_at : (name : List ℕ) (effect : NamedTimeline → TimelineEffect) (bench : List NamedTimeline) (index : ℕ) (d : NamedTimeline) → index < length bench
    → is_named name (get_or bench index d) ≡ true → ((k : ℕ) → k < index → is_named name (get_or bench k d) ≡ false)
    → on_named name effect bench ≡ record { timelines = set bench index (effect (get_or bench index d)).timeline; outcome = (effect (get_or bench index d)).outcome }
on_named_at name effect [] index d below is others = absurd (omega arith)
on_named_at name effect (first ∷ bench) zero d below is others = rw is refl
on_named_at name effect (first ∷ bench) (suc index) d below is others =
    rw (others 0 (omega arith)) (ap (with_first first) (on_named_at name effect bench index d (omega arith) is (λ k less. others (suc k) (omega arith))))

pub on_named_found : (name : List ℕ) (effect : NamedTimeline → TimelineEffect) (bench : List NamedTimeline) (index : ℕ) (d : NamedTimeline) → position (is_named name) bench ≡ Some index
    → on_named name effect bench ≡ record { timelines = set bench index (effect (get_or bench index d)).timeline; outcome = (effect (get_or bench index d)).outcome }
on_named_found name effect bench index d at =
    let first = position-Some (is_named name) bench index d at in
    on_named_at name effect bench index d first.0 first.1 first.2

-- the timeline that was found
found_at : (name : List ℕ) (bench : List NamedTimeline) (index : ℕ) (d : NamedTimeline) → index < length bench
    → is_named name (get_or bench index d) ≡ true → ((k : ℕ) → k < index → is_named name (get_or bench k d) ≡ false)
    → timeline_of name bench ≡ Some (get_or bench index d)
found_at name [] index d below is others = absurd (omega arith)
found_at name (first ∷ bench) zero d below is others = rw is refl
found_at name (first ∷ bench) (suc index) d below is others =
    rw (others 0 (omega arith)) (found_at name bench index d (omega arith) is (λ k less. others (suc k) (omega arith)))

name_of : (name : List ℕ) (timeline : NamedTimeline) (session : SessionState) → is_named name timeline ≡ true → timeline ≡ named timeline.name session
    → timeline ≡ named name session
name_of name timeline session is over = over ∙ ap (λ n. named n session) ((bytes_eq-Decides timeline.name name).0 is)

pub session_found : (name : List ℕ) (bench : List NamedTimeline) (index : ℕ) (there : NamedTimeline) (session : SessionState) → Some index ≡ position (is_named name) bench
    → there ≡ get_or bench index there → there ≡ named there.name session → timeline_of name bench ≡ Some (named name session)
session_found name bench index there session at same over =
    let first = position-Some (is_named name) bench index there (sym at) in
    found_at name bench index there first.0 first.1 first.2
    ∙ ap (λ t. Some t) (sym same ∙ name_of name there session (rw (← same) at first.1) over)

none_from : (name : List ℕ) (bench : List NamedTimeline) (from : ℕ) → position_from (is_named name) from bench ≡ None → timeline_of name bench ≡ None
none_from name [] from nowhere = refl
none_from name (first ∷ bench) from nowhere =
    elim (is_named name first) as (λ b. is_named name first ≡ b → timeline_of name (first ∷ bench) ≡ None) [
      | true ↦ λ e. absurd (some_is_not_none (rw e at nowhere))
      | false ↦ λ e. rw e (none_from name bench (from + 1) (rw e at nowhere))
    ] refl

pub session_nowhere : (name : List ℕ) (bench : List NamedTimeline) → None ≡ position (is_named name) bench → timeline_of name bench ≡ None
session_nowhere name bench nowhere = none_from name bench 0 (sym (position_from-zero (is_named name) bench) ∙ sym nowhere)

-- no timeline has the name
nowhere_from : (name : List ℕ) (effect : NamedTimeline → TimelineEffect) (bench : List NamedTimeline) (from : ℕ) → position_from (is_named name) from bench ≡ None
    → on_named name effect bench ≡ leaves bench (Refused (refusals.NoTimeline name))
nowhere_from name effect [] from nowhere = refl
nowhere_from name effect (first ∷ bench) from nowhere =
    elim (is_named name first) as (λ b. is_named name first ≡ b → on_named name effect (first ∷ bench) ≡ leaves (first ∷ bench) (Refused (refusals.NoTimeline name))) [
      | true ↦ λ e. absurd (some_is_not_none (rw e at nowhere))
      | false ↦ λ e. rw e (ap (with_first first) (nowhere_from name effect bench (from + 1) (rw e at nowhere)))
    ] refl

pub on_named_nowhere : (name : List ℕ) (effect : NamedTimeline → TimelineEffect) (bench : List NamedTimeline) → None ≡ position (is_named name) bench
    → on_named name effect bench ≡ leaves bench (Refused (refusals.NoTimeline name))
on_named_nowhere name effect bench nowhere = nowhere_from name effect bench 0 (sym (position_from-zero (is_named name) bench) ∙ sym nowhere)
