use Rattle.std.proofs.Common.{ap, inl, inr, refl, sym, ◌∙◌}
use Rattle.std.specs.Option.{option_map}
use Rattle.retro_base.specs.Edits.{inverse_step}
use Rattle.timeline_undo.specs.KeptSteps.{taken_back}
use Rattle.timeline_undo.specs.Session.{step_reported}
use Rattle.timeline_undo.proofs.InTurn.{back_twice, ready}
use Rattle.timeline_undo.proofs.Rings.{steps-older, steps-more, steps-newest, no_newest}
use Rattle.timeline_undo.proofs.Sessions.{at_once, midway_spent, midway_timeline, newest_can, session_spent, session_undone}
use Rattle.timeline_undo.proofs.Shifts.{seen}
use Rattle.timeline_undo.proofs.session.Session.undo.Goals as goal

pub returns-in_default-clause-nothing : goal.returns-in_default-clause-nothing
returns-in_default-clause-nothing g c =
    (λ e. rw (← c.self.view_is) (no_newest step_reported c.self.inside.undo.items (sym c.newest.ensures ∙ c.in_default.is)), λ e. refl)

pub take_back-requires-clause-ready : goal.take_back-requires-clause-ready
take_back-requires-clause-ready g c =
    ready _ c.self.inside.next _ (taken_back c.in-Some.step)
    (newest_can _ _ _ c.self.inside.undo.items c.in-Some.step (sym c.newest.ensures ∙ c.in-Some.is) c.self.invariant.undoable)

pub invariant_of-self : goal.invariant_of-self
invariant_of-self g c =
    rw (c.in-Ok.ensures.kind, c.in-Ok.ensures.rows, c.pass_on.ensures.from, c.pass_on.ensures.to)
    (session_undone _ _ _ c.self.inside.timeline _ c.self.inside.undo c.self.inside.redo c.in-Some.step c.in-Ok.turns c.self.invariant
    (sym c.newest.ensures ∙ c.in-Some.is) c.in-Ok.ensures.reported (c.in-Ok.ensures.same ∙ c.in-Ok.ensures.rows))

pub invariant_of-self-in-Err-Midway : goal.invariant_of-self-in-Err-Midway
invariant_of-self-in-Err-Midway g c =
    rw (c.in-Err-Midway.ensures.kind, c.forget.ensures.undo, c.forget.ensures.redo)
    (session_spent _ _ _ _ c.self.inside.undo c.self.inside.redo c.self.invariant.undo_room c.self.invariant.redo_room c.in-Err-Midway.ensures.same
    (midway_timeline _ _ c.self.inside.timeline _ (taken_back c.in-Some.step) c.in-Err-Midway.field-0
    (newest_can _ _ _ c.self.inside.undo.items c.in-Some.step (sym c.newest.ensures ∙ c.in-Some.is) c.self.invariant.undoable)
    c.in-Err-Midway.field-0-is c.in-Err-Midway.ensures.err))

pub returns-in-Ok-clause-step : goal.returns-in-Ok-clause-step
returns-in-Ok-clause-step g c = (
  step_reported c.in-Some.step,
  rw (← c.self.view_is) (steps-newest step_reported c.self.inside.undo.items _ (sym c.newest.ensures ∙ c.in-Some.is)),
  sym c.in-Ok.ensures.reported,
  rw (← c.self.view_is, c.in-Ok.ensures.kind, c.in-Ok.ensures.rows, c.pass_on.ensures.from, c.pass_on.ensures.to)
      (rw (
        steps-older step_reported c.self.inside.undo.items,
        steps-more taken_back c.self.inside.redo.items _,
        back_twice c.in-Ok.turns c.in-Some.step c.in-Ok.ensures.reported,
      ) refl),
)

pub returns-in-Err-AtOnce-clause-err : goal.returns-in-Err-AtOnce-clause-err
returns-in-Err-AtOnce-clause-err g c = (
  taken_back c.in-Some.step,
  rw (← c.self.view_is) (ap (option_map inverse_step) (steps-newest step_reported c.self.inside.undo.items _ (sym c.newest.ensures ∙ c.in-Some.is))),
  inl (rw (← c.self.view_is, c.in-Err-AtOnce.ensures.kind, at_once _ _ (taken_back c.in-Some.step) _ c.in-Err-AtOnce.field-0-is c.in-Err-AtOnce.ensures.err) refl),
)

pub returns-in-Err-Midway-clause-err : goal.returns-in-Err-Midway-clause-err
returns-in-Err-Midway-clause-err g c =
    let before = seen (g.R.Retro.kind c.self.inside.structure) c.self.inside.timeline c.self.inside.next c.self.inside.undo c.self.inside.redo c.self.inside.spent in (
      taken_back c.in-Some.step,
      rw (← c.self.view_is) (ap (option_map inverse_step) (steps-newest step_reported c.self.inside.undo.items _ (sym c.newest.ensures ∙ c.in-Some.is))),
      inr (rw (← c.self.view_is, c.in-Err-Midway.ensures.kind, c.forget.ensures.undo, c.forget.ensures.redo)
          (midway_spent before _ c.self.inside.next (taken_back c.in-Some.step) c.in-Err-Midway.field-0 c.in-Err-Midway.field-0-is c.in-Err-Midway.ensures.err)),
    )
