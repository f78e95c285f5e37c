use Rattle.std.proofs.Common.{◌≡◌, ◌+◌, Some, None, refl, sym, ◌∙◌}
use Rattle.retro_base.specs.Edits.{add}
use Rattle.timelines.specs.Kept.{named}
use Rattle.reactions.specs.declared.outcome.Outcome.TheVariants.{Inserted}
use Rattle.reactions.specs.TimelineEffects.{new_row, position_of}
use Rattle.timelines.proofs.Memory.{edit_memory}
use Rattle.timelines.proofs.TimelineEffects.{edit_refused, edits_accepted, inserts_other_kind, inserts_at_position, inserts_fitting, inserts_nowhere, position_fits}
use Rattle.timelines.proofs.named_timeline.NamedTimeline.insert.Goals as goal

pub returns-then-not-takes-clause-ok : goal.returns-then-not-takes-clause-ok
returns-then-not-takes-clause-ok g c =
    rw c.refused.ensures (inserts_other_kind c.args.self.now.timeline c.args.spot c.args.op (sym c.takes.ensures ∙ c.if-not-takes.true))

pub returns-in_default-clause-ok : goal.returns-in_default-clause-ok
returns-in_default-clause-ok g c =
    let nowhere : position_of c.args.spot c.self.inside.session.rows ≡ None = rw c.timeline.ensures.rows at (sym c.position_of.ensures.position ∙ c.in_default.is) in
    rw (c.no_row.ensures, c.row_named.ensures)
    (inserts_nowhere c.args.self.now.timeline c.args.spot c.args.op (sym c.takes.ensures ∙ c.if-not-takes.false) (rw (← c.self.view_is) nowhere))

pub returns-in-Some-refusal_of_one_more-clause-ok : goal.returns-in-Some-refusal_of_one_more-clause-ok
returns-in-Some-refusal_of_one_more-clause-ok g c =
    let there : position_of c.args.spot c.self.inside.session.rows ≡ Some c.in-Some.position = rw c.timeline.ensures.rows at (sym c.position_of.ensures.position ∙ c.in-Some.is) in
    rw c.refused-in-Some-refusal_of_one_more.ensures
    (inserts_at_position c.args.self.now.timeline c.args.spot c.args.op c.in-Some.position (sym c.takes.ensures ∙ c.if-not-takes.false) (rw (← c.self.view_is) there) ∙ c.in-Some-refusal_of_one_more.ensures _)

pub insert-requires-clause-stands : goal.insert-requires-clause-stands
insert-requires-clause-stands g c =
    let there : position_of c.args.spot c.self.inside.session.rows ≡ Some c.in-Some.position = rw c.timeline.ensures.rows at (sym c.position_of.ensures.position ∙ c.in-Some.is) in
    (rw c.timeline.ensures.rows at c.in-Some.ensures.within, position_fits c.args.spot c.self.inside.session.rows c.in-Some.position c.timeline.ensures.timeline.in_order there)

pub returns-in-Ok-clause-ok : goal.returns-in-Ok-clause-ok
returns-in-Ok-clause-ok g c =
    let t = named c.self.inside.name c.self.inside.session in
    let position = c.in-Some.position in
    let there : position_of c.args.spot t.rows ≡ Some position = rw c.timeline.ensures.rows at (sym c.position_of.ensures.position ∙ c.in-Some.is) in
    let done = c.in-Ok.ensures in
    rw (← c.self.view_is, c.tell.ensures t.rows (rw done.session done.made), done.reported, done.row, done.session)
    (inserts_fitting t c.args.spot c.args.op position (rw (← c.self.view_is) at (sym c.takes.ensures ∙ c.if-not-takes.false)) there (rw (← c.self.view_is) at c.in_default-refusal_of_one_more.ensures).1
    ∙ edits_accepted t (add position.place (new_row t position c.args.op)) (t.next + 1) (Inserted t.next) (rw done.reported at done.made).after.valid)

pub returns-in-Err-clause-ok : goal.returns-in-Err-clause-ok
returns-in-Err-clause-ok g c =
    let t = named c.self.inside.name c.self.inside.session in
    let position = c.in-Some.position in
    let there : position_of c.args.spot t.rows ≡ Some position = rw c.timeline.ensures.rows at (sym c.position_of.ensures.position ∙ c.in-Some.is) in
    rw (← c.self.view_is, c.in-Err.ensures.err)
    (edit_refused t _ (add position.place (new_row t position c.args.op)) (t.next + 1) (Inserted t.next) _ _
    (inserts_fitting t c.args.spot c.args.op position (rw (← c.self.view_is) at (sym c.takes.ensures ∙ c.if-not-takes.false)) there (rw (← c.self.view_is) at c.in_default-refusal_of_one_more.ensures).1)
    c.in-Err.ensures.cause c.refused_by.ensures)

pub returns-in-Err-clause-memory : goal.returns-in-Err-clause-memory
returns-in-Err-clause-memory g c =
    let t = named c.self.inside.name c.self.inside.session in
    let position = c.in-Some.position in
    let there : position_of c.args.spot t.rows ≡ Some position = rw c.timeline.ensures.rows at (sym c.position_of.ensures.position ∙ c.in-Some.is) in
    rw (← c.self.view_is)
    (edit_memory t _ (add position.place (new_row t position c.args.op)) (t.next + 1) (Inserted t.next) _ _
    (inserts_fitting t c.args.spot c.args.op position (rw (← c.self.view_is) at (sym c.takes.ensures ∙ c.if-not-takes.false)) there (rw (← c.self.view_is) at c.in_default-refusal_of_one_more.ensures).1)
    refl c.in-Err.ensures.cause c.refused_by.ensures)
