use Rattle.std.proofs.Common.{sym, ◌∙◌}
use Rattle.fates.specs.declared.fate.Fate.TheVariants as fates
use Rattle.timelines.specs.Kept.{named}
use Rattle.timelines.proofs.FateOutcomes.{IsRowAt, fate_nowhere, fate_no_item, fate_stays, fate_taken, own_fate, own_replayable}
use Rattle.timelines.proofs.named_timeline.NamedTimeline.fate.Goals as goal

pub returns-in_default : goal.returns-in_default
returns-in_default g c =
    rw (← c.self.view_is, c.no_row.ensures)
    (sym (fate_nowhere _ c.args.number (rw c.timeline-timeline.ensures.rows at (sym c.place_of.ensures.place ∙ c.in_default.is))))

pub returns-then-not-adds : goal.returns-then-not-adds
returns-then-not-adds g c =
    let t = named c.self.inside.name c.self.inside.session in
    let at : IsRowAt t c.args.number c.in-Some.place c.row_at-row.result = record {
      place_is = rw c.timeline-timeline.ensures.rows at (sym c.place_of.ensures.place ∙ c.in-Some.is);
      row_is = rw c.timeline-timeline.ensures.rows at c.row_at-row.ensures;
    } in
    rw (← c.self.view_is, c.refused.ensures)
    (sym (fate_no_item t c.args.number c.in-Some.place c.row_at-row.result at (sym c.adds.ensures ∙ c.if-not-adds.true)))

pub fate_of-requires-clause-replayable : goal.fate_of-requires-clause-replayable
fate_of-requires-clause-replayable g c =
    own_replayable c.self.inside.session.kind c.timeline-timeline.result.now c.in-Some.place (rw (← c.timeline-timeline.ensures.rows) at c.timeline-timeline.ensures.timeline.replayable)

pub returns-in-Stays : goal.returns-in-Stays
returns-in-Stays g c =
    let t = named c.self.inside.name c.self.inside.session in
    let at : IsRowAt t c.args.number c.in-Some.place c.row_at-row.result = record {
      place_is = rw c.timeline-timeline.ensures.rows at (sym c.place_of.ensures.place ∙ c.in-Some.is);
      row_is = rw c.timeline-timeline.ensures.rows at c.row_at-row.ensures;
    } in
    let stays = own_fate t.kind t.rows c.in-Some.place c.row_at-row.result fates.Stays c.timeline-timeline.ensures.timeline.replayable at.row_is
    (rw (c.in-Stays.is, c.timeline-timeline.ensures.rows) at (c.fate_of.ensures c.row_at-row.result c.row_at-row.ensures)) in
    rw (← c.self.view_is) (sym (fate_stays t c.args.number c.in-Some.place c.row_at-row.result at (sym c.adds.ensures ∙ c.if-not-adds.false) stays))

pub returns-in-Taken : goal.returns-in-Taken
returns-in-Taken g c =
    let t = named c.self.inside.name c.self.inside.session in
    let at : IsRowAt t c.args.number c.in-Some.place c.row_at-row.result = record {
      place_is = rw c.timeline-timeline.ensures.rows at (sym c.place_of.ensures.place ∙ c.in-Some.is);
      row_is = rw c.timeline-timeline.ensures.rows at c.row_at-row.ensures;
    } in
    let taken = own_fate t.kind t.rows c.in-Some.place c.row_at-row.result (fates.Taken c.in-Taken.place) c.timeline-timeline.ensures.timeline.replayable at.row_is
    (rw (c.in-Taken.is, c.timeline-timeline.ensures.rows) at (c.fate_of.ensures c.row_at-row.result c.row_at-row.ensures)) in
    rw (← c.self.view_is, c.taken_by.ensures)
    (sym (fate_taken t c.args.number c.in-Some.place c.in-Taken.place c.row_at-row.result c.row_at.result at (sym c.adds.ensures ∙ c.if-not-adds.false) taken
    (rw c.timeline-timeline.ensures.rows at c.row_at.ensures)))
