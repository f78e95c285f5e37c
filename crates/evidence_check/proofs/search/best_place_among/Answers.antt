use Rattle.std.proofs.Common.{◌≤◌, length, refl, ap, sym, ◌∙◌, arith}
use Rattle.std.specs.List.{flat_map}
use Rattle.retro_base.specs.Limits.{most_rows}
use Rattle.evidence_check.specs.Parts.{is_entry}
use Rattle.evidence_check.specs.Sought.{shown_by}
use Rattle.evidence_check.proofs.Walks.{best_of_none, fits, found_is, none_next_best, passed_next, shown_there, shown_within, small}
use Rattle.evidence_check.proofs.search.best_place_among.Goals as goal

pub loop-part-init : goal.loop-part-init
loop-part-init g c = (refl, ap (λ o. is_entry o c.args.entry) (sym (best_of_none c.args.sought c.args.place)))

pub best_place-requires-clause-few : goal.best_place-requires-clause-few
best_place-requires-clause-few g c = small g.P.Part.rows c.args.parts.now c.loop-part.part-index c.part-item.result c.loop-part-test.true c.part-item.is most_rows c.requires.few

pub best_place-requires-clause-there : goal.best_place-requires-clause-there
best_place-requires-clause-there g c = sym c.best.ensures ∙ found_is c.best.result c.args.entry (sym c.is_entry.ensures ∙ c.if-is_entry.true)

pub overflow_add-result : goal.overflow_add-result
overflow_add-result g c =
    let less = fits g.P.Part.rows c.args.parts.now c.loop-part.part-index c.part-item.result c.loop-part-test.true c.part-item.is in
    let few : length (flat_map g.P.Part.rows c.args.parts.now) ≤ most_rows = c.requires.few in
    let inside = shown_within (shown_by c.args.sought) (g.P.Part.rows c.part-item.result) c.best_place.result c.args.entry c.best_place.ensures in
    omega (arith, less, few, inside, c.loop-part.invariant.0)

pub returns-then-is_entry : goal.returns-then-is_entry
returns-then-is_entry g c = shown_there g.P.Part.rows c.args.parts.now c.loop-part.part-index c.part-item.result c.loop-part-test.true c.part-item.is (shown_by c.args.sought) c.loop-part.passed c.best_place.result c.args.entry c.loop-part.invariant.0 c.best_place.ensures

pub overflow_add-passed : goal.overflow_add-passed
overflow_add-passed g c =
    let less = fits g.P.Part.rows c.args.parts.now c.loop-part.part-index c.part-item.result c.loop-part-test.true c.part-item.is in
    let few : length (flat_map g.P.Part.rows c.args.parts.now) ≤ most_rows = c.requires.few in
    omega (arith, less, few, c.loop-part.invariant.0, ap (λ s. s.rows) c.sums-passed.ensures)

pub loop-part-preserved : goal.loop-part-preserved
loop-part-preserved g c = (
  passed_next g.P.Part.rows c.args.parts.now c.loop-part.part-index c.part-item.result c.loop-part-test.true c.part-item.is c.loop-part.passed c.sums-passed.result.rows c.loop-part.invariant.0 (ap (λ s. s.rows) c.sums-passed.ensures),
  none_next_best g.P.Part.rows c.args.parts.now c.loop-part.part-index c.part-item.result c.loop-part-test.true c.part-item.is c.args.sought c.args.place c.beyond-left.result c.args.entry c.best.result (omega (arith, c.beyond-left.ensures, c.loop-part.invariant.0)) c.loop-part.invariant.1
      c.best.ensures (sym c.is_entry.ensures ∙ c.if-is_entry.false),
)
