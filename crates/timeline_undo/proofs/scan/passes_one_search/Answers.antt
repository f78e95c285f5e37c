use Rattle.std.proofs.Common.{refl, sym, ◌∙◌}
use Rattle.timeline_undo.proofs.Judged.{adds_after_cut, none_found, takes_after_put}
use Rattle.timeline_undo.proofs.scan.passes_one_search.Goals as goal

pub returns-then-adds : goal.returns-then-adds
returns-then-adds g c =
    λ passes.
    adds_after_cut _ _ c.args.replacement c.requires.replayable c.requires.replaces (sym c.adds.ensures ∙ c.if-adds.true)
    (sym c.failure_after_remove.ensures.first ∙ none_found _ _ c.is_none.ensures passes)

pub returns-else-adds-2 : goal.returns-else-adds-2
returns-else-adds-2 g c =
    λ passes.
    takes_after_put _ _ c.args.replacement c.requires.replayable c.requires.replaces (sym c.adds-else-adds.ensures ∙ c.if-adds-2.false)
    (sym (c.failure_after_insert.ensures.first c.args.replacement.new refl) ∙ none_found _ _ c.is_none-else-adds-2.ensures passes)
