use Rattle.std.proofs.Common.{ap, sym, ◌∙◌}
use Rattle.std.specs.Prelude.{slice_get}
use Rattle.retro_base.specs.MarkedChange.{least_survivor}
use Rattle.retro_base.proofs.bridges.Search.{least_at_end}
use Rattle.retro_base.proofs.bridge_search.least_survivor.Goals as goal

pub returns-then-place-rows : goal.returns-then-place-rows
returns-then-place-rows c =
    c.get.ensures ∙ ap (λ held. slice_get held 0) c.requires.alive ∙ sym (least_at_end c.args.rows.now c.requires.history)
    ∙ ap (least_survivor c.args.rows.now) (sym c.if-place-rows.true)
