use Rattle.std.proofs.Common.{ap, ◌∙◌}
use Rattle.std.specs.List.{list_any}
use Rattle.timelines.specs.Kept.{is_kept_as}
use Rattle.timelines.proofs.KeptTimelines.{any_shown}
use Rattle.timelines.proofs.timelines.Timelines.has.Goals as goal

pub returns : goal.returns
returns g c =
    rw (← c.self.view_is)
    (c.has_name.ensures ∙ ap (list_any (is_kept_as c.args.name.now)) c.as_slice.ensures.value ∙ any_shown c.args.name.now c.self.inside.timelines.items)
