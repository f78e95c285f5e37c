use Rattle.std.proofs.Common.{ap, ◌∙◌, position}
use Rattle.timelines.specs.Kept.{is_kept_as}
use Rattle.timelines.proofs.KeptTimelines.{index_shown}
use Rattle.timelines.proofs.timelines.Timelines.index_of.Goals as goal

pub returns : goal.returns
returns g c =
    rw (← c.self.view_is)
    (c.index_named.ensures ∙ ap (position (is_kept_as c.args.name.now)) c.as_slice.ensures.value ∙ index_shown c.args.name.now c.self.inside.timelines.items)
