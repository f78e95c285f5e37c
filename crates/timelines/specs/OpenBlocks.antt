-- What an unclosed block makes at its close.
use Rattle.std.specs.Prelude.{◌≡◌, Bool, List, Result, Ok, Err}
use Rattle.retro_base.specs.declared.row.Row.{Row}
use Rattle.timeline_file.specs.declared.block.BlockError.{BlockError}
use Rattle.timeline_file.specs.Block.{finished}
use Rattle.timelines.specs.declared.loading.LoadedTimeline.{LoadedTimeline}
use Rattle.reactions.specs.Bench.{OpenBlock}
use Rattle.timelines.specs.Kept.{unspent}
use Rattle.reactions.specs.Reaction.{of_block}
use Rattle.reactions.specs.Reported.{loaded_evidence}

-- the timeline of the rows that the block comes to, or what is wrong with it
abbrev pub ComesToTimeline : {S : Type 0} → OpenBlock → Bool → Result (LoadedTimeline S) BlockError → Type 0
ComesToTimeline unclosed ended (Ok loaded) =
    (rows : List Row) × (finished unclosed.block ended ≡ Ok rows) × (loaded.timeline ≡ unspent (of_block unclosed rows))
    × (loaded.evidence ≡ loaded_evidence unclosed.name unclosed.block.kind rows)
ComesToTimeline unclosed ended (Err error) = finished unclosed.block ended ≡ Err error
