-- What contracts see of a sink at which nothing waits.
use Rattle.std.specs.Borrow.{GName}
use Rattle.retro_io.specs.declared.direct_sink.DirectSink.{DirectSink}

-- the sink behind it
abbrev pub sink_behind : {K : Type 0} → DirectSink K → K
sink_behind direct = direct.sink.now

-- the name of the reference to that sink, by which a caller knows that it is still its own
abbrev pub reference_behind : {K : Type 0} → DirectSink K → GName
reference_behind direct = direct.sink.ghost_name
