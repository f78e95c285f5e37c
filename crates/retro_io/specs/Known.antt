-- What the source and the sink over std do with the bytes of their reader and their writer, where std's own contract knows them.
use Rattle.std.specs.Prelude.{◌≡◌, ℕ, ◌<◌, List, [], Option, Result, MatchResult}
use Rattle.std.specs.Io.KnownBytes.{Consumes, IsAtEnd, Keeps}
use Rattle.retro_io.specs.declared.std_source.StdSource.{StdSource}
use Rattle.retro_io.specs.declared.std_sink.StdSink.{StdSink}

-- the reader after a source
abbrev pub reader_of : {R : Type 0} → StdSource R → R
reader_of source = source.reader

-- the writer after a sink
abbrev pub writer_of : {W : Type 0} → StdSink W → W
writer_of sink = sink.writer

-- a read gave the next of the reader's bytes, none only at their end or into an empty buffer; one that failed took none
abbrev pub ReadsKnown : {E : Type 0} → Option (List ℕ) → ℕ → Result (List ℕ) E → Option (List ℕ) → Type 0
ReadsKnown before room answer after =
    MatchResult answer (λ bytes. Consumes before after bytes × (bytes ≡ [] → 0 < room → IsAtEnd after)) (λ _. Keeps before after)
