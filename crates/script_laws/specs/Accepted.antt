-- What a script writes is true: the judge of its output accepts every line of evidence.
use Rattle.std.specs.Prelude.{◌≡◌, ℕ, List}
use Rattle.std.specs.List.{count_by}
use Rattle.retro_io.specs.Lines.{lines}
use Rattle.evidence_check.specs.Judgement.{accepted, is_evidence_line, judgement}
use Rattle.retro_run.specs.Output.{output}

-- the lines that a script writes
abbrev pub written : List ℕ → List (List ℕ)
written bytes = lines (output bytes)

-- whatever the script, they are accepted, in as many lines as are evidence
abbrev pub WhatIsWrittenIsAccepted : Type 0
WhatIsWrittenIsAccepted = (bytes : List ℕ) → judgement (written bytes) ≡ accepted (count_by is_evidence_line (written bytes))
