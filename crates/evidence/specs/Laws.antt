-- Laws of the grammar: each evidence has one line, and each line one evidence.
use Rattle.std.specs.Prelude.{◌≡◌, ◌≤◌, ℕ, List, length, Some}
use Rattle.evidence.specs.declared.evidence.Evidence.{Evidence}
use Rattle.evidence.specs.Spelling.{spelling}
use Rattle.evidence.specs.Evidence.{IsEvidence}
use Rattle.evidence.specs.Reading.{evidence_of}

-- what is printed reads back
abbrev pub PrintedReadsBack : Type 0
PrintedReadsBack = (e : Evidence) → IsEvidence e → evidence_of (spelling e) ≡ Some e

-- lines that read to one value are one line, so two different lines are two different values
abbrev pub LinesAreValues : Type 0
LinesAreValues = (line other : List ℕ) (e : Evidence) → evidence_of line ≡ Some e → evidence_of other ≡ Some e → line ≡ other

-- no line has more than 160 bytes
abbrev pub LinesAreShort : Type 0
LinesAreShort = (e : Evidence) → IsEvidence e → length (spelling e) ≤ 160
