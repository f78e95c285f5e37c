-- What a write does to the meanings of a sink, and what a list of writes was handed.
use Rattle.std.specs.Prelude.{◌≡◌, ℕ, ◌+◌, ◌<◌, List, ◌++◌, length, drop, Option, None, Some, Result, Ok, Err}
use Rattle.std.specs.Ffi.{without_last}
use Rattle.retro_base.specs.Text.{AppendsPrefix}

-- these bytes were appended, where the sink tells what was written
abbrev pub Appends : Option (List ℕ) → List ℕ → Option (List ℕ) → Type 0
Appends None bytes after = after ≡ None
Appends (Some written) bytes after = after ≡ Some (written ++ bytes)

-- a prefix of the bytes was appended, where the sink tells what was written
abbrev pub AppendsPrefixOf : Option (List ℕ) → List ℕ → Option (List ℕ) → Type 0
AppendsPrefixOf None bytes after = after ≡ None
AppendsPrefixOf (Some written) bytes None = ⊥
AppendsPrefixOf (Some written) bytes (Some now) = AppendsPrefix written now bytes

-- the same of a prefix that is not all of the bytes
abbrev pub AppendsProperPrefix : Option (List ℕ) → List ℕ → Option (List ℕ) → Type 0
AppendsProperPrefix before bytes after = (0 < length bytes) × AppendsPrefixOf before (without_last bytes) after

module _ {S E : Type 0} (writes : S → List ℕ → Result ℕ E → S → Type 0) (bytes : List ℕ) where
  -- writes took so many of the bytes, each of them handed all that those before it left
  pub data HandsAll (before : S) : ℕ → S → Type 0 where
    start : HandsAll before 0 before
    write : (count more : ℕ) (middle after : S) → HandsAll before count middle → count < length bytes → writes middle (drop count bytes) (Ok more) after → HandsAll before (count + more) after

  -- the same, and then a write failed, which was handed all that was left
  pub record HandsAllUntilFault (before after : S) : Type 0 where
    pub count : ℕ
    pub middle : S
    pub fault : E
    pub handed : HandsAll before count middle
    pub left : count < length bytes
    pub failed : writes middle (drop count bytes) (Err fault) after
