-- What contracts see of a line reader.
use Rattle.std.specs.Prelude.{◌≡◌, ℕ, Bool, true, false, ◌+◌, ◌-◌, ◌≤◌, ◌<◌, List, [], ◌++◌, length, take, Option, None, Some, Result, Ok, IfSome, IsTrue, IsErrOf, is_err, ◌↔◌}
use Rattle.std.specs.Borrow.{GName}
use Rattle.retro_io.specs.declared.line_reader.LineReader.{LineReader}
use Rattle.retro_io.specs.declared.mark.Mark.{Mark}
use Rattle.retro_io.specs.declared.mark.Mark.TheVariants.{End}
use Rattle.retro_io.specs.declared.mark.ReadError.{ReadError}
use Rattle.retro_io.specs.declared.mark.ReadError.TheVariants.{ReadFault, TooLong}
use Rattle.retro_io.specs.declared.source.Source.{Ghosts}
use Rattle.retro_io.specs.Faults.{count_after}
use Rattle.retro_io.specs.Lines.{has_line_feed}
use Rattle.retro_io.specs.Marks.{GivesNextOf, Measures, gives_line}
use Rattle.retro_io.specs.DueReads.{WereDue}
use Rattle.retro_io.specs.Reads.{MakesOf, Took}
use Rattle.retro_io.specs.Source.{GivesCount}

-- the bytes not given yet: those held, and then those left in the source, where it tells them
abbrev pub held_and_left : List ℕ → Option (List ℕ) → Option (List ℕ)
held_and_left held None = None
held_and_left held (Some bytes) = Some (held ++ bytes)

module _ {S : Type 0} {G : Ghosts S} where
  -- the bytes that the reader took and has not given yet; of those after an error nothing is said
  abbrev pub held : LineReader S G → List ℕ
  held r = r.buffer.held

  -- what the reader shows of the line that it gave last
  abbrev pub line_of : LineReader S G → List ℕ
  line_of r = r.buffer.shown

  -- how many bytes the reader took
  abbrev pub taken : LineReader S G → ℕ
  taken r = r.taken

  -- how many bytes the reader gave
  abbrev pub given : LineReader S G → ℕ
  given r = taken r - length (held r)

  -- the most bytes that the input may have
  abbrev pub limit_of : LineReader S G → ℕ
  limit_of r = r.limit

  -- a read of the reader's own answered the end
  abbrev pub has_ended : LineReader S G → Bool
  has_ended r = r.ended

  -- a call answered an error
  abbrev pub has_failed : LineReader S G → Bool
  has_failed r = r.failed

  -- the source below the reader's reference
  abbrev pub source_of : LineReader S G → S
  source_of r = r.source.now

  -- the name of that reference, by which a caller knows that it is still its own
  abbrev pub reference_of : LineReader S G → GName
  reference_of r = r.source.ghost_name

  -- the bytes not given yet, where the source tells its own
  abbrev pub rest_of : LineReader S G → Option (List ℕ)
  rest_of r = held_and_left (held r) (G.left (source_of r))

  -- it has taken nothing yet
  pub record IsUnread (reader : LineReader S G) : Type 0 where
    pub held : held reader ≡ []
    pub taken : taken reader ≡ 0
    pub unended : has_ended reader ≡ false
    pub unfailed : has_failed reader ≡ false

  -- a reader moves on: it took more bytes of its own source, one past its limit at the most
  pub record MovesOn (before after : LineReader S G) : Type 0 where
    pub reference : reference_of after ≡ reference_of before
    pub limit : limit_of after ≡ limit_of before
    pub more : taken before ≤ taken after
    pub within : taken after ≤ limit_of after + 1
    pub count : G.taken (source_of after) ≡ count_after (G.taken (source_of before)) (taken after - taken before)
    pub left : GivesCount (G.left (source_of before)) (taken after - taken before) (G.left (source_of after))

  -- after a call it shows whether the answer was an error, and by one byte past its limit that there were too many
  abbrev pub ShowsErrors : Result Mark ReadError → LineReader S G → Type 0
  ShowsErrors answer after = (has_failed after ≡ is_err answer) × (IsErrOf answer TooLong ↔ (taken after ≡ limit_of after + 1))

  -- the source stays where a whole line is held, and where a read has answered the end, which then is the answer
  pub record KeepsSource (answer : Result Mark ReadError) (before after : LineReader S G) : Type 0 where
    pub line : has_line_feed (held before) ≡ true → source_of after ≡ source_of before
    pub end : has_ended before ≡ true → (source_of after ≡ source_of before) × (answer ≡ Ok End)

  -- a call took some bytes by reads that were due, and made its answer of the bytes held and of these
  abbrev pub TookForLine : Result Mark ReadError → LineReader S G → LineReader S G → Type 0
  TookForLine answer before after =
      Took (G.left (source_of before)) (G.left (source_of after)) (taken after - taken before)
      (λ got. MakesOf answer (line_of after) (has_ended after) (held before) (held after) got
      × WereDue G.reads (limit_of before - taken before) (held before) (has_ended before) (source_of before) got (source_of after))

  -- it gives the next line of its bytes, or comes to the end of them
  pub record GivesLine (mark : Mark) (before after : LineReader S G) : Type 0 where
    pub lines : GivesNextOf mark (line_of after) (has_ended after) (rest_of before) (rest_of after)
    pub shown : Measures mark (line_of after)
    pub progress : IsTrue (gives_line mark) → given before < given after
    pub at_end : mark ≡ End → (held after ≡ []) × (has_ended after ≡ true) × (G.ended (source_of after) ≡ true)

  -- it stops at an error, where it held no whole line and took none: none at all up to a failed read, or none within its limit
  pub record StopsAt (error : ReadError) (before after : LineReader S G) : Type 0 where
    pub unbroken : has_line_feed (held before) ≡ false
    pub unbroken_taken : error ≡ ReadFault → IfSome (G.left (source_of before)) (λ bytes. has_line_feed (take (taken after - taken before) bytes) ≡ false)
    pub unbroken_first : error ≡ TooLong → IfSome (G.left (source_of before)) (λ bytes. has_line_feed (take (limit_of before - taken before) bytes) ≡ false)
