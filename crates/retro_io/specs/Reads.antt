-- What one call of the reader took from its source, and what it made of it.
use Rattle.std.specs.Prelude.{◌≡◌, ℕ, Bool, true, false, ◌<◌, ◌⊎◌, List, [], ◌∷◌, ◌++◌, length, Option, Result, Ok, Err}
use Rattle.retro_io.specs.declared.mark.Mark.{Mark}
use Rattle.retro_io.specs.declared.mark.Mark.TheVariants.{Whole, Long, End}
use Rattle.retro_io.specs.declared.mark.ReadError.{ReadError}
use Rattle.retro_io.specs.declared.mark.ReadError.TheVariants.{ReadFault, TooLong}
use Rattle.retro_io.specs.Lines.{line_feed, has_line_feed, without_return}
use Rattle.retro_io.specs.Marks.{Shows}
use Rattle.retro_io.specs.Source.{Gives}

-- so many bytes were taken, and this holds of them
pub record Took (before after : Option (List ℕ)) (count : ℕ) (P : List ℕ → Type 0) : Type 0 where
  pub got : List ℕ
  pub gives : Gives before got after
  pub counts : length got ≡ count
  pub holds : P got

-- the first piece of the bytes is given, with its line feed, or without one at the end of the input
pub record GivesPiece (mark : Mark) (shown : List ℕ) (ended : Bool) (bytes after : List ℕ) : Type 0 where
  pub piece : List ℕ
  pub unbroken : has_line_feed piece ≡ false
  pub shows : Shows mark shown (without_return piece)
  pub cut : (bytes ≡ piece ++ line_feed ∷ after) ⊎ ((bytes ≡ piece) × (after ≡ []) × (ended ≡ true) × (0 < length piece))

-- a piece is given, or there is none
abbrev pub GivesFirst : Mark → List ℕ → Bool → List ℕ → List ℕ → Type 0
GivesFirst Whole shown ended bytes after = GivesPiece Whole shown ended bytes after
GivesFirst Long shown ended bytes after = GivesPiece Long shown ended bytes after
GivesFirst End shown ended bytes after = (bytes ≡ []) × (after ≡ []) × (ended ≡ true)

-- the bytes have no line feed, but perhaps at their very end
abbrev pub IsUnbrokenBeforeLast : List ℕ → Type 0
IsUnbrokenBeforeLast bytes = (prefix : List ℕ) × (last : ℕ) × (bytes ≡ prefix ++ last ∷ []) × (has_line_feed prefix ≡ false)

-- what a call made of the bytes held and of those that it got
abbrev pub MakesOf : Result Mark ReadError → List ℕ → Bool → List ℕ → List ℕ → List ℕ → Type 0
MakesOf (Ok mark) shown ended held after got = GivesFirst mark shown ended (held ++ got) after
MakesOf (Err ReadFault) shown ended held after got = has_line_feed got ≡ false
MakesOf (Err TooLong) shown ended held after got = IsUnbrokenBeforeLast got
