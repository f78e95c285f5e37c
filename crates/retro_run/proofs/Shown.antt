-- What is shown of a line that was given, and that whoever answers or judges a line needs no more of it.
use Rattle.std.proofs.Common.{◌≡◌, ℕ, Bool, true, false, List, length, take, refl, sym, ap, ◌∙◌, Option, Result, Ok, Err, arith}
use Rattle.std.proofs.lemmas.Bool.{le-ltb, lt-ltb, ltb-false}
use Rattle.std.proofs.lemmas.List.{take_all}
use Rattle.retro_base.specs.LineLength.{is_long}
use Rattle.retro_io.specs.declared.mark.Mark.{Mark}
use Rattle.retro_io.specs.declared.mark.Mark.TheVariants.{Whole, Long, End}
use Rattle.retro_io.specs.Lines.{longest_line}
use Rattle.retro_io.specs.Marks.{Shows}
use Rattle.evidence_check.specs.Judgement.{Judge, judged, judged_line}
use Rattle.evidence_check.specs.JudgementLaws.{judged-first}
use Rattle.reactions.specs.Bench.{Bench, OpenBlock}
use Rattle.reactions.specs.Reaction.{reacts}
use Rattle.reactions.specs.ReactionLaws.{reacts-first}
use Rattle.retro_run.specs.Audience.{Audience, follows, follows_to, mutes, turn}
use Rattle.retro_io.specs.declared.mark.ReadError.{ReadError}

-- a line is answered as a long one exactly where it is given as one
abbrev pub GivenAs : Mark → Bool → Type 0
GivenAs Whole long = long ≡ false
GivenAs Long long = long ≡ true
GivenAs End long = ⊥

-- its first bytes are shown, as many as a line may have, and whether it has more
pub record IsShown (long : Bool) (shown line : List ℕ) : Type 0 where
  pub bytes : take longest_line line ≡ shown
  pub more : is_long line ≡ long

pub shown_of : (mark : Mark) (long : Bool) (shown line : List ℕ) → GivenAs mark long → Shows mark shown line → IsShown long shown line
shown_of Whole long shown line as_given shows =
    record { bytes = take_all longest_line line shows.1 ∙ sym shows.0; more = le-ltb longest_line (length line) shows.1 ∙ sym as_given }
shown_of Long long shown line as_given shows = record { bytes = sym shows.0; more = lt-ltb longest_line (length line) shows.1 ∙ sym as_given }
shown_of End long shown line as_given shows = absurd as_given

-- a long line mutes nobody, whatever stands after its first bytes
mutes_long : (block : Option OpenBlock) (line first : List ℕ) (long : Bool) → (long ≡ false → first ≡ line) → mutes block line long ≡ mutes block first long
mutes_long block line first long whole = grind arith

module _ (long : Bool) (shown line : List ℕ) (is : IsShown long shown line) where
  -- what is made of the first bytes is made of what is shown
  of_shown : {X : Type 0} (f : List ℕ → Bool → X) → f (take longest_line line) (is_long line) ≡ f shown long
  of_shown f = ap (λ bytes. f bytes (is_long line)) is.bytes ∙ ap (f shown) is.more

  pub judged_shown : (judge : Judge) → judged judge line ≡ judged_line judge shown long
  judged_shown judge = judged-first judge line ∙ of_shown (judged_line judge)

  pub follows_shown : (bench : Bench) (who : Audience) → follows bench who line ≡ follows_to bench who shown long
  follows_shown bench who =
      let muted : mutes bench.block line (is_long line) ≡ mutes bench.block (take longest_line line) (is_long line) =
      mutes_long bench.block line (take longest_line line) (is_long line) (λ short. take_all longest_line line (ltb-false longest_line (length line) short)) in
      ap (λ m. turn who m (reacts bench line)) muted ∙ ap (turn who (mutes bench.block (take longest_line line) (is_long line))) (reacts-first bench line)
      ∙ of_shown (follows_to bench who)

-- what the reader answers
abbrev pub answer_of : Mark → Result Mark ReadError
answer_of mark = Ok mark

abbrev pub error_of : ReadError → Result Mark ReadError
error_of error = Err error

whole_is_not_end : answer_of Whole ≡ answer_of End → ⊥
whole_is_not_end e = cc

long_is_not_end : answer_of Long ≡ answer_of End → ⊥
long_is_not_end e = cc

error_is_no_answer : (error : ReadError) → error_of error ≡ answer_of End → ⊥
error_is_no_answer error e = cc

-- a reader that gave a line, or met an error, had not come to the end before
pub open_before_line : {A : Type 0} (ended long : Bool) (mark : Mark) → GivenAs mark long → (ended ≡ true → A × (answer_of mark ≡ answer_of End)) → ended ≡ false
open_before_line false long mark as_given f = refl
open_before_line true long Whole as_given f = absurd (whole_is_not_end (f refl).1)
open_before_line true long Long as_given f = absurd (long_is_not_end (f refl).1)
open_before_line true long End as_given f = absurd as_given

pub open_before_error : {A : Type 0} (ended : Bool) (error : ReadError) → (ended ≡ true → A × (error_of error ≡ answer_of End)) → ended ≡ false
open_before_error ended error f = grind (arith, error_is_no_answer)
