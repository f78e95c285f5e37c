-- Lemmas on reads that were due.
use Rattle.std.proofs.Common.{◌≡◌, ℕ, ◌-◌, ◌<◌, max, Bool, false, List, [], ◌∷◌, ◌++◌, ◌+◌, length, Option, Result, Ok, Err, sym, ap, ◌∙◌, refl, subst, arith}
use Rattle.std.proofs.lemmas.List.{append_assoc, append-nil, length-append}
use Rattle.retro_io.specs.Lines.{has_line_feed}
use Rattle.retro_io.specs.Reads.{Took}
use Rattle.retro_io.specs.Source.{Gives}
use Rattle.retro_io.specs.DueReads.{Offers, ReadOnce, ReadsDue, WereDue, closes, given_by}
use Rattle.retro_io.proofs.ReadLemmas.{Took-then}

-- after a read that gave a byte another one may follow
goes_on : {E : Type 0} (answer : Result (List ℕ) E) → 0 < length (given_by answer) → closes answer ≡ false
goes_on (Ok []) some = absurd (omega (arith, some))
goes_on (Ok (b ∷ bs)) some = refl
goes_on (Err fault) some = absurd (omega (arith, some))

module _ {S E : Type 0} (reads : S → ℕ → Result (List ℕ) E → S → Type 0) where
  -- a read of what is left up to the limit, or of the one byte after it
  pub ReadOnce-limit : (left most : ℕ) (before after : S) (got : List ℕ) → most ≡ max left 1
      → ReadOnce reads most before got after → ReadOnce reads left before got after
  ReadOnce-limit left most before after got is once = record {
    room = once.room;
    answer = once.answer;
    offers = (once.offers.0, omega (arith, is, once.offers.1), omega (arith, is, once.offers.2));
    read = once.read;
    gave = once.gave;
  }

  -- no read
  pub WereDue-none : (left : ℕ) (held : List ℕ) (closed : Bool) (source : S) → WereDue reads left held closed source [] source
  WereDue-none left held closed source = record { closes = closed; due = ReadsDue.none }

  module _ (left rest : ℕ) (held : List ℕ) (closed : Bool) (before middle after : S) (got more : List ℕ)
      (due : ReadsDue reads left held closed before got false middle) (unbroken : has_line_feed (held ++ got) ≡ false)
      (less : rest ≡ left - length got) (once : ReadOnce reads rest middle more after) where
    further : ReadsDue reads left held closed before (got ++ more) (closes once.answer) after
    further =
        subst (λ ys. ReadsDue reads left held closed before (got ++ ys) (closes once.answer) after) once.gave
        (ReadsDue.read got once.room once.answer middle after due unbroken (subst (λ n. Offers n once.room) less once.offers) once.read)

    -- one more read
    pub WereDue-more : WereDue reads left held closed before (got ++ more) after
    WereDue-more = record { closes = closes once.answer; due = further }

    -- one more read, which gave a byte
    pub ReadsDue-more : 0 < length more → ReadsDue reads left held closed before (got ++ more) false after
    ReadsDue-more some =
        subst (λ b. ReadsDue reads left held closed before (got ++ more) b after)
        (goes_on once.answer (omega (arith, ap length once.gave, some))) further

  -- reads that were due, and then further ones
  ReadsDue-then : (left : ℕ) (held : List ℕ) (closed : Bool) (before middle : S) (got : List ℕ)
      → ReadsDue reads left held closed before got false middle → (more : List ℕ) (last : Bool) (after : S)
      → ReadsDue reads (left - length got) (held ++ got) false middle more last after
      → ReadsDue reads left held closed before (got ++ more) last after
  ReadsDue-then left held closed before middle got p _ _ _ ReadsDue.none =
      subst (λ xs. ReadsDue reads left held closed before xs false middle) (sym (append-nil got)) p
  ReadsDue-then left held closed before middle got p _ _ _ (ReadsDue.read more room answer last after q unbroken offers read) =
      subst (λ xs. ReadsDue reads left held closed before xs (closes answer) after) (append_assoc got more (given_by answer))
      (ReadsDue.read (got ++ more) room answer last after (ReadsDue-then left held closed before middle got p more false last q)
      (ap has_line_feed (sym (append_assoc held got more)) ∙ unbroken)
      (subst (λ n. Offers n room) (omega (arith, length-append got more)) offers) read)

  pub WereDue-then : (left rest : ℕ) (held later : List ℕ) (closed : Bool) (before middle after : S) (got more : List ℕ)
      → rest ≡ left - length got → later ≡ held ++ got
      → ReadsDue reads left held closed before got false middle → WereDue reads rest later false middle more after
      → WereDue reads left held closed before (got ++ more) after
  WereDue-then left rest held later closed before middle after got more less same p due = record {
    closes = due.closes;
    due = ReadsDue-then left held closed before middle got p more due.closes after
        (subst (λ n. ReadsDue reads n (held ++ got) false middle more due.closes after) less
        (subst (λ xs. ReadsDue reads rest xs false middle more due.closes after) same due.due));
  }

  -- what was taken, with one more read
  module _ (left rest first count : ℕ) (held : List ℕ) (before middle after : S) (a b c : Option (List ℕ)) (P R : List ℕ → Type 0) (more : List ℕ)
      (took : Took a b first (λ xs. P xs × ReadsDue reads left held false before xs false middle)) (gives : Gives b more c)
      (sum : count ≡ first + length more) (less : rest ≡ left - first) (unbroken : (xs : List ℕ) → P xs → has_line_feed (held ++ xs) ≡ false)
      (once : ReadOnce reads rest middle more after) (makes : (xs : List ℕ) → P xs → R (xs ++ more)) where
    pub Took-due : Took a c count (λ xs. R xs × WereDue reads left held false before xs after)
    Took-due =
        Took-then a b c (λ xs. P xs × ReadsDue reads left held false before xs false middle) (λ xs. R xs × WereDue reads left held false before xs after)
        first count more took gives sum
        (λ xs n p. (makes xs p.0, WereDue-more left rest held false before middle after xs more p.1 (unbroken xs p.0) (omega (arith, less, n)) once))

    pub Took-due-on : 0 < length more → Took a c count (λ xs. R xs × ReadsDue reads left held false before xs false after)
    Took-due-on some =
        Took-then a b c (λ xs. P xs × ReadsDue reads left held false before xs false middle) (λ xs. R xs × ReadsDue reads left held false before xs false after)
        first count more took gives sum
        (λ xs n p. (makes xs p.0, ReadsDue-more left rest held false before middle after xs more p.1 (unbroken xs p.0) (omega (arith, less, n)) once some))
