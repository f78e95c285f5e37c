-- Lemmas on what the reader took from its source.
use Rattle.std.proofs.Common.{◌≡◌, ℕ, ◌+◌, ◌-◌, ◌≤◌, ◌<◌, Bool, true, false, List, [], ◌∷◌, ◌++◌, Option, None, Some, Result, Ok, Err, length, take, drop, sym, ap, ◌∙◌, refl, subst, inl, inr, arith}
use Rattle.std.proofs.lemmas.Bool.{false≢true}
use Rattle.std.proofs.lemmas.List.{append_assoc, append-nil, nil_from_length, length-append, length-take, length-drop, take-append-drop}
use Rattle.retro_io.specs.declared.mark.Mark.{Mark}
use Rattle.retro_io.specs.declared.mark.Mark.TheVariants.{Whole, Long, End}
use Rattle.retro_io.specs.declared.mark.ReadError.{ReadError}
use Rattle.retro_io.specs.declared.mark.ReadError.TheVariants.{ReadFault, TooLong}
use Rattle.std.specs.Prelude.{IfOk, IsTrue}
use Rattle.retro_io.specs.declared.line_reader.LineReader.{LineReader}
use Rattle.retro_io.specs.declared.source.Source.{Ghosts}
use Rattle.retro_io.specs.LineReader.{GivesLine, given, has_ended, held, held_and_left, line_of, rest_of, source_of}
use Rattle.retro_io.specs.Lines.{lines, longest_line, line_feed, has_line_feed, without_return, StartsWith}
use Rattle.retro_io.specs.Marks.{Shows, GivesNext, GivesNextOf, Measures, gives_line}
use Rattle.retro_io.specs.Reads.{Took, GivesPiece, GivesFirst, MakesOf}
use Rattle.retro_io.specs.Source.{Gives, bytes_left}
use Rattle.retro_io.specs.LineLaws.{unbroken-append, lines-cut, lines-last}
use Rattle.retro_io.proofs.LineLemmas.{unbroken-back, length-without_return, take-without_return}

pub Gives-nil : (left : Option (List ℕ)) → Gives left [] left
Gives-nil None = refl
Gives-nil (Some bytes) = refl

pub Gives-append : (a b c : Option (List ℕ)) (xs ys : List ℕ) → Gives a xs b → Gives b ys c → Gives a (xs ++ ys) c
Gives-append None b c xs ys p q = subst (λ o. Gives o ys c) p q
Gives-append (Some bytes) None c xs ys p q = absurd p
Gives-append (Some bytes) (Some mid) None xs ys p q = absurd q
Gives-append (Some bytes) (Some mid) (Some rest) xs ys p q = p ∙ ap (λ l. xs ++ l) q ∙ sym (append_assoc xs ys rest)

-- nothing was taken
pub Took-none : (left : Option (List ℕ)) (count : ℕ) (P : List ℕ → Type 0) → count ≡ 0 → P [] → Took left left count P
Took-none left count P none holds = record {
  got = [];
  gives = Gives-nil left;
  counts = sym none;
  holds = holds;
}

pub Took-left : (a b : Option (List ℕ)) (count : ℕ) (P Q : List ℕ → Type 0) → Took a b count (λ xs. P xs × Q xs) → Took a b count P
Took-left a b count P Q t = record { got = t.got; gives = t.gives; counts = t.counts; holds = t.holds.0 }

-- first some bytes, and then more
pub Took-then : (a b c : Option (List ℕ)) (P R : List ℕ → Type 0) (first count : ℕ) (ys : List ℕ)
    → Took a b first P → Gives b ys c → count ≡ first + length ys → ((xs : List ℕ) → length xs ≡ first → P xs → R (xs ++ ys)) → Took a c count R
Took-then a b c P R first count ys t gives sum f = record {
  got = t.got ++ ys;
  gives = Gives-append a b c t.got ys t.gives gives;
  counts = length-append t.got ys ∙ ap (λ n. n + length ys) t.counts ∙ sym sum;
  holds = f t.got t.counts t.holds;
}

pub Took-both : (a b c : Option (List ℕ)) (P Q R : List ℕ → Type 0) (first second count : ℕ)
    → Took a b first P → Took b c second Q → count ≡ first + second
    → ((xs ys : List ℕ) → length xs ≡ first → P xs → Q ys → R (xs ++ ys)) → Took a c count R
Took-both a b c P Q R first second count t u sum f =
    Took-then a b c P R first count u.got t u.gives (sum ∙ ap (λ n. first + n) (sym u.counts)) (λ xs n p. f xs u.got n p u.holds)

-- a piece that is given of the bytes is one of the same bytes in other words
pub GivesFirst-of : (mark : Mark) (shown : List ℕ) (ended : Bool) (xs ys after : List ℕ) → xs ≡ ys
    → GivesFirst mark shown ended xs after → GivesFirst mark shown ended ys after
GivesFirst-of mark shown ended xs ys after e p = subst (λ bytes. GivesFirst mark shown ended bytes after) e p

-- what a later call made of the bytes held then is what the whole made of those held first
pub MakesOf-later : (result : Result Mark ReadError) (shown : List ℕ) (ended : Bool) (held mid after xs ys : List ℕ)
    → mid ≡ held ++ xs → has_line_feed mid ≡ false → MakesOf result shown ended mid after ys
    → MakesOf result shown ended held after (xs ++ ys)
MakesOf-later (Ok mark) shown ended held mid after xs ys e u p =
    GivesFirst-of mark shown ended (mid ++ ys) (held ++ (xs ++ ys)) after (ap (λ l. l ++ ys) e ∙ append_assoc held xs ys) p
MakesOf-later (Err ReadFault) shown ended held mid after xs ys e u p =
    unbroken-append xs ys (unbroken-back held xs (ap has_line_feed (sym e) ∙ u)) p
MakesOf-later (Err TooLong) shown ended held mid after xs ys e u p = (
  xs ++ p.0,
  p.1,
  ap (λ l. xs ++ l) p.2 ∙ sym (append_assoc xs p.0 (p.1 ∷ [])),
  unbroken-append xs p.0 (unbroken-back held xs (ap has_line_feed (sym e) ∙ u)) p.3,
)

-- an error: nothing more was taken, or one byte past the limit
pub MakesOf-error : (error : ReadError) (shown : List ℕ) (ended : Bool) (held after xs ys : List ℕ) → has_line_feed xs ≡ false
    → (error ≡ ReadFault → length ys ≡ 0) → (error ≡ TooLong → length ys ≡ 1)
    → MakesOf (Err error) shown ended held after (xs ++ ys)
MakesOf-error ReadFault shown ended held after xs ys u none one =
    ap (λ l. has_line_feed (xs ++ l)) (nil_from_length ys (none refl)) ∙ ap has_line_feed (append-nil xs) ∙ u
MakesOf-error TooLong shown ended held after xs [] u none one = absurd (omega (arith, one refl))
MakesOf-error TooLong shown ended held after xs (y ∷ []) u none one = (xs, y, refl, u)
MakesOf-error TooLong shown ended held after xs (y ∷ z ∷ ys) u none one = absurd (omega (arith, one refl))

-- what is shown of a line that is long for certain
pub Shows-long : (shown piece first : List ℕ) → longest_line + 1 < length piece → shown ≡ take longest_line first → take longest_line first ≡ take longest_line piece
    → Shows Long shown (without_return piece)
Shows-long shown piece first h s f =
    (s ∙ f ∙ sym (take-without_return longest_line piece (omega arith)), omega (arith, length-without_return piece))

pub GivesFirst-piece : (mark : Mark) (shown : List ℕ) (ended : Bool) (bytes after : List ℕ)
    → GivesPiece mark shown ended bytes after → GivesFirst mark shown ended bytes after
GivesFirst-piece Whole shown ended bytes after p = p
GivesFirst-piece Long shown ended bytes after p = p
GivesFirst-piece End shown ended bytes after p = absurd p.shows

-- the piece ends among the bytes that came last
pub cut_after : (held xs ys prefix after : List ℕ) → ys ≡ prefix ++ line_feed ∷ after
    → held ++ (xs ++ ys) ≡ (held ++ (xs ++ prefix)) ++ line_feed ∷ after
cut_after held xs ys prefix after e =
    ap (λ l. held ++ (xs ++ l)) e
    ∙ ap (λ l. held ++ l) (sym (append_assoc xs prefix (line_feed ∷ after)))
    ∙ sym (append_assoc held (xs ++ prefix) (line_feed ∷ after))

-- the bytes held are those held before, and what came after them
pub grown : (held before now xs : List ℕ) → before ≡ held ++ xs → take (length before) now ≡ before
    → now ≡ held ++ (xs ++ drop (length before) now)
grown held before now xs e kept =
    sym (take-append-drop (length before) now)
    ∙ ap (λ l. l ++ drop (length before) now) (kept ∙ e)
    ∙ append_assoc held xs (drop (length before) now)

pub length-after : (before now : List ℕ) (count : ℕ) → length now ≡ length before + count → length (drop (length before) now) ≡ count
length-after before now count h = omega (arith, length-drop (length before) now)

-- what follows the bytes that were taken follows the line too
module _ (shown : List ℕ) (ended : Bool) (bytes after more : List ℕ) (at_end : ended ≡ true → more ≡ []) where
  piece_before : (mark : Mark) → GivesPiece mark shown ended bytes after → GivesPiece mark shown ended (bytes ++ more) (after ++ more)
  piece_before mark p = record {
    piece = p.piece;
    unbroken = p.unbroken;
    shows = p.shows;
    cut = elim p.cut [
      | inl e ↦ inl (ap (λ l. l ++ more) e ∙ append_assoc p.piece (line_feed ∷ after) more)
      | inr e ↦ inr (
        ap (λ l. bytes ++ l) (at_end e.2) ∙ append-nil bytes ∙ e.0,
        ap (λ l. after ++ l) (at_end e.2) ∙ append-nil after ∙ e.1,
        e.2,
        e.3,
      )
    ];
  }

  pub first_before : (mark : Mark) → GivesFirst mark shown ended bytes after → GivesFirst mark shown ended (bytes ++ more) (after ++ more)
  first_before Whole p = piece_before Whole p
  first_before Long p = piece_before Long p
  first_before End p = (
    ap (λ l. bytes ++ l) (at_end p.2) ∙ append-nil bytes ∙ p.0,
    ap (λ l. after ++ l) (at_end p.2) ∙ append-nil after ∙ p.1,
    p.2,
  )

-- the line of a piece is the first of the lines
module _ (mark : Mark) (shown : List ℕ) (ended : Bool) (before after : List ℕ) (p : GivesPiece mark shown ended before after) where
  pub lines_of : lines before ≡ without_return p.piece ∷ lines after
  lines_of = elim p.cut [
    | inl e ↦ ap lines e ∙ lines-cut p.piece after p.unbroken
    | inr e ↦ ap lines e.0 ∙ lines-last p.piece p.unbroken e.3 ∙ ap (λ l. without_return p.piece ∷ lines l) (sym e.1)
  ]

  pub starts_with : StartsWith before (without_return p.piece) after ended
  starts_with = elim p.cut [
    | inl e ↦ inl (p.piece, p.unbroken, refl, e)
    | inr e ↦ inr ((ap has_line_feed e.0 ∙ p.unbroken, ap without_return (sym e.0)), e.1, e.2)
  ]

pub next_of : (mark : Mark) (shown : List ℕ) (ended : Bool) (before after : List ℕ)
    → GivesFirst mark shown ended before after → GivesNext mark shown ended before after
next_of Whole shown ended before after p =
    let line = without_return p.piece in
    let same : line ≡ shown = sym p.shows.0 in (
      omega (arith, p.shows.1, ap length same),
      lines_of Whole shown ended before after p ∙ ap (λ l. l ∷ lines after) same,
      subst (λ l. StartsWith before l after ended) same (starts_with Whole shown ended before after p),
    )
next_of Long shown ended before after p = (
  without_return p.piece,
  p.shows.0,
  p.shows.1,
  lines_of Long shown ended before after p,
  starts_with Long shown ended before after p,
)
next_of End shown ended before after p = (p.0, p.1)

pub GivesNextOf-from : (mark : Mark) (shown : List ℕ) (ended : Bool) (held after got : List ℕ) (a b : Option (List ℕ))
    → Gives a got b → GivesFirst mark shown ended (held ++ got) after → (ended ≡ true → bytes_left b ≡ [])
    → GivesNextOf mark shown ended (held_and_left held a) (held_and_left after b)
GivesNextOf-from mark shown ended held after got None b gives p at_end = ap (held_and_left after) gives
GivesNextOf-from mark shown ended held after got (Some bytes) None gives p at_end = absurd gives
GivesNextOf-from mark shown ended held after got (Some bytes) (Some rest) gives p at_end =
    let whole : (held ++ got) ++ rest ≡ held ++ bytes = append_assoc held got rest ∙ ap (λ l. held ++ l) (sym gives) in
    subst (λ l. GivesNext mark shown ended l (after ++ rest)) whole
    (next_of mark shown ended ((held ++ got) ++ rest) (after ++ rest) (first_before shown ended (held ++ got) after rest at_end mark p))

-- the same of what a call made
pub lines_of_call : (result : Result Mark ReadError) (shown : List ℕ) (ended : Bool) (held after : List ℕ) (a b : Option (List ℕ)) (count : ℕ)
    → Took a b count (MakesOf result shown ended held after) → (ended ≡ true → bytes_left b ≡ [])
    → IfOk result (λ mark. GivesNextOf mark shown ended (held_and_left held a) (held_and_left after b))
lines_of_call (Ok mark) shown ended held after a b count t at_end =
    GivesNextOf-from mark shown ended held after t.got a b t.gives t.holds at_end
lines_of_call (Err error) shown ended held after a b count t at_end = tt

-- each line that is given has at least one byte
piece_progress : (mark : Mark) (shown : List ℕ) (ended : Bool) (held after got : List ℕ) (taken_before taken_after : ℕ)
    → GivesPiece mark shown ended (held ++ got) after → length got ≡ taken_after - taken_before → taken_before ≤ taken_after
    → length held ≤ taken_before → taken_before - length held < taken_after - length after
piece_progress mark shown ended held after got taken_before taken_after p counts rises fits =
    let sum = length-append held got in
    elim p.cut [
      | inl e ↦ omega (arith, sum, ap length e, length-append p.piece (line_feed ∷ after))
      | inr e ↦ omega (arith, sum, ap length e.0, ap length e.1, e.3)
    ]

pub progress_of_call : (result : Result Mark ReadError) (shown : List ℕ) (ended : Bool) (held after : List ℕ) (a b : Option (List ℕ))
    (taken_before taken_after : ℕ)
    → Took a b (taken_after - taken_before) (MakesOf result shown ended held after) → taken_before ≤ taken_after → length held ≤ taken_before
    → IfOk result (λ mark. IsTrue (gives_line mark) → taken_before - length held < taken_after - length after)
progress_of_call (Ok Whole) shown ended held after a b taken_before taken_after t rises fits = λ _.
    piece_progress Whole shown ended held after t.got taken_before taken_after t.holds t.counts rises fits
progress_of_call (Ok Long) shown ended held after a b taken_before taken_after t rises fits = λ _.
    piece_progress Long shown ended held after t.got taken_before taken_after t.holds t.counts rises fits
progress_of_call (Ok End) shown ended held after a b taken_before taken_after t rises fits = λ no. absurd (false≢true no)
progress_of_call (Err error) shown ended held after a b taken_before taken_after t rises fits = tt

-- what is shown of a line has the length that its mark says
pub measures_shown : (mark : Mark) (shown line : List ℕ) → Shows mark shown line → Measures mark shown
measures_shown Whole shown line shows = omega (arith, ap length shows.0, shows.1)
measures_shown Long shown line shows = omega (arith, ap length shows.0, length-take longest_line line, shows.1)
measures_shown End shown line shows = tt

-- .. and so it has after a call that read
pub measures_of_call : (r : Result Mark ReadError) (shown : List ℕ) (ended : Bool) (held after : List ℕ) (before left : Option (List ℕ)) (count : ℕ)
    → Took before left count (MakesOf r shown ended held after) → IfOk r (λ mark. Measures mark shown)
measures_of_call (Ok Whole) shown ended held after before left count took = measures_shown Whole shown _ took.holds.shows
measures_of_call (Ok Long) shown ended held after before left count took = measures_shown Long shown _ took.holds.shows
measures_of_call (Ok End) shown ended held after before left count took = tt
measures_of_call (Err error) shown ended held after before left count took = tt

end_is_not_whole : Whole ≡ End → ⊥
end_is_not_whole e = cc

end_is_not_long : Long ≡ End → ⊥
end_is_not_long e = cc

-- a line that is shown is no end
pub shows_no_end : {A : Type 0} (mark : Mark) (shown line : List ℕ) → Shows mark shown line → mark ≡ End → A
shows_no_end Whole shown line shows is = absurd (end_is_not_whole is)
shows_no_end Long shown line shows is = absurd (end_is_not_long is)
shows_no_end End shown line shows is = absurd shows

-- at the end nothing is held
pub end_of_call : {A : Type 0} (r : Result Mark ReadError) (shown : List ℕ) (ended : Bool) (held after : List ℕ) (before left : Option (List ℕ)) (count : ℕ)
    → Took before left count (MakesOf r shown ended held after) → (ended ≡ true → A) → IfOk r (λ mark. mark ≡ End → (after ≡ []) × (ended ≡ true) × A)
end_of_call (Ok Whole) shown ended held after before left count took at_end = λ is. absurd (end_is_not_whole is)
end_of_call (Ok Long) shown ended held after before left count took at_end = λ is. absurd (end_is_not_long is)
end_of_call (Ok End) shown ended held after before left count took at_end = λ _. (took.holds.1, took.holds.2, at_end took.holds.2)
end_of_call (Err error) shown ended held after before left count took at_end = tt

-- and all of it in one
pub gives_line_from : {S : Type 0} {G : Ghosts S} (r : Result Mark ReadError) (before after : LineReader S G)
    → IfOk r (λ mark. GivesNextOf mark (line_of after) (has_ended after) (rest_of before) (rest_of after))
    → IfOk r (λ mark. Measures mark (line_of after))
    → IfOk r (λ mark. IsTrue (gives_line mark) → given before < given after)
    → IfOk r (λ mark. mark ≡ End → (held after ≡ []) × (has_ended after ≡ true) × (G.ended (source_of after) ≡ true))
    → IfOk r (λ mark. GivesLine mark before after)
gives_line_from (Ok mark) before after lines shown progress at_end =
    record { lines = lines; shown = shown; progress = progress; at_end = at_end }
gives_line_from (Err error) before after lines shown progress at_end = tt
