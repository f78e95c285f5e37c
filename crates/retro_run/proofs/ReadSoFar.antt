-- What the reads of a run gave, and where it stands when it meets out of memory.
use Rattle.std.proofs.Common.{◌≡◌, ◌⊎◌, ℕ, ◌+◌, ◌≤◌, Bool, true, false, List, [], ◌∷◌, ◌++◌, length, take, drop, refl, sym, ap, ◌∙◌, subst, arith, append_assoc, append-nil}
use Rattle.std.proofs.Common.{length-append, Result, inl, inr}
use Rattle.std.proofs.lemmas.List.{append_cancel_right, take-append-drop, take-append-le, take_at}
use Rattle.retro_io.specs.declared.mark.Mark.{Mark}
use Rattle.retro_io.specs.declared.mark.Mark.TheVariants.{Whole, Long, End}
use Rattle.retro_io.specs.declared.source.Source.{Ghosts}
use Rattle.retro_io.specs.DueReads.{ReadsDue, WereDue, given_by}
use Rattle.retro_io.specs.LineLaws.{lines-cut, lines-last}
use Rattle.retro_io.specs.Lines.{lines, has_line_feed, line_feed, without_return}
use Rattle.retro_io.specs.Reads.{GivesFirst, GivesPiece}
use Rattle.retro_run.specs.OutOfMemory.{IsLastRead, IsMetAtLine}
use Rattle.retro_run.specs.Output.{up_to_last_feed}
use Rattle.retro_run.proofs.Shown.{GivenAs}
use Rattle.retro_run.proofs.WholeLines.{up_to-few, up_to-lines, up_to-starts, AreWhole}

-- the last of some reads: none of the bytes before it ended a line
record IsLastOf {S E : Type 0} (reads : S → ℕ → Result (List ℕ) E → S → Type 0) (held got : List ℕ) (after : S) : Type 0 where
  first : List ℕ
  room : ℕ
  answer : Result (List ℕ) E
  before : S
  unbroken : has_line_feed (held ++ first) ≡ false
  read : reads before room answer after
  cut : got ≡ first ++ given_by answer

last_of : {S E : Type 0} (reads : S → ℕ → Result (List ℕ) E → S → Type 0) (left : ℕ) (held : List ℕ) (closed : Bool) (before : S) (got : List ℕ) (closes : Bool) (after : S)
    → ReadsDue reads left held closed before got closes after → ((after ≡ before) × (got ≡ [])) ⊎ IsLastOf reads held got after
last_of reads left held closed before _ _ _ ReadsDue.none = inl (refl, refl)
last_of reads left held closed before _ _ _ (ReadsDue.read got room answer middle after due unbroken offers read) =
    inr record { first = got; room = room; answer = answer; before = middle; unbroken = unbroken; read = read; cut = refl }

-- the last read is known, and the whole lines before it are not among the rest, which was not given yet
pub record IsRead {S : Type 0} (I : Ghosts S) (source' : S) (script left rest : List ℕ) : Type 0 where
  pub early : List ℕ
  pub last : List ℕ
  pub reads : IsLastRead I source' script left early last
  pub few : length (up_to_last_feed early) + length rest ≤ length script

-- nothing was read, or the last read is known
abbrev pub IsReadSoFar : {S : Type 0} → Ghosts S → S → S → List ℕ → List ℕ → List ℕ → Type 0
IsReadSoFar I source source' script left held = ((source' ≡ source) × (held ≡ [])) ⊎ IsRead I source' script left (held ++ left)

-- and so it is after the reads for one more line
pub read_on : {S : Type 0} (I : Ghosts S) (source middle after : S) (script left left' held past got : List ℕ) (limit : ℕ) (closed : Bool)
    → IsReadSoFar I source middle script left held → script ≡ past ++ (held ++ left) → left ≡ got ++ left'
    → WereDue I.reads limit held closed middle got after
    → ((after ≡ source) × (held ≡ []) × (got ≡ [])) ⊎ IsRead I after script left' (held ++ left)
read_on I source middle after script left left' held past got limit closed so_far cut given due =
    elim (last_of I.reads limit held closed middle got due.closes after due.due) [
      | inl none ↦ elim so_far [
        | inl start ↦ inl (none.0 ∙ start.0, start.1, none.1)
        | inr read ↦ let same : left ≡ left' = given ∙ ap (λ xs. xs ++ left') none.1 in
            inr (subst (λ s. IsRead I s script left' (held ++ left)) (sym none.0) (subst (λ l. IsRead I middle script l (held ++ left)) same read))
      ]
      | inr last ↦ inr record {
        early = past ++ (held ++ last.first);
        last = given_by last.answer;
        reads = record {
          cut = cut ∙ ap (λ xs. past ++ (held ++ xs)) (given ∙ ap (λ xs. xs ++ left') last.cut)
              ∙ ap (λ xs. past ++ (held ++ xs)) (append_assoc last.first (given_by last.answer) left')
              ∙ ap (λ xs. past ++ xs) (sym (append_assoc held last.first (given_by last.answer ++ left')))
              ∙ sym (append_assoc past (held ++ last.first) (given_by last.answer ++ left'));
          before = last.before;
          room = last.room;
          answer = last.answer;
          read = last.read;
          gave = refl;
        };
        few = omega (arith, up_to-few past (held ++ last.first) last.unbroken, ap length cut, length-append past (held ++ left));
      }
    ]

-- the line of a piece is the first one of all that comes
pub lines_ahead : (mark : Mark) (shown : List ℕ) (ended : Bool) (bytes after left : List ℕ) (p : GivesPiece mark shown ended bytes after)
    → (ended ≡ true → left ≡ []) → lines (bytes ++ left) ≡ without_return p.piece ∷ lines (after ++ left)
lines_ahead mark shown ended bytes after left p none = elim p.cut [
  | inl e ↦ ap (λ xs. lines (xs ++ left)) e ∙ ap lines (append_assoc p.piece (line_feed ∷ after) left) ∙ lines-cut p.piece (after ++ left) p.unbroken
  | inr e ↦ ap (λ xs. lines (bytes ++ xs)) (none e.2) ∙ ap lines (append-nil bytes ∙ e.0) ∙ lines-last p.piece p.unbroken e.3
      ∙ sym (ap (λ xs. without_return p.piece ∷ lines xs) (ap (λ xs. xs ++ left) e.1 ∙ none e.2))
]

-- fewer bytes are left to give
pub fewer : (mark : Mark) (shown : List ℕ) (ended : Bool) (bytes after left : List ℕ) → GivesPiece mark shown ended bytes after
    → length (after ++ left) ≤ length (bytes ++ left)
fewer mark shown ended bytes after left p = elim p.cut [
  | inl e ↦ omega (arith, ap length e, length-append p.piece (line_feed ∷ after), length-append after left, length-append bytes left)
  | inr e ↦ omega (arith, ap length e.1, length-append after left, length-append bytes left)
]

-- nothing gives no line
pub none_gives_none : (mark : Mark) (shown : List ℕ) (ended : Bool) (bytes after : List ℕ) → bytes ≡ [] → GivesPiece mark shown ended bytes after → ⊥
none_gives_none mark shown ended bytes after none p = elim p.cut [
  | inl e ↦ omega (arith, ap length none, ap length e, length-append p.piece (line_feed ∷ after))
  | inr e ↦ omega (arith, ap length none, ap length e.0, e.3)
]

-- a line is given by its piece
pub piece_of : (mark : Mark) (long : Bool) (shown : List ℕ) (ended : Bool) (bytes after : List ℕ) → GivenAs mark long
    → GivesFirst mark shown ended bytes after → GivesPiece mark shown ended bytes after
piece_of Whole long shown ended bytes after as_given first = first
piece_of Long long shown ended bytes after as_given first = first
piece_of End long shown ended bytes after as_given first = absurd as_given

-- lines that are whole are those of their bytes
lines_of_whole : (past : List ℕ) (given : List (List ℕ)) → AreWhole past given → given ≡ lines past
lines_of_whole past given whole = sym (append-nil given) ∙ sym (whole.parts []) ∙ ap lines (append-nil past)

-- each line that ended before the last read is among those given
early_given : (past rest early more script : List ℕ) (given : List (List ℕ)) → AreWhole past given → script ≡ past ++ rest → script ≡ early ++ more
    → length (up_to_last_feed early) ≤ length past → (later : List (List ℕ)) × (given ≡ lines (up_to_last_feed early) ++ later)
early_given past rest early more script given whole cut cut_early few =
    let first = up_to_last_feed early in
    let starts = up_to-starts early in
    let from_first : script ≡ first ++ (starts.rest ++ more) =
    cut_early ∙ ap (λ xs. xs ++ more) starts.cut ∙ append_assoc first starts.rest more in
    let first_is : first ≡ take (length first) past =
    sym (take_at first (starts.rest ++ more) (length first) refl) ∙ ap (take (length first)) (sym from_first ∙ cut) ∙ take-append-le (length first) past rest few in
    let past_is : past ≡ first ++ drop (length first) past =
    sym (take-append-drop (length first) past) ∙ ap (λ xs. xs ++ drop (length first) past) (sym first_is) in (
      lines (drop (length first) past),
      lines_of_whole past given whole ∙ ap lines past_is ∙ up_to-lines early (drop (length first) past),
    )

-- at a line that was given, after all lines before it were answered
pub met_at_line : {S : Type 0} (I : Ghosts S) (source after : S) (script left left' held held' past got shown : List ℕ) (given : List (List ℕ)) (mark : Mark) (ended : Bool)
    → AreWhole past given → script ≡ past ++ (held ++ left) → left ≡ got ++ left' → IsRead I after script left' (held ++ left)
    → (piece : GivesPiece mark shown ended (held ++ got) held') → IsMetAtLine I source after script left' given (without_return piece.piece ∷ lines (held' ++ left'))
met_at_line I source after script left left' held held' past got shown given mark ended whole cut came read piece =
    let from_came : held ++ left ≡ (held ++ got) ++ left' = ap (λ xs. held ++ xs) came ∙ sym (append_assoc held got left') in
    let taken : read.early ++ read.last ≡ past ++ (held ++ got) =
    append_cancel_right (read.early ++ read.last) (past ++ (held ++ got)) left'
    (append_assoc read.early read.last left' ∙ sym read.reads.cut ∙ cut ∙ ap (λ xs. past ++ xs) from_came ∙ sym (append_assoc past (held ++ got) left')) in
    let ahead = lines_ahead mark shown ended (held ++ got) held' [] piece (λ e. refl) in
    let early = early_given past (held ++ left) read.early (read.last ++ left') script given whole cut read.reads.cut
    (omega (arith, read.few, ap length cut, length-append past (held ++ left))) in
    record {
      early = read.early;
      last = read.last;
      reads = read.reads;
      line = without_return piece.piece;
      others = lines held';
      taken = ap lines taken ∙ whole.parts (held ++ got) ∙ ap (λ ls. given ++ ls)
          (ap lines (sym (append-nil (held ++ got))) ∙ ahead ∙ ap (λ xs. without_return piece.piece ∷ lines xs) (append-nil held'));
      unread = lines (held' ++ left');
      next = refl;
      later = early.0;
      early_answered = early.1;
    }
