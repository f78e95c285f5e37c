-- Bytes that end with a line feed, or are none, and the bytes up to their last line feed: their lines are whole.
use Rattle.std.proofs.Common.{◌≡◌, ℕ, Bool, true, false, List, [], ◌∷◌, ◌++◌, refl, sym, ap, ◌∙◌, append_assoc, append-nil, inl, inr, suc, ◌≤◌, length, map, arith}
use Rattle.std.specs.Prelude.{if◌then◌else◌, ◌==◌}
use Rattle.std.proofs.lemmas.Bool.{false≢true}
use Rattle.retro_io.specs.LineLaws.{lines-cut}
use Rattle.retro_io.specs.declared.mark.Mark.{Mark}
use Rattle.retro_io.specs.Lines.{lines, has_line_feed, line_feed, without_return, onto_first, pieces}
use Rattle.retro_io.specs.Reads.{GivesPiece}
use Rattle.retro_run.specs.Output.{up_to_last_feed}
use Rattle.std.proofs.lemmas.List.{map-append}

if_same : {A : Type 0} (test : Bool) (a : A) → (if test then a else a) ≡ a
if_same true a = refl
if_same false a = refl

broken_at : (piece more : List ℕ) → has_line_feed (piece ++ line_feed ∷ more) ≡ true
broken_at [] more = refl
broken_at (b ∷ piece) more = rw (broken_at piece more) (if_same (b == line_feed) true)

pub up_to_none : (xs : List ℕ) → has_line_feed xs ≡ false → up_to_last_feed xs ≡ []
unfolding up_to_last_feed
up_to_none [] u = refl
up_to_none (b ∷ bs) u = rw u refl

up_to_line : (piece more : List ℕ) → up_to_last_feed (piece ++ line_feed ∷ more) ≡ piece ++ line_feed ∷ up_to_last_feed more
unfolding up_to_last_feed
up_to_line [] more = refl
up_to_line (b ∷ piece) more = rw (broken_at (b ∷ piece) more) (ap (λ xs. b ∷ xs) (up_to_line piece more))

-- the bytes and their lines, whatever comes after them
pub record AreWhole (past : List ℕ) (given : List (List ℕ)) : Type 0 where
  pub up_to : (more : List ℕ) → up_to_last_feed (past ++ more) ≡ past ++ up_to_last_feed more
  pub parts : (more : List ℕ) → lines (past ++ more) ≡ given ++ lines more

-- no bytes
pub are_whole-none : AreWhole [] []
are_whole-none = record { up_to = λ more. refl; parts = λ more. refl }

-- a line with its line feed after them
after_line : (past piece more : List ℕ) → (past ++ (piece ++ line_feed ∷ [])) ++ more ≡ past ++ (piece ++ line_feed ∷ more)
after_line past piece more =
    append_assoc past (piece ++ line_feed ∷ []) more ∙ ap (λ xs. past ++ xs) (append_assoc piece (line_feed ∷ []) more)

whole_line : (past : List ℕ) (given : List (List ℕ)) (piece : List ℕ) → AreWhole past given → has_line_feed piece ≡ false
    → AreWhole (past ++ (piece ++ line_feed ∷ [])) (given ++ without_return piece ∷ [])
whole_line past given piece whole unbroken = record {
  up_to = λ more. ap up_to_last_feed (after_line past piece more) ∙ whole.up_to (piece ++ line_feed ∷ more)
      ∙ ap (λ xs. past ++ xs) (up_to_line piece more) ∙ sym (after_line past piece (up_to_last_feed more));
  parts = λ more. ap lines (after_line past piece more) ∙ whole.parts (piece ++ line_feed ∷ more)
      ∙ ap (λ ls. given ++ ls) (lines-cut piece more unbroken)
      ∙ sym (append_assoc given (without_return piece ∷ []) (lines more));
}

-- the bytes given, with one more line
pub record Further (past now after : List ℕ) (given : List (List ℕ)) (line : List ℕ) (ended : Bool) : Type 0 where
  pub bytes : List ℕ
  pub cut : past ++ now ≡ bytes ++ after
  pub whole : ended ≡ false → AreWhole bytes (given ++ line ∷ [])

pub further : (past now after : List ℕ) (given : List (List ℕ)) (mark : Mark) (shown : List ℕ) (ended : Bool) → AreWhole past given
    → (p : GivesPiece mark shown ended now after) → Further past now after given (without_return p.piece) ended
further past now after given mark shown ended whole p = elim p.cut [
  | inl e ↦ record {
    bytes = past ++ (p.piece ++ line_feed ∷ []);
    cut = ap (λ xs. past ++ xs) e ∙ sym (after_line past p.piece after);
    whole = λ _. whole_line past given p.piece whole p.unbroken;
  }
  | inr e ↦ record {
    bytes = past ++ now;
    cut = sym (append-nil (past ++ now)) ∙ ap (λ xs. (past ++ now) ++ xs) (sym e.1);
    whole = λ unended. absurd (false≢true (sym unended ∙ e.2));
  }
]

-- bytes without a line feed after them make no further whole line
pub up_to-unbroken : (past more : List ℕ) (given : List (List ℕ)) → AreWhole past given → has_line_feed more ≡ false
    → lines (up_to_last_feed (past ++ more)) ≡ given
up_to-unbroken past more given whole unbroken =
    ap lines (whole.up_to more ∙ ap (λ xs. past ++ xs) (up_to_none more unbroken))
    ∙ whole.parts [] ∙ append-nil given

few_if : (test : Bool) (b : ℕ) (xs : List ℕ) (n : ℕ) → length xs ≤ n → length (if test then b ∷ xs else []) ≤ suc n
few_if test b xs n few = grind arith

-- bytes without a line feed add none
pub up_to-few : (past more : List ℕ) → has_line_feed more ≡ false → length (up_to_last_feed (past ++ more)) ≤ length past
unfolding up_to_last_feed
up_to-few [] more unbroken = rw (up_to_none more unbroken) (omega arith)
up_to-few (b ∷ past) more unbroken =
    few_if (has_line_feed (b ∷ (past ++ more))) b (up_to_last_feed (past ++ more)) (length past) (up_to-few past more unbroken)

-- the bytes begin with these
pub record StartsWithBytes (bytes first : List ℕ) : Type 0 where
  pub rest : List ℕ
  pub cut : bytes ≡ first ++ rest

starts_if : (test : Bool) (b : ℕ) (bs first : List ℕ) → StartsWithBytes bs first → StartsWithBytes (b ∷ bs) (if test then b ∷ first else [])
starts_if true b bs first starts = record { rest = starts.rest; cut = ap (λ xs. b ∷ xs) starts.cut }
starts_if false b bs first starts = record { rest = b ∷ bs; cut = refl }

pub up_to-starts : (bytes : List ℕ) → StartsWithBytes bytes (up_to_last_feed bytes)
unfolding up_to_last_feed
up_to-starts [] = record { rest = []; cut = refl }
up_to-starts (b ∷ bs) = starts_if (has_line_feed (b ∷ bs)) b bs (up_to_last_feed bs) (up_to-starts bs)

-- bytes that end with a line feed: their pieces are whole, whatever comes after them
record HasPieces (bytes : List ℕ) : Type 0 where
  one : List ℕ
  others : List (List ℕ)
  parts : (more : List ℕ) → pieces (bytes ++ more) ≡ one ∷ (others ++ pieces more)

up_to-pieces : (bytes : List ℕ) → has_line_feed bytes ≡ true → HasPieces (up_to_last_feed bytes)
unfolding up_to_last_feed
up_to-pieces [] broken = absurd (false≢true broken)
up_to-pieces (b ∷ bs) broken =
    rw broken
    (elim (b == line_feed) as (λ t. (b == line_feed) ≡ t → HasPieces (b ∷ up_to_last_feed bs)) [
      | true ↦ λ is. elim (has_line_feed bs) as (λ t. has_line_feed bs ≡ t → HasPieces (b ∷ up_to_last_feed bs)) [
        | true ↦ λ later. let rest = up_to-pieces bs later in
            record { one = []; others = rest.one ∷ rest.others; parts = λ more. rw is (ap (λ ps. [] ∷ ps) (rest.parts more)) }
        | false ↦ λ none. rw (up_to_none bs none) record { one = []; others = []; parts = λ more. rw is refl }
      ] refl
      | false ↦ λ other.
          let rest = up_to-pieces bs (rw other at broken) in
          record { one = b ∷ rest.one; others = rest.others; parts = λ more. rw other (ap (onto_first b) (rest.parts more)) }
    ] refl)

pieces_whole : (bytes more : List ℕ) → pieces (up_to_last_feed bytes ++ more) ≡ pieces (up_to_last_feed bytes) ++ pieces more
pieces_whole bytes more =
    elim (has_line_feed bytes) as (λ t. has_line_feed bytes ≡ t → pieces (up_to_last_feed bytes ++ more) ≡ pieces (up_to_last_feed bytes) ++ pieces more) [
      | true ↦ λ broken.
          let has = up_to-pieces bytes broken in
          let alone : pieces (up_to_last_feed bytes) ≡ has.one ∷ has.others =
          ap pieces (sym (append-nil (up_to_last_feed bytes))) ∙ has.parts [] ∙ ap (λ ps. has.one ∷ ps) (append-nil has.others) in
          has.parts more ∙ ap (λ ps. ps ++ pieces more) (sym alone)
      | false ↦ λ none. rw (up_to_none bytes none) refl
    ] refl

-- the lines of these bytes are whole, whatever comes after them
pub up_to-lines : (bytes more : List ℕ) → lines (up_to_last_feed bytes ++ more) ≡ lines (up_to_last_feed bytes) ++ lines more
up_to-lines bytes more = ap (map without_return) (pieces_whole bytes more) ∙ map-append without_return (pieces (up_to_last_feed bytes)) (pieces more)
