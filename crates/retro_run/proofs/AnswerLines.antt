-- An answer is cut into lines, as an input is.
use Rattle.std.proofs.Common.{◌≡◌, ◌≢◌, ℕ, suc, ◌+◌, ◌-◌, ◌<◌, ◌≤◌, true, false, cond, not, List, [], ◌∷◌, ◌++◌, length, take, drop, get_or, eqb, refl, ap, ◌∙◌, arith}
use Rattle.std.specs.List.{position_or_len}
use Rattle.std.proofs.Math.Numerals.{add-one, one-add}
use Rattle.std.proofs.lemmas.Bool.{eq-eqb, eqb-true, ne_eqb}
use Rattle.retro_io.specs.LineLaws.{lines-cut, lines-last}
use Rattle.retro_io.specs.Lines.{has_line_feed, lines, without_return}

-- how many bytes stand before the first line feed
abbrev pub size : List ℕ → ℕ
size text = position_or_len (λ byte. eqb byte 10) text

unbroken : (text : List ℕ) → has_line_feed (take (size text) text) ≡ false
unbroken [] = refl
unbroken (byte ∷ text) = elim (eqb byte 10) as (λ b. eqb byte 10 ≡ b → has_line_feed (take (cond (not b) (1 + size text) 0) (byte ∷ text)) ≡ false) [
  | true ↦ λ is. refl
  | false ↦ λ other. rw one-add (rw other (unbroken text))
] refl

cut_there : (text : List ℕ) → size text < length text → text ≡ take (size text) text ++ 10 ∷ drop (suc (size text)) text
cut_there [] within = absurd (omega arith)
cut_there (byte ∷ text) within =
    elim (eqb byte 10) as (λ b. eqb byte 10 ≡ b → cond (not b) (1 + size text) 0 < suc (length text)
    → byte ∷ text ≡ take (cond (not b) (1 + size text) 0) (byte ∷ text) ++ 10 ∷ drop (suc (cond (not b) (1 + size text) 0)) (byte ∷ text)) [
      | true ↦ λ is here. ap (λ b. b ∷ text) (eqb-true byte 10 is)
      | false ↦ λ other here. rw one-add (ap (λ xs. byte ∷ xs) (cut_there text (omega arith)))
    ] refl within

none : (text : List ℕ) → length text ≤ size text → has_line_feed text ≡ false
none [] past = refl
none (byte ∷ text) past = grind (arith, none text)

-- the first line, and what is after it
pub first_line : (text : List ℕ) (at : ℕ) → at ≡ size text → at < length text → lines text ≡ without_return (take at text) ∷ lines (drop (at + 1) text)
first_line text at is within =
    rw (is, add-one) (ap lines (cut_there text (omega (arith, is))) ∙ lines-cut (take (size text) text) (drop (suc (size text)) text) (unbroken text))

-- the last line
pub last_line : (text : List ℕ) (at : ℕ) → at ≡ size text → length text ≤ at → 0 < length text → lines text ≡ without_return text ∷ []
last_line text at is past some = lines-last text (none text (omega (arith, is))) some

-- a line that ends in a carriage return, and one that does not
pub with_return : (line : List ℕ) (d : ℕ) → 0 < length line → get_or line (length line - 1) d ≡ 13 → take (length line - 1) line ≡ without_return line
with_return [] d some is = absurd (omega arith)
with_return (byte ∷ []) d some is = rw (eq-eqb byte 13 is) refl
with_return (byte ∷ next ∷ line) d some is =
    let n : ℕ = length line in
    let two : suc (suc n) - 1 ≡ suc n = omega arith in
    let one : suc n - 1 ≡ n = omega arith in
    let last : get_or (next ∷ line) n d ≡ 13 = rw two at is in
    let rest : take n (next ∷ line) ≡ without_return (next ∷ line) = rw one at (with_return (next ∷ line) d (omega arith) (rw one last)) in
    rw two (ap (λ xs. byte ∷ xs) rest)

pub no_return : (line : List ℕ) (d : ℕ) → (0 < length line → get_or line (length line - 1) d ≢ 13) → line ≡ without_return line
no_return [] d other = refl
no_return (byte ∷ []) d other = rw (ne_eqb byte 13 (other (omega arith))) refl
no_return (byte ∷ next ∷ line) d other =
    let n : ℕ = length line in
    let two : suc (suc n) - 1 ≡ suc n = omega arith in
    let one : suc n - 1 ≡ n = omega arith in
    let last : get_or (next ∷ line) n d ≢ 13 = rw two at (other (omega arith)) in
    ap (λ xs. byte ∷ xs) (no_return (next ∷ line) d (λ some. rw one last))
