-- How the first word of a line is cut off.
use Rattle.std.specs.Prelude.{◌==◌}
use Rattle.std.proofs.Common.{◌≡◌, ℕ, ◌-◌, ◌<◌, ◌≤◌, Bool, List, [], ◌∷◌, length, take, drop, refl, sym, inl, inr, ap, ◌∙◌, arith}
use Rattle.std.specs.List.{slice_split, position_or_len}
use Rattle.std.proofs.lemmas.Bool.{cases_Bool}
use Rattle.std.proofs.lemmas.List.{take_rest}
use Rattle.evidence.specs.Reading.{words}
use Rattle.std.proofs.Math.Numerals.{one-add}

module _ (divides : ℕ → Bool) where
  -- the words after a first one
  abbrev pub after : List ℕ → List (List ℕ)
  after [] = []
  after (byte ∷ rest) = slice_split divides rest

  pub first_cut : (line : List ℕ) → slice_split divides line ≡ take (position_or_len divides line) line ∷ after (drop (position_or_len divides line) line)
  first_cut [] = refl
  first_cut (byte ∷ line) = elim (cases_Bool (divides byte)) [
    | inl ends ↦ rw ends refl
    | inr joins ↦ rw (joins, one-add, first_cut line) refl
  ]

-- a word that was cut off a line, and the bytes after it, by their places
pub record IsCutOff (line word back : List ℕ) (size : ℕ) : Type 0 where
  pub size_is : size ≡ position_or_len (λ byte. byte == 32) line
  pub word_is : word ≡ take size line
  pub back_is : back ≡ drop size line

cut_words : (line word back : List ℕ) (size : ℕ) → IsCutOff line word back size → words line ≡ word ∷ after (λ byte. byte == 32) back
cut_words line word back size cut = first_cut (λ byte. byte == 32) line ∙ rw (cut.back_is, cut.word_is, cut.size_is) refl

-- it is the last one where nothing stands after it
pub cut_last : (line word back : List ℕ) (size : ℕ) → IsCutOff line word back size → length back < 1 → words line ≡ word ∷ []
cut_last line word [] size cut none = cut_words line word [] size cut
cut_last line word (byte ∷ rest) size cut none = absurd (omega arith)

-- and else the words after a space follow
pub cut_then : (line word back : List ℕ) (size : ℕ) → IsCutOff line word back size → 1 ≤ length back
    → words line ≡ word ∷ words (take (length back - 1) (drop 1 back))
cut_then line word [] size cut some = absurd (omega arith)
cut_then line word (byte ∷ rest) size cut some =
    cut_words line word (byte ∷ rest) size cut ∙ ap (λ text. word ∷ words text) (sym (take_rest (byte ∷ rest) 1))
