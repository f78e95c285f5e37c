-- How the first word of a line is cut off: over any test `p` of the bytes that divide words.
use Rattle.std.proofs.Common.{◌≡◌, ℕ, Bool, true, false, not, cond, List, [], ◌∷◌, length, take, drop, refl, sym, ap, ◌∙◌, inl, inr, eqb, ◌-◌, arith}
use Rattle.std.specs.Prelude.{filter}
use Rattle.std.specs.List.{list_all, slice_split, prefix_len, position_or_len}
use Rattle.std.proofs.lemmas.Bool.{cases_Bool, ne_eqb}
use Rattle.std.proofs.lemmas.List.{take_rest}
use Rattle.std.proofs.Math.Numerals.{one-add}
use Rattle.script_grammar.specs.Words.{is_filled, is_nil, is_space, words}

module _ (p : ℕ → Bool) where
  -- the parts between dividing bytes that are not empty
  abbrev parts : List ℕ → List (List ℕ)
  parts xs = filter is_filled (slice_split p xs)

  -- what is after the dividing bytes at the front
  abbrev after : List ℕ → List ℕ
  after xs = drop (prefix_len p xs) xs

  -- the bytes before the first dividing byte, and those from it on
  abbrev first : List ℕ → List ℕ
  first xs = take (position_or_len p xs) xs

  abbrev others : List ℕ → List ℕ
  others xs = drop (position_or_len p xs) xs

  -- the split list has the first part in front, and the parts of what is after it
  record Cut (xs : List ℕ) : Type 0 where
    rest : List (List ℕ)
    whole : slice_split p xs ≡ first xs ∷ rest
    tail : filter is_filled rest ≡ parts (others xs)

  cut : (xs : List ℕ) → Cut xs
  cut [] = record { rest = []; whole = refl; tail = refl }
  cut (x ∷ xs) = elim (cases_Bool (p x)) [
    | inl divides ↦ record { rest = slice_split p xs; whole = rw divides refl; tail = rw divides (rw divides refl) }
    | inr joins ↦ let c = cut xs in record { rest = c.rest; whole = rw (joins, one-add, c.whole) refl; tail = rw (joins, one-add) c.tail }
  ]

  -- the first part, unless it is empty, and the parts after it
  parts_cut : (xs : List ℕ) → parts xs ≡ cond (is_filled (first xs)) (first xs ∷ parts (others xs)) (parts (others xs))
  parts_cut xs = let c = cut xs in rw (c.whole, c.tail) refl

  -- dividing bytes at the front make no part
  parts_after : (xs : List ℕ) → parts xs ≡ parts (after xs)
  parts_after [] = refl
  parts_after (x ∷ xs) = elim (cases_Bool (p x)) [
    | inl divides ↦ rw (divides, one-add) (parts_after xs)
    | inr joins ↦ rw (joins, joins) refl
  ]

  -- where no part is in front, nothing is
  nothing_after : (xs : List ℕ) → is_filled (first (after xs)) ≡ false → after xs ≡ []
  nothing_after [] empty = refl
  nothing_after (x ∷ xs) empty = elim (cases_Bool (p x)) [
    | inl divides ↦ rw (divides, one-add) (nothing_after xs (rw (divides, one-add) at empty))
    | inr joins ↦ let filled : is_filled (first (after (x ∷ xs))) ≡ true = rw (joins, joins, one-add) refl in cc
  ]

  pub parts_filled : (xs : List ℕ) → is_filled (first (after xs)) ≡ true → parts xs ≡ first (after xs) ∷ parts (others (after xs))
  parts_filled xs filled = parts_after xs ∙ parts_cut (after xs) ∙ rw filled refl

  pub parts_empty : (xs : List ℕ) → is_filled (first (after xs)) ≡ false → parts xs ≡ []
  parts_empty xs empty = parts_after xs ∙ ap (λ ys. parts ys) (nothing_after xs empty)

  pub others_empty : (xs : List ℕ) → is_filled (first (after xs)) ≡ false → parts (others (after xs)) ≡ []
  others_empty xs empty = rw (nothing_after xs empty) refl

  -- spaces alone make no part, and anything else does
  pub only_dividing : (xs : List ℕ) → list_all p xs ≡ is_nil (parts xs)
  only_dividing [] = refl
  only_dividing (x ∷ xs) = elim (cases_Bool (p x)) [
    | inl divides ↦ rw divides (only_dividing xs)
    | inr joins ↦
        let filled : is_filled (first (x ∷ xs)) ≡ true = rw (joins, one-add) refl in
        let none : list_all p (x ∷ xs) ≡ false = rw joins refl in
        let some : is_nil (parts (x ∷ xs)) ≡ false = ap is_nil (parts_cut (x ∷ xs)) ∙ rw filled refl in
        none ∙ sym some
  ]

-- the first word of a line, and the bytes after it
abbrev pub first_word : List ℕ → List ℕ
first_word line = take (position_or_len is_space (drop (prefix_len is_space line) line)) (drop (prefix_len is_space line) line)

abbrev pub after_first_word : List ℕ → List ℕ
after_first_word line = drop (position_or_len is_space (drop (prefix_len is_space line) line)) (drop (prefix_len is_space line) line)

-- a line with a word has it in front
pub words_cut : (line : List ℕ) → is_filled (first_word line) ≡ true → words line ≡ first_word line ∷ words (after_first_word line)
unfolding words
words_cut line filled = parts_filled is_space line filled

-- a line without one has none, nor has what is after its spaces
pub words_none : (line : List ℕ) → is_filled (first_word line) ≡ false → words line ≡ []
unfolding words
words_none line empty = parts_empty is_space line empty

pub words_none_after : (line : List ℕ) → is_filled (first_word line) ≡ false → words (after_first_word line) ≡ []
unfolding words
words_none_after line empty = others_empty is_space line empty

-- a word that was cut off a line, and what is after it, by their places: `&line[start..].split_at(size)`
pub record IsCutOff (line word rest : List ℕ) (start size : ℕ) : Type 0 where
  pub start_is : start ≡ prefix_len is_space line
  pub size_is : size ≡ position_or_len is_space (take (length line - start) (drop start line))
  pub word_is : word ≡ take size (take (length line - start) (drop start line))
  pub rest_is : rest ≡ drop size (take (length line - start) (drop start line))

-- they are the first word and what is after it
cut_off_is : (line word rest : List ℕ) (start size : ℕ) → IsCutOff line word rest start size → (word ≡ first_word line) × (rest ≡ after_first_word line)
cut_off_is line word rest start size cut =
    let part : take (length line - start) (drop start line) ≡ drop (prefix_len is_space line) line = take_rest line start ∙ ap (λ n. drop n line) cut.start_is in
    let size_part : size ≡ position_or_len is_space (drop (prefix_len is_space line) line) = rw part at cut.size_is in
    (cut.word_is ∙ rw (part, size_part) refl, cut.rest_is ∙ rw (part, size_part) refl)

filled_by_length : (word : List ℕ) → is_filled word ≡ not (eqb (length word) 0)
filled_by_length [] = refl
filled_by_length (byte ∷ bytes) = sym (ap not (ne_eqb (length (byte ∷ bytes)) 0 (λ same. omega arith)))

pub cut_off_none : (line word rest : List ℕ) (start size : ℕ) → IsCutOff line word rest start size → eqb (length word) 0 ≡ true → (words line ≡ []) × (words rest ≡ [])
cut_off_none line word rest start size cut none =
    let same : (word ≡ first_word line) × (rest ≡ after_first_word line) = cut_off_is line word rest start size cut in
    let empty : is_filled (first_word line) ≡ false = ap is_filled (sym same.0) ∙ filled_by_length word ∙ ap not none in
    (words_none line empty, ap words same.1 ∙ words_none_after line empty)

pub cut_off_some : (line word rest : List ℕ) (start size : ℕ) → IsCutOff line word rest start size → eqb (length word) 0 ≡ false → words line ≡ word ∷ words rest
cut_off_some line word rest start size cut some =
    let same : (word ≡ first_word line) × (rest ≡ after_first_word line) = cut_off_is line word rest start size cut in
    let filled : is_filled (first_word line) ≡ true = ap is_filled (sym same.0) ∙ filled_by_length word ∙ ap not some in
    words_cut line filled ∙ rw (same.0, same.1) refl

pub only_spaces : (line : List ℕ) → list_all is_space line ≡ is_nil (words line)
unfolding words
only_spaces line = only_dividing is_space line
