-- The place of a label among labels that rise.
use Rattle.std.proofs.Common.{◌≡◌, ℕ, zero, suc, ◌+◌, ◌<◌, ◌≤◌, Bool, true, false, not, Some, None, Option, nat_le, nat_lt, ◌==◌, cond, List, [], ◌∷◌, length, slice_get, refl, sym, ap, ◌∙◌, arith, inl, inr, position}
use Rattle.std.proofs.lemmas.Bool.{lt-ltb, le-ltb, le-leb, lt-leb, cases_lt, cases_Bool, ne_eqb}
use Rattle.std.specs.List.{position_or_len, AllByRecursion}
use Rattle.std.proofs.lemmas.List.Sums.{sum_by-cons}
use Rattle.order_labels.specs.Labels.{AreApart}
use Rattle.order_labels.specs.Order.{NeverFalls, count_up_to}

abbrev pub itself : ℕ → ℕ
itself label = label

abbrev is_label : ℕ → ℕ → Bool
is_label label other = other == label

abbrev counts : ℕ → ℕ → ℕ
counts limit label = cond (nat_le label limit) 1 0

counted_here : (limit label : ℕ) (labels : List ℕ) → label ≤ limit → count_up_to itself (label ∷ labels) limit ≡ 1 + count_up_to itself labels limit
counted_here limit label labels within = sum_by-cons (counts limit) label labels ∙ ap (λ b. cond b 1 0 + count_up_to itself labels limit) (le-leb label limit within)

not_counted : (limit label : ℕ) (labels : List ℕ) → limit < label → count_up_to itself (label ∷ labels) limit ≡ 0 + count_up_to itself labels limit
not_counted limit label labels beyond = sum_by-cons (counts limit) label labels ∙ ap (λ b. cond b 1 0 + count_up_to itself labels limit) (lt-leb label limit beyond)

-- none up to a number that is not above the first
pub none_up_to : (limit first last : ℕ) (labels : List ℕ) → limit ≤ first → AreApart 1 first last labels → count_up_to itself labels limit ≡ 0
none_up_to limit first last [] order apart = refl
none_up_to limit first last (label ∷ labels) order apart =
    omega (arith, not_counted limit label labels (omega (arith, apart.0)), none_up_to limit label last labels (omega (arith, apart.0)) apart.1)

other_label : (label other : ℕ) (labels : List ℕ) → (other == label) ≡ false → position_or_len (is_label label) (other ∷ labels) ≡ 1 + position_or_len (is_label label) labels
other_label label other labels not_same = ap (λ b. cond (not b) (1 + position_or_len (is_label label) labels) 0) not_same

same_label : (label other : ℕ) (labels : List ℕ) → (other == label) ≡ true → position_or_len (is_label label) (other ∷ labels) ≡ 0
same_label label other labels same = ap (λ b. cond (not b) (1 + position_or_len (is_label label) labels) 0) same

-- where none is up to it, none is equal to it
none_equal : (label : ℕ) (labels : List ℕ) → count_up_to itself labels label ≡ 0 → position_or_len (is_label label) labels ≡ length labels
none_equal label [] none = refl
none_equal label (other ∷ labels) none = elim (cases_lt label other) [
  | inl beyond ↦ omega (arith, other_label label other labels (ne_eqb other label (λ same. absurd (omega arith))), none_equal label labels (omega (arith, not_counted label other labels beyond)))
  | inr within ↦ absurd (omega (arith, counted_here label other labels within))
]

-- the last label up to it is the only one that may be equal to it
at_last : (label first last count found : ℕ) (labels : List ℕ) → AreApart 1 first last labels → count_up_to itself labels label ≡ suc count → slice_get labels count ≡ Some found
    → position_or_len (is_label label) labels ≡ cond (found == label) count (length labels)
at_last label first last count found [] apart counted read = absurd (omega arith)
at_last label first last zero found (other ∷ labels) apart counted read = elim (cases_lt label other) [
  | inl beyond ↦ absurd (omega (arith, not_counted label other labels beyond, none_up_to label other last labels (omega arith) apart.1))
  | inr within ↦
      let same : other ≡ found = cc in
      elim (cases_Bool (other == label)) [
        | inl is ↦ same_label label other labels is ∙ sym (ap (λ b. cond b 0 (length (other ∷ labels))) (ap (is_label label) (sym same) ∙ is))
        | inr differs ↦ omega (
          arith,
          other_label label other labels differs,
          none_equal label labels (omega (arith, counted_here label other labels within)),
          ap (λ b. cond b 0 (length (other ∷ labels))) (ap (is_label label) (sym same) ∙ differs),
        )
      ]
]
at_last label first last (suc count) found (other ∷ labels) apart counted read = elim (cases_lt label other) [
  | inl beyond ↦ absurd (omega (arith, not_counted label other labels beyond, none_up_to label other last labels (omega arith) apart.1))
  | inr within ↦
      let more : count_up_to itself labels label ≡ suc count = omega (arith, counted_here label other labels within) in
      let below : other < label = elim (cases_lt other label) [
        | inl less ↦ less
        | inr same ↦ absurd (omega (arith, none_up_to label other last labels same apart.1))
      ] in
      let here = other_label label other labels (ne_eqb other label (λ same. absurd (omega arith))) in
      let rest = at_last label other last count found labels apart.1 more read in
      elim (cases_Bool (found == label)) [
        | inl is ↦ omega (arith, here, rest, ap (λ b. cond b count (length labels)) is, ap (λ b. cond b (suc count) (length (other ∷ labels))) is)
        | inr differs ↦ omega (arith, here, rest, ap (λ b. cond b count (length labels)) differs, ap (λ b. cond b (suc count) (length (other ∷ labels))) differs)
      ]
]

abbrev place_at : ℕ → List ℕ → ℕ → Option ℕ
place_at label labels count = cond (nat_lt count (length labels)) (Some count) None

-- no label is up to it
pub no_label : (label : ℕ) (labels : List ℕ) → count_up_to itself labels label ≡ 0 → position (is_label label) labels ≡ None
no_label label labels none = ap (place_at label labels) (none_equal label labels none) ∙ ap (λ b. cond b (Some (length labels)) None) (le-ltb (length labels) (length labels) (omega arith))

-- the last one up to it is it
pub label_found : (label first last count found : ℕ) (labels : List ℕ) → count < length labels → AreApart 1 first last labels → count_up_to itself labels label ≡ suc count → slice_get labels count ≡ Some found
    → (found == label) ≡ true → position (is_label label) labels ≡ Some count
label_found label first last count found labels within apart counted read is =
    ap (place_at label labels) (at_last label first last count found labels apart counted read ∙ ap (λ b. cond b count (length labels)) is) ∙ ap (λ b. cond b (Some count) None) (lt-ltb count (length labels) within)

-- the last one up to it is another one
pub label_missing : (label first last count found : ℕ) (labels : List ℕ) → AreApart 1 first last labels → count_up_to itself labels label ≡ suc count → slice_get labels count ≡ Some found
    → (found == label) ≡ false → position (is_label label) labels ≡ None
label_missing label first last count found labels apart counted read differs =
    ap (place_at label labels) (at_last label first last count found labels apart counted read ∙ ap (λ b. cond b count (length labels)) differs)
    ∙ ap (λ b. cond b (Some (length labels)) None) (le-ltb (length labels) (length labels) (omega arith))

-- labels that rise never fall
abbrev AllAbove : ℕ → List ℕ → Type 0
AllAbove least labels = AllByRecursion (λ later. least ≤ later) labels

all_above : (first last : ℕ) (labels : List ℕ) (least : ℕ) → least ≤ first → AreApart 1 first last labels → AllAbove least labels
all_above first last [] least order apart = tt
all_above first last (label ∷ labels) least order apart = (omega (arith, apart.0), all_above label last labels least (omega (arith, apart.0)) apart.1)

pub never_fall : (first last : ℕ) (labels : List ℕ) → AreApart 1 first last labels → NeverFalls itself labels
never_fall first last [] apart = tt
never_fall first last (label ∷ labels) apart = (all_above label last labels label (omega arith) apart.1, never_fall label last labels apart.1)
