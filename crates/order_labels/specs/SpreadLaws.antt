-- Labels that are spread lie as far apart as their gap.
use Rattle.std.proofs.Common.{◌≡◌, ℕ, zero, suc, ◌+◌, ◌*◌, ◌/◌, ◌<◌, ◌≤◌, List, [], ◌∷◌, ◌++◌, length, Some, slice_get, inl, inr, refl, sym, ap, ◌∙◌, arith}
use Rattle.std.proofs.Math.Nat.{add-mul, div-mul-le_self, mul-le-mul_left, pow-le-pow_right}
use Rattle.std.proofs.lemmas.List.{length_push}
use Rattle.std.proofs.lemmas.Nat.{le-div, pow_pos, div-add-mod'}
use Rattle.std.proofs.lemmas.Bool.{cases_lt}
use Rattle.retro_base.specs.Limits.{most_rows}
use Rattle.costs.specs.VisitsLaws.{digits-monotone}
use Rattle.order_labels.specs.LabelLaws.{IsSpreadEvenly}
use Rattle.order_labels.specs.Labels.{AreApart, label_limit, exponent, gap_of, least_gap, multiples, spread}
use Rattle.order_labels.specs.ApartLaws.{apart_more, less_apart}
use Rattle.order_labels.specs.PowerLaws.{power-within, power-greatest}

before_last : {A : Type 0} (xs : List A) (y : A) (index : ℕ) (x : A) → slice_get xs index ≡ Some x → slice_get (xs ++ y ∷ []) index ≡ Some x
before_last [] y index x read = cc
before_last (z ∷ xs) y zero x read = read
before_last (z ∷ xs) y (suc index) x read = before_last xs y index x read

at_last : {A : Type 0} (xs : List A) (y : A) (index : ℕ) → index ≡ length xs → slice_get (xs ++ y ∷ []) index ≡ Some y
at_last [] y zero same = refl
at_last [] y (suc index) same = absurd (omega arith)
at_last (z ∷ xs) y zero same = absurd (omega arith)
at_last (z ∷ xs) y (suc index) same = at_last xs y index (omega arith)

pub length-multiples : (gap count : ℕ) → length (multiples gap count) ≡ count
length-multiples gap zero = refl
length-multiples gap (suc count) = omega (arith, length_push (multiples gap count) ((count + 1) * gap), length-multiples gap count)

pub multiples-apart : (gap count last : ℕ) → (count + 1) * gap ≤ last → AreApart gap 0 last (multiples gap count)
multiples-apart gap zero last fits = omega arith
multiples-apart gap (suc count) last fits =
    apart_more gap 0 last (multiples gap count) ((count + 1) * gap) (multiples-apart gap count ((count + 1) * gap) (omega arith))
    (omega (arith, add-mul (count + 1) 1 gap, (let same : suc count + 1 ≡ count + 1 + 1 = omega arith in ap (λ n. n * gap) same)))

quotient-falls : (count more : ℕ) → count ≤ more → label_limit / (more + 1) ≤ label_limit / (count + 1)
quotient-falls count more order =
    let n = label_limit / (more + 1) in
    let less : n * (count + 1) ≤ n * (more + 1) = mul-le-mul_left n (omega arith) in
    le-div n label_limit (count + 1) (omega arith) (omega (arith, less, div-mul-le_self label_limit (more + 1)))

pub exponent-falls : (count more : ℕ) → count ≤ more → exponent (label_limit / (more + 1)) ≤ exponent (label_limit / (count + 1))
exponent-falls count more order = omega (arith, digits-monotone (label_limit / (more + 1)) (label_limit / (count + 1)) (quotient-falls count more order))

-- one more than so many gaps fit below the limit
pub gap-fits : (count : ℕ) → count + 1 ≤ label_limit → (count + 1) * gap_of count ≤ label_limit
unfolding gap_of
gap-fits count few =
    omega (arith, mul-le-mul_left (count + 1) (power-within (label_limit / (count + 1)) (le-div 1 label_limit (count + 1) (omega arith) (omega arith))), div-add-mod' label_limit (count + 1))

pub spread-apart : (count : ℕ) → count + 1 ≤ label_limit → AreApart (gap_of count) 0 label_limit (spread count)
spread-apart count few = multiples-apart (gap_of count) count label_limit (gap-fits count few)

-- more rows lie no further apart
pub gap-falls : (count more : ℕ) → count ≤ more → gap_of more ≤ gap_of count
unfolding gap_of
gap-falls count more order = pow-le-pow_right (omega arith) (exponent-falls count more order)

pub some_gap : (count : ℕ) → 1 ≤ gap_of count
unfolding gap_of
some_gap count = pow_pos (exponent (label_limit / (count + 1)))

-- so they rise
pub spread-rises : (count : ℕ) → count + 1 ≤ label_limit → AreApart 1 0 label_limit (spread count)
spread-rises count few = less_apart (gap_of count) 1 0 label_limit (spread count) (some_gap count) (spread-apart count few)

-- and no timeline has more rows than those whose labels lie apart by the least gap
pub spread-wide : (count : ℕ) → count ≤ most_rows → AreApart least_gap 0 label_limit (spread count)
spread-wide count few = less_apart (gap_of count) least_gap 0 label_limit (spread count) (gap-falls count most_rows few) (spread-apart count (omega arith))

-- at each index stands that multiple
pub multiple-at : (gap count index : ℕ) → index < count → slice_get (multiples gap count) index ≡ Some ((index + 1) * gap)
multiple-at gap zero index within = absurd (omega arith)
multiple-at gap (suc count) index within = elim (cases_lt index count) [
  | inl below ↦ before_last (multiples gap count) ((count + 1) * gap) index _ (multiple-at gap count index below)
  | inr last ↦ let same : index ≡ count = omega arith in
      at_last (multiples gap count) ((count + 1) * gap) index (omega (arith, length-multiples gap count)) ∙ ap (λ n. Some ((n + 1) * gap)) (sym same)
]

pub spread-evenly : (count : ℕ) → count + 1 ≤ label_limit → IsSpreadEvenly count
unfolding gap_of
spread-evenly count few =
    let n = label_limit / (count + 1) in
    record {
      all = length-multiples (gap_of count) count;
      each = multiple-at (gap_of count) count;
      gap = record { is_power = (exponent n, refl); within = power-within n (le-div 1 label_limit (count + 1) (omega arith) (omega arith)); greatest = power-greatest n };
    }
