-- What a tree measures of pairs, and what is found of neighbours by their places.
use Rattle.std.proofs.Common.{◌≡◌, ℕ, zero, suc, ◌+◌, ◌-◌, ◌<◌, ◌≤◌, ℤ, pos, ◌+ℤ◌, Option, Some, List, [], ◌∷◌, length, take, drop, slice_get, refl, sym, ap, ◌∙◌, arith}
use Rattle.std.specs.List.{AllByRecursion, fold, slice_range}
use Rattle.std.specs.Int.{w128}
use Rattle.std.specs.Int.RustNames.{FitsSigned}
use Rattle.std.proofs.lemmas.Int.{ints, int_wrap_fits}
use Rattle.std.proofs.lemmas.List.{length-take-le, length-drop}
use Rattle.monoid_laws.specs.Measure.{measure_of}
use Rattle.monoid_laws.specs.Summed.{Summed, no_sum, joined_sum}
use Rattle.retro_base.specs.Answers.{sum_of_values}
use Rattle.retro_dictionary.specs.PairMeasure.{one_pair}
use Rattle.retro_dictionary.specs.declared.pairs.Found.{Found}
use Rattle.retro_dictionary.specs.PairSearch.{found_of, in_bits}
use Rattle.retro_base.specs.Facts.{get_take, get_drop}

abbrev pub measure : List (ℤ × ℤ) → Summed
measure ps = measure_of no_sum joined_sum one_pair ps

values-from : (start : ℤ) (ps : List (ℤ × ℤ)) → fold (λ sum pair. sum +ℤ pair.1) start ps ≡ start +ℤ sum_of_values ps
values-from start [] = omega (arith, ints)
values-from start (p ∷ ps) = omega (arith, ints, values-from (start +ℤ p.1) ps, values-from (pos 0 +ℤ p.1) ps)

measured-sum : (ps : List (ℤ × ℤ)) → (measure ps).sum ≡ sum_of_values ps
measured-sum [] = refl
measured-sum (p ∷ ps) = omega (arith, ints, measured-sum ps, values-from (pos 0 +ℤ p.1) ps)

-- what holds of all holds of the first so many
pub all_taken : {A : Type 0} (P : A → Type 0) (rs : List A) (m : ℕ) → AllByRecursion P rs → AllByRecursion P (take m rs)
all_taken P rs zero all = tt
all_taken P [] (suc m) all = tt
all_taken P (r ∷ rs) (suc m) all = (all.0, all_taken P rs m all.1)

in_range : {A : Type 0} (xs : List A) (from to place : ℕ) → place < to - from → slice_get (slice_range xs from to) place ≡ slice_get xs (from + place)
in_range xs from to place within = get_take (drop from xs) (to - from) place within ∙ get_drop xs from place

-- the range of one place
taken_one : {A : Type 0} (xs : List A) (place : ℕ) (x : A) → slice_get xs place ≡ Some x → take 1 (drop place xs) ≡ x ∷ []
taken_one [] place x there = absurd (cc)
taken_one (y ∷ ys) zero x there = let same : y ≡ x = cc in ap (λ z. z ∷ []) same
taken_one (y ∷ ys) (suc place) x there = taken_one ys place x there

pub range_of_one : {A : Type 0} (xs : List A) (place : ℕ) (x : A) → slice_get xs place ≡ Some x → slice_range xs place (suc place) ≡ x ∷ []
range_of_one xs place x there = ap (λ n. take n (drop place xs)) (let one : suc place - place ≡ 1 = omega arith in one) ∙ taken_one xs place x there

-- what is found, by its parts
abbrev pub found : ℕ → ℤ → Option (ℤ × ℤ) → Option (ℤ × ℤ) → Found
found count sum least greatest = record { count = count; sum = sum; least = least; greatest = greatest }

pub same : (m n : ℕ) (x y : ℤ) (a b c d : Option (ℤ × ℤ)) → m ≡ n → x ≡ y → a ≡ b → c ≡ d → found m x a c ≡ found n y b d
same m n x y a b c d p q r s = cc

-- of the pairs in a range their sum was measured, and the first and the last were read
pub found_by_places : (items : List (ℤ × ℤ)) (from to : ℕ) (sum : ℤ) (first last : ℤ × ℤ) → from < to → to ≤ length items
    → sum ≡ (measure (slice_range items from to)).sum → FitsSigned w128 sum → slice_get items from ≡ Some first → slice_get items (to - 1) ≡ Some last
    → found (to - from) sum (Some first) (Some last) ≡ found_of (slice_range items from to)
found_by_places items from to sum first last some within is fits least greatest =
    let ps = slice_range items from to in
    let count : length ps ≡ to - from = omega (arith, length-take-le (to - from) (drop from items) (omega (arith, length-drop from items))) in
    let value : sum ≡ sum_of_values ps = is ∙ measured-sum ps in
    let held : sum ≡ in_bits (sum_of_values ps) = sym (int_wrap_fits w128 sum fits) ∙ ap in_bits value in
    let least_is : slice_get ps 0 ≡ Some first = in_range items from to 0 (omega arith) ∙ ap (slice_get items) (let here : from + 0 ≡ from = omega arith in here) ∙ least in
    let greatest_is : slice_get ps (length ps - 1) ≡ Some last =
    ap (slice_get ps) (let end : length ps - 1 ≡ to - from - 1 = omega (arith, count) in end) ∙ in_range items from to (to - from - 1) (omega arith)
    ∙ ap (slice_get items) (let there : from + (to - from - 1) ≡ to - 1 = omega arith in there) ∙ greatest in
    same (to - from) (length ps) sum (in_bits (sum_of_values ps)) (Some first) (slice_get ps 0) (Some last) (slice_get ps (length ps - 1)) (sym count) held (sym least_is) (sym greatest_is)
