-- Where the weights of rows and others after them add up to 0.
use Rattle.std.proofs.Common.{◌≡◌, ℕ, zero, suc, ◌+◌, ◌-◌, ◌<◌, ◌≤◌, ℤ, pos, List, [], ◌∷◌, ◌++◌, length, length-append, take, sym, ap, ◌∙◌, arith, inl, inr}
use Rattle.std.specs.Prelude.{◌+ℤ◌, ◌≤ℤ◌}
use Rattle.std.proofs.lemmas.Bool.{cases_lt}
use Rattle.std.proofs.lemmas.Int.{ints}
use Rattle.std.proofs.lemmas.List.{take-append-le, take_all}
use Rattle.evidence_check.specs.declared.weighed_row.WeighedRow.{WeighedRow}
use Rattle.retro_base.specs.Limits.{most_rows}
use Rattle.evidence_check.specs.Sums.{HasRoom, low_of, sum_of, weight_of}
use Rattle.evidence_check.specs.Zeros.{HasNoZero, IsFirstZero, IsLastZero, IsZero}
use Rattle.evidence_check.proofs.Flat.{take-join}
use Rattle.evidence_check.proofs.SumsJoined.{lesser-first, lesser-second, sum-join}

-- no sum of the first rows is less than the least one
low_least : (xs : List WeighedRow) (place : ℕ) → place < length xs → low_of xs ≤ℤ sum_of (take (suc place) xs)
low_least [] place within = absurd (let none : ⊥ = omega arith in none)
low_least (x ∷ xs) zero within = one (weight_of x) (weight_of x +ℤ low_of xs) (lesser-first (weight_of x) (weight_of x +ℤ low_of xs))
  where
    one : (w l : ℤ) → low_of (x ∷ xs) ≤ℤ w → low_of (x ∷ xs) ≤ℤ (w +ℤ pos 0)
    one w l least = omega (arith, ints)
low_least (x ∷ xs) (suc place) within =
    more (low_of (x ∷ xs)) (weight_of x) (low_of xs) (sum_of (take (suc place) xs)) (lesser-second (weight_of x) (weight_of x +ℤ low_of xs)) (low_least xs place (omega arith))
  where
    more : (m w l s : ℤ) → m ≤ℤ (w +ℤ l) → l ≤ℤ s → m ≤ℤ (w +ℤ s)
    more m w l s first rest = omega (arith, ints)

-- where the least sum is above 0 there is no place
pub none_above : (before : ℤ) (xs : List WeighedRow) (from to : ℕ) → pos 1 ≤ℤ (before +ℤ low_of xs) → HasNoZero before xs from to
none_above before xs from to above zero one up down within zeroes = absurd (let none : ⊥ = omega arith in none)
none_above before xs from to above (suc place) one up down within zeroes =
    apart before (low_of xs) (sum_of (take (suc place) xs)) above (low_least xs place within) zeroes
  where
    apart : (b l s : ℤ) → pos 1 ≤ℤ (b +ℤ l) → l ≤ℤ s → (b +ℤ s) ≡ pos 0 → ⊥
    apart b l s above least zeroes = omega (arith, ints)

module _ (before : ℤ) (xs ys : List WeighedRow) where
  -- the sum up to a place in the second list
  sum_beyond : (k : ℕ) → (before +ℤ sum_of (take (length xs + k) (xs ++ ys))) ≡ ((before +ℤ sum_of xs) +ℤ sum_of (take k ys))
  sum_beyond k =
      let whole : take (length xs + k) (xs ++ ys) ≡ xs ++ take k ys =
      take-join (length xs + k) xs ys ∙ ap (λ first. first ++ take ((length xs + k) - length xs) ys) (take_all (length xs + k) xs (omega arith))
      ∙ ap (λ n. xs ++ take n ys) (let same : (length xs + k) - length xs ≡ k = omega arith in same) in
      ap (λ l. before +ℤ sum_of l) whole ∙ ap (λ n. before +ℤ n) (sum-join xs (take k ys)) ∙ moved before (sum_of xs) (sum_of (take k ys))
    where
      moved : (a b c : ℤ) → (a +ℤ (b +ℤ c)) ≡ ((a +ℤ b) +ℤ c)
      moved a b c = omega (arith, ints)

  pub zero_second : (k : ℕ) → IsZero (before +ℤ sum_of xs) ys k → IsZero before (xs ++ ys) (length xs + k)
  zero_second k zeroes = sum_beyond k ∙ zeroes

  pub second_zero : (k : ℕ) → IsZero before (xs ++ ys) (length xs + k) → IsZero (before +ℤ sum_of xs) ys k
  second_zero k zeroes = sym (sum_beyond k) ∙ zeroes

  pub first_zero : (k : ℕ) → k ≤ length xs → IsZero before (xs ++ ys) k → IsZero before xs k
  first_zero k within zeroes = ap (λ l. before +ℤ sum_of l) (sym (take-append-le k xs ys within)) ∙ zeroes

  pub zero_first : (k : ℕ) → k ≤ length xs → IsZero before xs k → IsZero before (xs ++ ys) k
  zero_first k within zeroes = ap (λ l. before +ℤ sum_of l) (take-append-le k xs ys within) ∙ zeroes

  -- none in the first rows and none in the others is none
  pub none_joined : (from to : ℕ) → HasNoZero before xs from to → HasNoZero (before +ℤ sum_of xs) ys (from - length xs) (to - length xs) → HasNoZero before (xs ++ ys) from to
  none_joined from to first second place one up down within zeroes =
      elim (cases_lt (length xs) place) [
        | inr inside ↦ first place one up down inside (first_zero place inside zeroes)
        | inl beyond ↦
            let place_is : place ≡ length xs + (place - length xs) = omega arith in
            let whole : place ≤ length (xs ++ ys) = within in
            second (place - length xs) (omega arith) (omega arith) (omega arith) (omega (arith, length-append xs ys))
            (second_zero (place - length xs) (rw place_is at zeroes))
      ]

-- the walk on: the rows passed, their weights, and no place among them
pub record NoneBefore (before : ℤ) (passed : List WeighedRow) (from count : ℕ) (sum : ℤ) : Type 0 where
  pub rows : count ≡ length passed
  pub weights : sum ≡ before +ℤ sum_of passed
  pub none : HasNoZero before passed from (length passed)

-- the walk back: the rows before, their weights, and no place after them
pub record NoneAfter (before : ℤ) (all left : List WeighedRow) (to count : ℕ) (sum : ℤ) : Type 0 where
  pub rows : count ≡ length left
  pub weights : sum ≡ before +ℤ sum_of left
  pub none : HasNoZero before all (suc count) to

-- where so many more can be counted up and down, they are few
pub few_of : (before : ℤ) (n : ℕ) → HasRoom before n → n ≤ most_rows
few_of before n room = bounded before n room.up room.down
  where
    bounded : (b : ℤ) (n : ℕ) → (b +ℤ pos n) ≤ℤ pos most_rows → pos n ≤ℤ (b +ℤ pos most_rows) → n ≤ most_rows
    bounded b n up down = omega (arith, ints)

pub none_first : (before : ℤ) (xs : List WeighedRow) (from : ℕ) → HasNoZero before xs from (length xs) → IsFirstZero before xs from 0
none_first before xs from none = record {
  within = λ one. absurd (let wrong : ⊥ = omega arith in wrong);
  inside = omega arith;
  is_zero = λ one. absurd (let wrong : ⊥ = omega arith in wrong);
  first = λ one. absurd (let wrong : ⊥ = omega arith in wrong);
  none = λ zeroes. none;
}

pub none_last : (before : ℤ) (xs : List WeighedRow) (to : ℕ) → HasNoZero before xs 1 to → IsLastZero before xs to 0
none_last before xs to none = record {
  within = omega arith;
  inside = omega arith;
  is_zero = λ one. absurd (let wrong : ⊥ = omega arith in wrong);
  last = none;
}

pub none_beyond : (before : ℤ) (xs : List WeighedRow) (to count : ℕ) → count ≡ length xs → HasNoZero before xs (suc count) to
none_beyond before xs to count long place one up down within zeroes = absurd (let wrong : ⊥ = omega (arith, long) in wrong)
