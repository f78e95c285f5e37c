-- The greatest power of two that is at most a number.
use Rattle.std.proofs.Common.{◌≡◌, ℕ, zero, suc, ◌+◌, ◌-◌, ◌*◌, ◌/◌, ◌^◌, ◌<◌, ◌≤◌, sym, ap, ◌∙◌, arith, inl, inr}
use Rattle.std.proofs.lemmas.Bool.{cases_lt}
use Rattle.std.proofs.lemmas.Nat.{pow-add}
use Rattle.std.proofs.Math.Nat.{pow-le-pow_right}
use Rattle.costs.specs.Digits.{digits_by, digits}
use Rattle.costs.specs.VisitsLaws.{below-digits, one_digit, one_more}
use Rattle.order_labels.specs.Labels.{exponent}

some_digit : (fuel n : ℕ) → 1 ≤ digits_by fuel n
some_digit zero n = omega arith
some_digit (suc fuel) n = elim (cases_lt n 2) [
  | inl small ↦ rw (one_digit (suc fuel) n small) (omega arith)
  | inr large ↦ rw (one_more fuel n large) (omega arith)
]

pub twice : (k : ℕ) → 1 ≤ k → 2 ^ k ≡ 2 * 2 ^ (k - 1)
twice zero some = absurd (omega arith)
twice (suc k) some = omega (arith, pow-add 2 1 k, (let same : suc k ≡ 1 + k = omega arith in ap (λ n. 2 ^ n) same), (let less : suc k - 1 ≡ k = omega arith in ap (λ n. 2 ^ n) less))

within_by : (fuel n : ℕ) → 0 < n → n ≤ fuel → 2 ^ (digits_by fuel n - 1) ≤ n
within_by zero n some h = absurd (omega arith)
within_by (suc fuel) n some h = elim (cases_lt n 2) [
  | inl small ↦ rw (one_digit (suc fuel) n small) (omega arith)
  | inr large ↦
      let less : 1 + digits_by fuel (n / 2) - 1 ≡ digits_by fuel (n / 2) = omega arith in
      rw (one_more fuel n large, less) (omega (arith, twice (digits_by fuel (n / 2)) (some_digit fuel (n / 2)), within_by fuel (n / 2) (omega arith) (omega arith)))
]

some_digits : (n : ℕ) → 1 ≤ digits n
unfolding digits
some_digits n = some_digit n n

-- it is at most the number
pub power-within : (n : ℕ) → 0 < n → 2 ^ exponent n ≤ n
unfolding digits
power-within n some = within_by n n some (omega arith)

-- and its double is greater
pub power-greatest : (n : ℕ) → n < 2 * 2 ^ exponent n
power-greatest n = omega (arith, below-digits n, twice (digits n) (some_digits n))

below_double : (j k : ℕ) → j < k → 2 * 2 ^ j ≤ 2 ^ k
below_double j k order = omega (arith, pow-add 2 1 j, (let more : 2 ^ (1 + j) ≤ 2 ^ k = pow-le-pow_right (omega arith) (omega arith) in more))

-- a power that is at most the number is at most the greatest one
pub power-least : (n k : ℕ) → 2 ^ k ≤ n → 2 ^ k ≤ 2 ^ exponent n
power-least n k within = elim (cases_lt (exponent n) k) [
  | inl less ↦ absurd (omega (arith, below_double (exponent n) k less, power-greatest n))
  | inr more ↦ pow-le-pow_right (omega arith) (omega arith)
]

-- no other power is
pub exponent-is : (n k : ℕ) → 0 < n → 2 ^ k ≤ n → n < 2 * 2 ^ k → exponent n ≡ k
exponent-is n k some within greatest = elim (cases_lt k (exponent n)) [
  | inl less ↦ absurd (omega (arith, below_double k (exponent n) less, power-within n some))
  | inr more ↦ elim (cases_lt (exponent n) k) [
    | inl less ↦ absurd (omega (arith, below_double (exponent n) k less, power-greatest n))
    | inr same ↦ omega arith
  ]
]

pub power-is : (n k power : ℕ) → 0 < n → power ≡ 2 ^ k → power ≤ n → n / 2 < power → power ≡ 2 ^ exponent n
power-is n k power some is within greatest = is ∙ ap (λ j. 2 ^ j) (sym (exponent-is n k some (omega arith) (omega arith)))

pub power-doubled : (k power : ℕ) → power ≡ 2 ^ k → power * 2 ≡ 2 ^ (k + 1)
power-doubled k power is = omega (arith, pow-add 2 k 1)

pub power-next : (k : ℕ) → 2 ^ suc k ≡ 2 * 2 ^ k
power-next k = omega (arith, pow-add 2 1 k, (let same : suc k ≡ 1 + k = omega arith in ap (λ n. 2 ^ n) same))
