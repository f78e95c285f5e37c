-- How digits bound numbers, and how bounds by digits are joined. The layers above cite these laws.
use Rattle.std.proofs.Common.{◌≡◌, ℕ, zero, suc, ◌+◌, ◌*◌, ◌/◌, ◌^◌, ◌<◌, ◌≤◌, refl, ap, ◌∙◌, arith, inl, inr}
use Rattle.std.proofs.lemmas.Bool.{lt-ltb, le-ltb, cases_lt}
use Rattle.std.proofs.lemmas.Nat.{pow-add}
use Rattle.std.proofs.Math.Nat.{add-mul, mul-add, mul-le-mul_left, mul-le-mul_right}
use Rattle.costs.specs.Digits.{digits_by, digits}
use Rattle.costs.specs.Visits.{VisitsWithin}

pub one_digit : (fuel n : ℕ) → n < 2 → digits_by fuel n ≡ 1
one_digit zero n small = refl
one_digit (suc fuel) n small = simp (lt-ltb n 2 small)

pub one_more : (fuel n : ℕ) → 2 ≤ n → digits_by (suc fuel) n ≡ 1 + digits_by fuel (n / 2)
one_more fuel n large = simp (le-ltb n 2 large)

-- a number is below the power of two of its digits
below_by : (fuel n : ℕ) → n ≤ fuel → n < 2 ^ digits_by fuel n
below_by zero n h = omega arith
below_by (suc fuel) n h = elim (cases_lt n 2) [
  | inl small ↦ rw (one_digit (suc fuel) n small) (omega arith)
  | inr large ↦ rw (one_more fuel n large) (omega (arith, below_by fuel (n / 2) (omega arith), pow-add 2 1 (digits_by fuel (n / 2))))
]

pub below-digits : (n : ℕ) → n < 2 ^ digits n
unfolding digits
below-digits n = below_by n n (omega arith)

monotone_by : (f g m n : ℕ) → m ≤ f → n ≤ g → m ≤ n → digits_by f m ≤ digits_by g n
monotone_by zero zero m n a b c = omega arith
monotone_by zero (suc g) m n a b c = elim (cases_lt n 2) [
  | inl small ↦ rw (one_digit (suc g) n small) (omega arith)
  | inr large ↦ rw (one_more g n large) (omega arith)
]
monotone_by (suc f) zero m n a b c = rw (one_digit (suc f) m (omega arith)) (omega arith)
monotone_by (suc f) (suc g) m n a b c = elim (cases_lt m 2) [
  | inl small ↦ rw (one_digit (suc f) m small) (elim (cases_lt n 2) [
    | inl below ↦ rw (one_digit (suc g) n below) (omega arith)
    | inr above ↦ rw (one_more g n above) (omega arith)
  ])
  | inr large ↦ rw (one_more f m large, one_more g n (omega arith)) (omega (arith, monotone_by f g (m / 2) (n / 2) (omega arith) (omega arith) (omega arith)))
]

-- a greater number has no fewer digits
pub digits-monotone : (m n : ℕ) → m ≤ n → digits m ≤ digits n
unfolding digits
digits-monotone m n h = monotone_by m n m n (omega arith) (omega arith) h

-- a bound for a length is one for each greater length
pub visits-longer : (factor length longer before after : ℕ) → length ≤ longer → VisitsWithin factor length before after → VisitsWithin factor longer before after
visits-longer factor length longer before after h visits = record {
  none_lost = visits.none_lost;
  few = omega (arith, visits.few, mul-le-mul_left factor (digits-monotone (length + 1) (longer + 1) (omega arith)));
}

-- calls one after the other add their factors
pub visits-add : (first second length before between after : ℕ) → VisitsWithin first length before between → VisitsWithin second length between after → VisitsWithin (first + second) length before after
visits-add first second length before between after one two = record {
  none_lost = omega (arith, one.none_lost, two.none_lost);
  few = omega (arith, one.few, two.few, add-mul first second (digits (length + 1)));
}

-- a bound holds with each greater factor
pub visits-more : (few more length before after : ℕ) → few ≤ more → VisitsWithin few length before after → VisitsWithin more length before after
visits-more few more length before after less visits = record {
  none_lost = visits.none_lost;
  few = omega (arith, visits.few, mul-le-mul_right (digits (length + 1)) less);
}

-- one call after another, of which the second sees no more rows
pub visits-then : (first second length shorter before between after : ℕ) → shorter ≤ length → VisitsWithin first length before between
    → VisitsWithin second shorter between after → VisitsWithin (first + second) length before after
visits-then first second length shorter before between after less one two =
    visits-add first second length before between after one (visits-longer second shorter length between after less two)

-- one call more of some that cost the same
pub visits-again : (factor count more length shorter before between after : ℕ) → more ≡ count + 1 → shorter ≤ length → VisitsWithin (factor * count) length before between
    → VisitsWithin factor shorter between after → VisitsWithin (factor * more) length before after
visits-again factor count more length shorter before between after next less one two =
    visits-more (factor * count + factor) (factor * more) length before after (rw next (omega (arith, mul-add factor count 1)))
    (visits-then (factor * count) factor length shorter before between after less one two)

-- one more is at most one digit more
pub digits-one_more : (n : ℕ) → digits (n + 1) ≤ digits n + 1
unfolding digits
digits-one_more zero = omega arith
digits-one_more (suc n) =
    let halved : suc (n + n + 1) / 2 ≡ suc n = omega arith in
    let doubled : digits_by (suc (n + n + 1)) (suc (n + n + 1)) ≡ 1 + digits_by (n + n + 1) (suc n) =
    one_more (n + n + 1) (suc (n + n + 1)) (omega arith) ∙ ap (λ m. 1 + digits_by (n + n + 1) m) halved in
    omega (
      arith,
      doubled,
      monotone_by (suc n + 1) (suc (n + n + 1)) (suc n + 1) (suc (n + n + 1)) (omega arith) (omega arith) (omega arith),
      monotone_by (n + n + 1) (suc n) (suc n) (suc n) (omega arith) (omega arith) (omega arith),
    )

digits-of_few : (digits 0 ≡ 1) × (digits 1 ≡ 1) × (digits 2 ≡ 2)
unfolding digits
digits-of_few = (refl, refl, refl)

-- one more has at most twice as many digits
twice_the_digits : (n : ℕ) → digits (n + 1) ≤ digits n + digits n
twice_the_digits n = omega (arith, digits-one_more n, digits-monotone 0 n (omega arith), digits-of_few)

-- a bound for one item more is twice that bound without it
pub visits-one_longer : (factor length before after : ℕ) → VisitsWithin factor (length + 1) before after → VisitsWithin (factor + factor) length before after
visits-one_longer factor length before after visits = record {
  none_lost = visits.none_lost;
  few = omega (
    arith,
    visits.few,
    mul-le-mul_left factor (twice_the_digits (length + 1)),
    add-mul factor factor (digits (length + 1)),
    mul-add factor (digits (length + 1)) (digits (length + 1)),
  );
}

-- worked out by hand
digits-of_small : (digits 0 ≡ 1) × (digits 1 ≡ 1) × (digits 2 ≡ 2) × (digits 3 ≡ 2) × (digits 4 ≡ 3) × (digits 131071 ≡ 17) × (digits 131072 ≡ 18)
unfolding digits
digits-of_small = (refl, refl, refl, refl, refl, refl, refl)
