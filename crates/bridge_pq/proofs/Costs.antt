-- Costs of calls one after another.
use Rattle.std.proofs.Common.{◌≡◌, ℕ, ◌+◌, ◌≤◌, refl, arith}
use Rattle.costs.specs.Digits.{digits}
use Rattle.costs.specs.Visits.{VisitsWithin}
use Rattle.costs.specs.VisitsLaws.{visits-add, digits-monotone}

pub no_visit : (factor length steps : ℕ) → VisitsWithin factor length steps steps
no_visit factor length steps = record { none_lost = omega arith; few = omega arith }

-- a greater factor is a bound too
pub visits-more : (factor more length before after : ℕ) → VisitsWithin factor length before after → VisitsWithin (factor + more) length before after
visits-more factor more length before after visits = visits-add factor more length before after after visits (no_visit more length after)

one_digit : digits 0 ≡ 1
unfolding digits
one_digit = refl

pub some_digits : (n : ℕ) → 1 ≤ digits n
some_digits n = omega (arith, digits-monotone 0 n (omega arith), one_digit)

-- a search, and a read of so many items
pub visits_read : (count length before between after : ℕ) → count ≤ 32 → VisitsWithin 12 length before between → VisitsWithin 12 length (between + count) after
    → VisitsWithin 56 length before after
visits_read count length before between after few search read = record {
  none_lost = omega (arith, search.none_lost, read.none_lost);
  few = omega (arith, search.few, read.few, few, some_digits (length + 1));
}
